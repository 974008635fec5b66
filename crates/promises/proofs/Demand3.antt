-- Demand 3: the one statement of specs/Demand3.antt, which has the demand's sentences, of requests and of replies, in every profile: of demand 2's definition, of the crate's
-- reader by its own contract, and of the calls that a host links, one for each profile. Messages to which it applies, computed by the checker: Examples.antt, ExamplesReply.antt.
-- Assumes nothing.
use Rattle.request.proofs.Order as request_order
use Rattle.request.proofs.Order.{request_ordered}
use Rattle.reply.proofs.Order as reply_order
use Rattle.reply.proofs.Order.{reply_ordered}
use Rattle.promises.specs.Handed as requests
use Rattle.promises.specs.HandedReply as replies
use Rattle.promises.specs.Demand3.{Reader, Demand3}
use Rattle.promises.specs.Called.{request_defined, reply_defined, request_parse, reply_parse, request_read, request_read_strict, reply_read, reply_read_strict}
use Rattle.promises.proofs.Steady.{Faithful, by_definition, of_whole, by_calls}
use Rattle.promises.proofs.Handing.{request_faithful}
use Rattle.promises.proofs.HandingReply.{reply_faithful}
use Rattle.promises.proofs.HostedRequest.{request_hosted, request_hosted_strict}
use Rattle.promises.proofs.HostedReply.{reply_hosted, reply_hosted_strict}

-- ---- requests

-- over the definition `request`, in whichever profile: the bodies that are shown are the same
pub request_demand : Demand3 request_defined
request_demand = by_definition request_order.reading request_order.shows request_ordered

-- of every reader whose calls answer as the definition does: what is in hand is the same
request_calls : (R : Reader requests.Shown) → Faithful request_order.reading request_order.shows R requests.in_hand → Demand3 R
request_calls R F = by_calls request_order.reading request_order.shows R requests.in_hand (of_whole request_order.reading request_order.shows F) request_demand

-- of calls of request::Request::parse, in either profile: the kind, the numbers, the names and the keys
pub request_parse_demand : Demand3 request_parse
request_parse_demand = request_calls request_parse request_faithful

-- of calls of ntske_read_request and ntske_read_request_strict: what is in hand by their cells and the table
pub read_request_demand : Demand3 request_read
read_request_demand = request_calls request_read request_hosted

pub read_request_strict_demand : Demand3 request_read_strict
read_request_strict_demand = request_calls request_read_strict request_hosted_strict

-- ---- replies

pub reply_demand : Demand3 reply_defined
reply_demand = by_definition reply_order.reading reply_order.shows reply_ordered

reply_calls : (R : Reader replies.Shown) → Faithful reply_order.reading reply_order.shows R replies.in_hand → Demand3 R
reply_calls R F = by_calls reply_order.reading reply_order.shows R replies.in_hand (of_whole reply_order.reading reply_order.shows F) reply_demand

-- of calls of reply::KeyExchangeResponse::parse: the numbers, the name and the cookies in hand are the same
pub reply_parse_demand : Demand3 reply_parse
reply_parse_demand = reply_calls reply_parse reply_faithful

-- of calls of ntske_read_reply and ntske_read_reply_strict
pub read_reply_demand : Demand3 reply_read
read_reply_demand = reply_calls reply_read reply_hosted

pub read_reply_strict_demand : Demand3 reply_read_strict
read_reply_strict_demand = reply_calls reply_read_strict reply_hosted_strict
