-- 01's table of messages, the rows marked *, and the strict profile's, for every call of the reader of requests and of those that a host links: over the definition they are
-- `messages` and `strict_messages` (request/proofs/Messages.antt), and every call answers as the definition does.
-- Assumes nothing.
use mathlib.Core.Path.{◌≡◌, refl, ap, subst, ◌∙◌}
use mathlib.Core.List.{List, [], ◌∷◌}
use Prim.Native.Nat.{ℕ}
use Rattle.layout.specs.declared.Profile.{Profile}
use Rattle.walk.specs.Judge.{refused, accepted}
use Rattle.walk.specs.Judge as judge
use Rattle.request.specs.Request.{Form, request}
use Rattle.request.specs.Messages.{Outcome, outcome, Row, table, strict_table, Holds}
use Rattle.request.proofs.Order.{room_alone, shows, reading}
use Rattle.request.proofs.Messages.{messages, strict_messages}
use Rattle.promises.specs.Handed.{Shown, in_hand}
use Rattle.promises.specs.Demand3.{Reader}
use Rattle.promises.specs.Called.{request_parse, request_read, request_read_strict}
use Rattle.promises.specs.Starred.{Answers, HoldsFor}
use Rattle.promises.proofs.Steady.{Faithful}
use Rattle.promises.proofs.Handing.{request_faithful}
use Rattle.promises.proofs.HostedRequest.{request_hosted, request_hosted_strict}

module _ (R : Reader Shown) (F : Faithful reading shows R in_hand) where
  answered : (c : R.Call) (a : Outcome) → outcome (R.asked c) (reading (R.asked c) (R.under c)) ≡ a → Answers R c a
  answered c a e = subst (Answers R c) e (go (reading (R.asked c) (R.under c)) refl)
    where
      go : (o : judge.Answer Form) → reading (R.asked c) (R.under c) ≡ o → Answers R c (outcome (R.asked c) o)
      go (refused y) w = F.refuses c y w
      go (accepted q) w = F.accepts c q w

  holds_for : (rows : List Row) → Holds rows → HoldsFor R rows
  holds_for [] h = tt
  holds_for (r ∷ rows) h = (
    λ c e p u. answered c r.answer
        (ap (λ (m : List ℕ). outcome m (reading m (R.under c))) e ∙ ap (outcome r.bytes) (room_alone r.bytes (R.under c))
        ∙ ap (λ (P : Profile). outcome r.bytes (request P r.bytes (R.under c).limit (R.under c).terms.room)) p ∙ h.0 (R.under c).limit (R.under c).terms.room u),
    holds_for rows h.1,
  )

-- of calls of request::Request::parse
pub parse_starred : HoldsFor request_parse table
parse_starred = holds_for request_parse request_faithful table messages

pub parse_strict : HoldsFor request_parse strict_table
parse_strict = holds_for request_parse request_faithful strict_table strict_messages

-- of calls of ntske_read_request
pub read_starred : HoldsFor request_read table
read_starred = holds_for request_read request_hosted table messages

-- of calls of ntske_read_request_strict
pub read_strict : HoldsFor request_read_strict strict_table
read_strict = holds_for request_read_strict request_hosted_strict strict_table strict_messages
