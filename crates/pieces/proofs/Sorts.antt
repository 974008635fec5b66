-- Requests and replies are sorts of read as the calls ask of them.
-- Assumes nothing.
use mathlib.Core.Path.{◌≡◌, refl}
use mathlib.Core.List.{List}
use Prim.Native.Nat.{ℕ}
use Rattle.wire.proofs.Over.{over_none}
use Rattle.walk.specs.Judge as judge
use Rattle.request.specs.Request as requests
use Rattle.request.specs.declared.Request.{Request}
use Rattle.request.specs.declared.Request.TheVariants as request
use Rattle.reply.specs.Reply as replies
use Rattle.pieces.specs.Pieces.{Standing, accepted, refused, answers, standing_by}
use Rattle.pieces.specs.Reads.{request_read, reply_read}
use Rattle.pieces.proofs.Feeding.{Telling}

-- ---- a request

-- what is told of an answer tells how the connection stands after it
unfoldable pub request_stands : requests.Told → Standing
request_stands (requests.key_exchange_is p a d) = accepted
request_stands (requests.fixed_key_is u c s a p k) = accepted
request_stands (requests.support_is u p a k) = accepted
request_stands (requests.refused_with r) = refused r

pub request_told : (m : List ℕ) (a : judge.Answer requests.Form) → request_stands (requests.told_by m a) ≡ standing_by {Q = requests.Form} (answers a)
unfolding request_stands
request_told m (judge.refused r) = refl
request_told m (judge.accepted (requests.key_exchange p a d)) = refl
request_told m (judge.accepted (requests.fixed_key u x a p k)) = refl
request_told m (judge.accepted (requests.support u p a k)) = refl

unfoldable pub request_telling : Telling request_read
unfolding requests.table_after
request_telling = record { stands = request_stands; told = request_told; kept = λ r t. over_none t }

-- where the code has accepted, the connection stands accepted
pub request_accepts : (q : Request) → accepted ≡ request_telling.stands (requests.told_request q)
unfolding request_stands request_telling
request_accepts (request.KeyExchange p a d) = refl
request_accepts (request.FixedKey u c s a p k) = refl
request_accepts (request.Support u p a k) = refl

-- ---- a reply

unfoldable pub reply_stands : replies.Told → Standing
reply_stands (replies.reply_is p a s t k n) = accepted
reply_stands (replies.refused_with r) = refused r

pub reply_told : (m : List ℕ) (a : judge.Answer replies.Form) → reply_stands (replies.told_by m a) ≡ standing_by {Q = replies.Form} (answers a)
unfolding reply_stands
reply_told m (judge.refused r) = refl
reply_told m (judge.accepted (replies.reply p a s t k c)) = refl

unfoldable pub reply_telling : Telling reply_read
unfolding replies.table_after
reply_telling = record { stands = reply_stands; told = reply_told; kept = λ r t. over_none t }
