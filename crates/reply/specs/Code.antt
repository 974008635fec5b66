-- What the code asks of the cells and of an answer.
use Rattle.std.specs.Prelude.{ℕ, List, cond, ltb, eqb}
use Rattle.wire.specs.Bytes.{number_at, part_at}
use Rattle.nts.specs.Refusal.{nothing}
use Rattle.walk.specs.Judge.{some}
use Rattle.walk.specs.Found.{entry_in, told_in}
use Rattle.walk.specs.declared.Seen.{Seen}
use Rattle.reply.specs.Reply.{Sent, sent, not_sent, Told, reply_is, refused_with}

-- the number in the first body of a kind; m is the message
unfoldable pub number_in : List ℕ → Seen → ℕ
number_in m x = number_at (part_at m x.start x.len) 0

-- what may have been sent or not
unfoldable pub sent_in : {A : Type 0} → Seen → A → Sent A
sent_in x a = cond (eqb x.count 0) not_sent (sent a)

-- an accepted reply of the message m: p and a are its protocol and algorithm, n is how many cookies, and the rest is as the cells c tell
unfoldable pub accepted_in : List ℕ → List ℕ → ℕ → ℕ → ℕ → Told
accepted_in m c p a n =
    reply_is p a
    (sent_in (entry_in c 6) (record { start = (entry_in c 6).start; len = (entry_in c 6).len }))
    (sent_in (entry_in c 7) (number_in m (entry_in c 7)))
    (some (told_in c 8)) n

-- the decision where both numbers were offered; `at` is the place of the end record
unfoldable pub cookies_for : ℕ → ℕ → List ℕ → List ℕ → ℕ → ℕ → Told
cookies_for room at m c p a =
    cond (eqb (entry_in c 5).count 0) (refused_with (record { number = 15; beside = nothing; place = at }))
    (cond (ltb room (entry_in c 5).count) (refused_with (record { number = 7; beside = nothing; place = at }))
    (accepted_in m c p a (entry_in c 5).count))

-- how many cookies an answer puts into the table
abbrev pub cookies_in : Told → ℕ
cookies_in (reply_is p a s t k n) = n
cookies_in (refused_with r) = 0
