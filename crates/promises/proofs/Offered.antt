-- A reply answers what was asked: what a reader of replies accepts names a protocol and an algorithm that were offered, since the definition accepts no other; and what was offered
-- changes no answer but to 17.
-- Assumes nothing.
use mathlib.Core.Path.{◌≡◌, refl, sym, ap, subst, ◌∙◌}
use mathlib.Core.List.{List, []}
use mathlib.Core.Bool.{true}
use Prim.Native.Nat.{ℕ}
use native.Mathlib.Omega.{arith}
use lib.ListN.{take}
use Rattle.utf8.proofs.Tests.{on}
use Rattle.nts.specs.Refusal.{Beside, nothing, protocol, algorithm, Refused}
use Rattle.layout.specs.declared.Profile.{Profile}
use Rattle.walk.specs.Walk.{Sighting, Outcome, stopped, ended, walk, walked}
use Rattle.walk.specs.Judge.{Terms, Under, finish, read_as}
use Rattle.walk.specs.Found.{place_of}
use Rattle.walk.proofs.Behind.{follows, ended_walked, ended_followed, stopped_walked}
use Rattle.reply.specs.Reply.{reader, Form, reply, judging, reply_of, refused_with, told_by, named_by}
use Rattle.reply.proofs.Offered.{told_cases}
use Rattle.reply.proofs.Order.{reading, shows, Offered, accepted_offered}
use Rattle.promises.specs.HandedReply.{Shown, in_hand}
use Rattle.promises.specs.Demand3.{Reader}
use Rattle.promises.specs.Called.{reply_parse, reply_read, reply_read_strict}
use Rattle.promises.specs.Offered.{protocol_in, algorithm_in, Answers, said, seventeen, Corrected, early, offered, no_protocol, no_algorithm}
use Rattle.promises.proofs.Steady.{Answering, of_whole}
use Rattle.promises.proofs.HandingReply.{reply_faithful}
use Rattle.promises.proofs.HostedReply.{reply_hosted, reply_hosted_strict}

-- what is in hand names the numbers of the bodies that are shown
named : (x : Terms) (m : List ℕ) (q : Form Sighting) → Offered x m q
    → (x.protocols (protocol_in (in_hand (shows m q))) ≡ true) × (x.algorithms (algorithm_in (in_hand (shows m q))) ≡ true)
named x m (reply p a s t k c) o = o

-- every reader whose calls accept as the definition does
pub answers_by : (R : Reader Shown) → Answering reading shows R in_hand → Answers R
answers_by R F = record {
  protocol = λ c s h. subst (λ (z : Shown). (R.under c).terms.protocols (protocol_in z) ≡ true) (F.accepted_by c s h).2 (among c s h).0;
  algorithm = λ c s h. subst (λ (z : Shown). (R.under c).terms.algorithms (algorithm_in z) ≡ true) (F.accepted_by c s h).2 (among c s h).1;
}
  where
    among : (c : R.Call) (s : Shown) (h : R.Accepts c s)
        → ((R.under c).terms.protocols (protocol_in (in_hand (shows (R.asked c) (F.accepted_by c s h).0))) ≡ true)
        × ((R.under c).terms.algorithms (algorithm_in (in_hand (shows (R.asked c) (F.accepted_by c s h).0))) ≡ true)
    among c s h =
        let q = F.accepted_by c s h in
        named (R.under c).terms (R.asked c) q.0 (accepted_offered (R.under c).profile (R.asked c) (R.under c).limit (R.under c).terms q.0 q.1)

-- of calls of reply::KeyExchangeResponse::parse, by its own contract
pub reply_parse_answers : Answers reply_parse
reply_parse_answers = answers_by reply_parse (of_whole reading shows reply_faithful)

-- of calls of ntske_read_reply and ntske_read_reply_strict
pub read_reply_answers : Answers reply_read
read_reply_answers = answers_by reply_read (of_whole reading shows reply_hosted)

pub read_reply_strict_answers : Answers reply_read_strict
read_reply_strict_answers = answers_by reply_read_strict (of_whole reading shows reply_hosted_strict)

-- ---- what the order changes

-- where 17 is told, the message came to its end record: it bears that record's place
module _ (P : Profile) (m : List ℕ) (n : ℕ) (x : Terms) (b : Beside) where
  at_the_end : said P m n x ≡ refused_with (record { number = 17; beside = b; place = place_of (walked (reader P) (take n m)) }) → said P m n x ≡ seventeen P m n b
  unfolding reply_of read_as finish
  at_the_end e = e ∙ ap (λ (k : ℕ). refused_with (record { number = 17; beside = b; place = k })) (go (walk (reader P) [] 0 0 (take n m)) refl)
    where
      u : Under
      u = record { profile = P; limit = n; terms = x }

      go : (o : Outcome) → walk (reader P) [] 0 0 (take n m) ≡ o → place_of (walked (reader P) (take n m)) ≡ place_of (walk (reader P) [] 0 0 (take n m))
      go (stopped r) w = ap place_of (stopped_walked (reader P) (take n m) r w) ∙ sym (ap place_of w)
      go (ended at next st) w =
          on (follows (reader P) (take n m) next)
          (λ q.
          let z = sym (ap (λ (o : Outcome). told_by m (finish judging u m o)) (ended_followed (reader P) (take n m) at next st w q)) ∙ e in
          let y : ◌≡◌ {A = Refused} (record { number = 18; beside = nothing; place = next }) (record { number = 17; beside = b; place = place_of (walked (reader P) (take n m)) }) = cc z in
          absurd (omega (arith, ap (λ (r : Refused). r.number) y)))
          (λ q. ap place_of (ended_walked (reader P) (take n m) at next st w q) ∙ sym (ap place_of w))

pub reply_corrected : (P : Profile) (m : List ℕ) (n : ℕ) (x : Terms) → Corrected P m n x
reply_corrected P m n x =
    told_cases P m n x early offered (λ l p s. no_protocol l p (at_the_end P m n x (protocol (named_by P 1 m n)) s)) (λ l p a s. no_algorithm l p a (at_the_end P m n x (algorithm (named_by P 4 m n)) s))
