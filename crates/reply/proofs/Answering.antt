-- A whole reply: the walk, the decision and the table, put together.
-- Assumes nothing.
use mathlib.Core.Path.{◌≡◌, refl, sym, ap, ◌∙◌}
use mathlib.Core.List.{List}
use Prim.Native.Nat.{ℕ, ◌-◌, ◌<◌, ◌≤◌}
use native.Mathlib.Omega.{arith}
use lib.ListN.{length, take, drop}
use Rattle.nts.specs.declared.NtsError.{NtsError}
use Rattle.layout.specs.declared.Profile.{Profile}
use Rattle.layout.proofs.Profiles.{cookie_known, cookie_allows}
use Rattle.walk.specs.Judge as judge
use Rattle.walk.specs.Judge.{Terms, Under, of_kind, body_in, placed}
use Rattle.walk.specs.Rules.{Rules, is_noted}
use Rattle.walk.specs.Found.{told_in}
use Rattle.walk.specs.Finding.{found_by, told_finding}
use Rattle.walk.specs.Code.{Fits}
use Rattle.walk.specs.declared.Stop.TheVariants as stop
use Rattle.walk.specs.declared.Finding.{Finding}
use Rattle.walk.proofs.Noted.{kind_inside}
use Rattle.walk.proofs.Telling.{found_place}
use Rattle.walk.proofs.Answered.{read_refused, ended_fits, told_ended}
use Rattle.places.specs.Places.{room_of, Fills}
use Rattle.places.specs.declared.Filled.{Filled}
use Rattle.places.proofs.Walked.{table_notes}
use Rattle.places.proofs.Stored.{stop_inside, none_stored, all_stored}
use Rattle.reply.specs.Reply.{act, once, reader, rules, Form, reply, decide, judging, reply_of, offering, told_by, told_answer, cookies_of, table_after, Judges, Reads}
use Rattle.reply.specs.Code.{cookies_in}
use Rattle.reply.specs.declared.Judged.{Judged}
use Rattle.reply.specs.declared.Answer.{Answer}
use Rattle.reply.specs.declared.Answer.TheVariants as answer
use Rattle.reply.proofs.Reader.{table_reader_lem}
use Rattle.reply.proofs.Decided.{decided_like}
use Rattle.reply.proofs.Order.{decide_held}

module _ (P : Profile) (m : List ℕ) (n : ℕ) (t : Terms) (f : Finding) (h : told_finding f ≡ found_by (reader P) m n) where
  abbrev u : Under
  u = record { profile = P; limit = n; terms = t }

  abbrev table : Rules
  table = record { profile = P; entries = rules }

  pub judged_refused : (e : NtsError) → f.stop ≡ stop.Refused e → (x : Answer) → x ≡ answer.Refused (record { error = e; place = f.place }) → Judges P m n t (record { answer = x; place = f.place })
  unfolding reply_of
  judged_refused e q x a = record {
    says = ap told_answer a ∙ ap (told_by m) (sym (read_refused table (reader P) (table_reader_lem P) m u f h judging e q));
    stopped = found_place (reader P) m n f h;
  }

  pub judged_fits : f.stop ≡ stop.End → Fits rules (length m) f.cells
  judged_fits = ended_fits table (reader P) (table_reader_lem P) m u f h

  pub judged_ended : f.stop ≡ stop.End → (x : Answer) → told_answer x ≡ told_by m (placed f.place (decide t (body_in m) (told_in f.cells))) → Judges P m n t (record { answer = x; place = f.place })
  unfolding reply_of is_noted
  judged_ended q x a = record {
    says =
        a
        ∙ told_ended table (reader P) (table_reader_lem P) m u f h judging (told_by m)
        (λ l l' like. decided_like m f.place t l l' (like 1 (omega arith) refl refl) (like 4 (omega arith) refl refl) (like 5 (omega arith) refl refl)
        (like 6 (omega arith) refl refl) (like 7 (omega arith) refl refl) (like 8 (omega arith) refl refl)) q;
    stopped = found_place (reader P) m n f h;
  }

-- ---- the table

-- an answer tells how many cookies go into it
cookies_are : (m : List ℕ) (x : judge.Answer Form) → cookies_in (told_by m x) ≡ length (cookies_of x)
cookies_are m (judge.refused r) = refl
cookies_are m (judge.accepted (reply p a s t k c)) = refl

-- ---- what the reader answers, and the table it leaves

module _ (P : Profile) (m : List ℕ) (n : ℕ) (ps qs t : List ℕ) (x : Judged) (j : Judges P m n (offering ps qs (room_of t)) x) where
  -- what the reply is read under
  abbrev terms : Terms
  terms = offering ps qs (room_of t)

  -- the walk stops inside the message
  pub place_inside : x.place ≤ length m
  place_inside = stop_inside (reader P) m n x.place j.stopped

  -- count is how many cookies the answer tells
  module _ (count : ℕ) (told : count ≡ cookies_in (told_answer x.answer)) where
    counted : count ≡ length (cookies_of (reply_of P m n terms))
    counted = told ∙ ap cookies_in j.says ∙ cookies_are m (reply_of P m n terms)

    pub reads_none : count ≡ 0 → Reads P m n ps qs t x.answer t
    unfolding table_after
    reads_none e = record { says = j.says; left = none_stored (cookies_of (reply_of P m n terms)) t (sym counted ∙ e) }

    -- they are the cookies noted, for which there is room, and are put into the table from the bytes that the walk covered
    pub reads_cookies : n < 65536 → (count ≡ 0 → ⊥) → (r : Filled) (t' : List ℕ) → Fills 5 count (take (x.place - 0) (drop 0 m)) t r t' → Reads P m n ps qs t x.answer t'
    unfolding table_after reply_of act once
    reads_cookies l h r t' f =
        let always = table_notes P act 5 (λ z. omega arith) (cookie_known P) (cookie_allows P) (λ b. refl) in
        record {
          says = j.says;
          left =
              all_stored (reader P) 5 always refl judging cookies_of (λ r. refl) P m n terms t
              (λ st i. decide_held (length m) terms (λ k. of_kind k st) (λ k. kind_inside (length m) k st i) (body_in m) _ (λ p a b o u q z. (refl, q)))
              count counted h l x.place j.stopped r t' f;
        }
