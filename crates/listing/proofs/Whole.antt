-- The whole listing: heading, lines and last line, and whether they fit.
-- Assumes nothing.
use mathlib.Core.Path.{◌≡◌, refl, sym, ap, ◌∙◌}
use mathlib.Core.Bool.{true, false}
use mathlib.Core.List.{List, [], ◌∷◌, ◌++◌, append_assoc}
use Prim.Native.Nat.{ℕ, ◌+◌, ◌-◌, ◌<◌, ◌≤◌}
use native.Mathlib.Omega.{arith}
use borrow.Author.Tests.{leb-true, leb-false, lt-ltb, le-ltb}
use lib.Dec.{leb}
use lib.ListN.{length, take, length-append}
use Rattle.wire.specs.Over.{Put}
use Rattle.wire.proofs.Over.{put_as}
use Rattle.nts.specs.declared.NtsError.{NtsError}
use Rattle.layout.specs.Write.{bytes, fitted, left_by, Wrote}
use Rattle.layout.specs.Profile.{is_final}
use Rattle.layout.specs.declared.Profile.TheVariants.{Usual}
use Rattle.layout.specs.declared.ByteCount.{ByteCount}
use Rattle.layout.specs.declared.ByteCount.TheVariants as count
use Rattle.walk.specs.Walk.{Outcome, stopped, ended, walk, behind, walked}
use Rattle.walk.specs.Found.{place_of}
use Rattle.walk.proofs.Telling.{found_place}
use Rattle.request.specs.Request.{reader, Told, told_answer, Judges}
use Rattle.request.specs.declared.Judged.{Judged}
use Rattle.listing.specs.Listing.{newline, heading, answer_text, listing}
use Rattle.listing.specs.Code.{PutMost, stop_from, lines_from}
use Rattle.listing.proofs.Texts.{made}

-- the last line, with its newline
abbrev last_line : Told → List ℕ
last_line t = answer_text t ++ (newline ∷ [])

-- what follows the end record is not looked at: the walk stops where the whole reading does
usual_place : (s : List ℕ) → place_of (walked (reader Usual) s) ≡ place_of (walk (reader Usual) [] 0 0 s)
unfolding walked behind is_final
usual_place s = go (walk (reader Usual) [] 0 0 s)
  where
    go : (o : Outcome) → place_of (behind (reader Usual) s o) ≡ place_of o
    go (stopped r) = refl
    go (ended at next st) = refl

-- s is the message m as it is cut after n bytes, and x what the reader answers for it and the finding
module _ (m : List ℕ) (n room : ℕ) (s : List ℕ) (cut : s ≡ take n m) (x : Judged) (j : Judges Usual m n room x) where
  abbrev lines : List ℕ
  lines = lines_from s [] 0

  abbrev last : List ℕ
  last = last_line (told_answer x.answer)

  pub list_stop : x.finding.place ≡ stop_from s [] 0
  list_stop = found_place (reader Usual) m n x.finding j.found ∙ usual_place (take n m) ∙ ap (λ (t : List ℕ). stop_from t [] 0) (sym cut)

  parts : (heading ++ lines) ++ last ≡ listing m n room
  unfolding listing
  parts =
      append_assoc heading lines last
      ∙ ap (λ (t : List ℕ). heading ++ (lines_from t [] 0 ++ last)) cut
      ∙ ap (λ (t : Told). heading ++ (lines_from (take n m) [] 0 ++ last_line t)) j.says

  long : length (listing m n room) ≡ 20 + length lines + length last
  long =
      sym (ap length parts)
      ∙ length-append (heading ++ lines) last
      ∙ ap (λ (k : ℕ). k + length last) (length-append heading lines)

  -- z' is the array in which the last line was made, i its length
  module _ (o : List ℕ) {k i : ℕ} {z z' : List ℕ} (p : PutMost k (answer_text (told_answer x.answer) ++ (newline ∷ [])) z i z') where
    abbrev Answers : ByteCount → List ℕ → Type 0
    Answers r o' = Wrote (fitted (length o) (bytes (length (listing m n room)))) (listing m n room) o r o'

    no_room : length o < length (listing m n room) → Answers (count.Refused NtsError.OutputTooShort) o
    unfolding fitted left_by
    no_room h = rw (lt-ltb (length o) (length (listing m n room)) h) (record { says = refl; left = refl })

    pub list_short : length o < 20 + i → Answers (count.Refused NtsError.OutputTooShort) o
    list_short h = no_room (omega (arith, long, p.put.count))

    pub list_long : 20 + i ≤ length o → false ≡ leb (length lines) (length o - 20 - i) → Answers (count.Refused NtsError.OutputTooShort) o
    list_long h e = no_room (omega (arith, long, p.put.count, leb-false (length lines) (length o - 20 - i) (sym e)))

    module _ (h : 20 + i ≤ length o) (e : true ≡ leb (length lines) (length o - 20 - i)) where
      pub list_room : 20 + length lines + length (take (i - 0) z') ≤ length o
      list_room = rw (made p) (omega (arith, p.put.count, leb-true (length lines) (length o - 20 - i) (sym e)))

      pub list_put : {r : ℕ} {o' : List ℕ} → Put (20 + length lines + length (take (i - 0) z')) ((heading ++ lines) ++ take (i - 0) z') o r o' → Answers (count.Bytes r) o'
      unfolding fitted left_by
      list_put q =
          let fits : length (listing m n room) ≤ length o = omega (arith, long, list_room, ap length (made p)) in
          let whole = put_as (rw (made p) at q) (sym long) parts in
          rw (le-ltb (length o) (length (listing m n room)) fits) (record { says = ap bytes whole.count; left = whole.left })
