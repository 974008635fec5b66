-- 02, order 2, of the two calls that a host links: the pair gives ntske_read_request's answer for every input; 9 from the second exactly for cells that are not those that the
-- first gives; and the counts among its cells are the listing's lines.
-- Assumes nothing.
use mathlib.Core.Path.{◌≡◌, sym, ap, ◌∙◌}
use mathlib.Core.List.{List, [], ◌∷◌}
use mathlib.Core.Bool.{true, true≢false}
use Prim.Native.Nat.{ℕ, suc, ◌+◌, ◌*◌, ◌%◌, ◌<◌}
use native.Mathlib.Omega.{arith}
use lib.ListN.{take, drop}
use Rattle.wire.specs.Over.{over}
use Rattle.wire.proofs.Over.{over_none}
use Rattle.walk.specs.Judge as judge
use Rattle.layout.specs.Profile.{knows}
use Rattle.layout.specs.declared.Profile.TheVariants.{Usual}
use Rattle.walk.specs.Shown.{Mark, shown}
use Rattle.walk.specs.Finding.{Found, found_by}
use Rattle.places.specs.Places.{cells, room_of}
use Rattle.request.specs.Request.{reader, Form, request, told_by, names_of, table_after, decided}
use Rattle.request.proofs.Order as request_order
use Rattle.request.proofs.Deciding.{decided_other, decided_own}
use Rattle.cells.specs.Cells.{word, cell, returned, held}
use Rattle.listing.specs.Listing.{lines_of}
use Rattle.reading.specs.Read.{request_given, ReadsRequest}
use Rattle.deciding.specs.Given.{finding_cells, found_in}
use Rattle.deciding.proofs.Back.{found_back, cells_alike, alike_told}
use Rattle.promises.specs.Handed as requests
use Rattle.promises.specs.Called.{ReadRequest, request_read}
use Rattle.promises.specs.Demand3.{Demand3}
use Rattle.promises.specs.Numbers.{In, request_numbers}
use Rattle.promises.specs.Findings.{count_of, is_of, is_other, sum_of, lines_in}
use Rattle.promises.specs.FindingsFace.{WalkHosted, DecideHosted, HostedPair, pair_host, hosted_pair}
use Rattle.promises.proofs.Counting.{kind_counted, others_counted, counts_sum, lines_length}
use Rattle.promises.proofs.Steady.{by_calls, of_whole}
use Rattle.promises.proofs.Refusing.{number_of_lem}
use Rattle.promises.proofs.Telling.{request_tells}
use Rattle.promises.proofs.HostedRequest.{reads_hosted}
use Rattle.promises.proofs.Demand3.{request_demand}

-- ---- what the first call leaves in its cells

walked_cells : (w : WalkHosted) → w.e.1.1.0.now ≡ finding_cells (found_by (reader Usual) w.a.0.now w.a.1.0)
walked_cells w = w.met.left

walked_told : (w : WalkHosted) → found_in w.e.1.1.0.now ≡ found_by (reader Usual) w.a.0.now w.a.1.0
walked_told w = ap found_in (walked_cells w) ∙ found_back w.a.0.now w.a.1.0

-- ---- the pair

-- a second call over the first one's message whose cells tell what the first one's tell: it leaves what the reader's contract says
as_read : (w : WalkHosted) (d : DecideHosted) → d.a.1.0.now ≡ w.a.0.now → found_in d.a.0.now ≡ found_in w.e.1.1.0.now
    → ReadsRequest Usual d.a.1.0.now w.a.1.0 d.a.1.1.0.now d.a.1.1.1.0.now d.answer d.e.1.1.0.now d.e.1.1.1.0.now
as_read w d message told =
    let m = d.a.1.0.now in
    let n = w.a.1.0 in
    let room = room_of d.a.1.1.0.now in
    let found : found_in d.a.0.now ≡ found_by (reader Usual) m n = told ∙ walked_told w ∙ ap (λ (s : List ℕ). found_by (reader Usual) s n) (sym message) in
    let same : decided (found_in d.a.0.now) m room ≡ request Usual m n room = ap (λ (f : Found). decided f m room) found ∙ decided_own m n room in
    record {
      gives = record {
        says = d.met.gives.says ∙ ap (λ (x : judge.Answer Form). returned (request_given (told_by m x))) same;
        left = d.met.gives.left ∙ ap (λ (x : judge.Answer Form). held (request_given (told_by m x)) d.a.1.1.1.0.now) same;
      };
      left = d.met.left ∙ ap (λ (x : judge.Answer Form). table_after x d.a.1.1.0.now) same;
    }

pub hosted_pair_reads : (c : HostedPair) → ReadsRequest Usual (hosted_pair.asked c) (hosted_pair.under c).limit c.decided.a.1.1.0.now c.decided.a.1.1.1.0.now c.decided.answer c.decided.e.1.1.0.now c.decided.e.1.1.1.0.now
hosted_pair_reads c = as_read c.walked c.decided c.message (ap found_in c.handed)

-- "The pair gives the old answer for every input": of a pair and of a call of ntske_read_request on the same message, under the same limit, with the same table and cells, the
-- words are the same and so are the tables and the cells that they leave
pub hosted_pair_answers : (c : HostedPair) (d : ReadRequest) → hosted_pair.asked c ≡ request_read.asked d → c.walked.a.1.0 ≡ d.a.1.0 → c.decided.a.1.1.0.now ≡ d.a.1.1.0.now
    → c.decided.a.1.1.1.0.now ≡ d.a.1.1.1.0.now
    → (c.decided.answer ≡ d.answer) × (c.decided.e.1.1.0.now ≡ d.e.1.1.0.now) × (c.decided.e.1.1.1.0.now ≡ d.e.1.1.1.0.now)
hosted_pair_answers c d m n t l =
    let p = hosted_pair_reads c in
    let q = d.met in
    let x : request Usual c.decided.a.1.0.now c.walked.a.1.0 (room_of c.decided.a.1.1.0.now) ≡ request Usual d.a.0.now d.a.1.0 (room_of d.a.1.1.0.now) =
    λ i. request Usual (m i) (n i) (room_of (t i)) in
    (p.gives.says ∙ (λ i. returned (request_given (told_by (m i) (x i)))) ∙ sym q.gives.says, p.left ∙ (λ i. table_after (x i) (t i)) ∙ sym q.left, p.gives.left ∙ (λ i. held (request_given (told_by (m i) (x i))) (l i)) ∙ sym q.gives.left)

-- so demand 3 holds of the pair
pub hosted_pair_demand : Demand3 hosted_pair
hosted_pair_demand =
    by_calls request_order.reading request_order.shows hosted_pair requests.in_hand
    (of_whole request_order.reading request_order.shows (reads_hosted HostedPair Usual pair_host hosted_pair_reads)) request_demand

-- ---- 9 from the second call

-- of a first call w and a second call d over the same message
module _ (w : WalkHosted) (d : DecideHosted) (message : d.a.1.0.now ≡ w.a.0.now) where
  -- the forty-eight cells that d is lent are those that w left
  abbrev pub Handed : Type 0
  Handed = (j : ℕ) → j < 48 → cell d.a.0.now j ≡ cell w.e.1.1.0.now j

  -- then 9 is not the number of what it returns ..
  pub hosted_nine_only : d.answer % 256 ≡ 9 → Handed → ⊥
  hosted_nine_only e h =
      let p = as_read w d message (alike_told d.a.0.now w.e.1.1.0.now h) in
      let i : In (d.answer % 256) (request_numbers Usual) = number_of_lem (request_tells Usual d.a.1.0.now w.a.1.0 (room_of d.a.1.1.0.now)) p.gives (λ z. omega (arith, z, e)) in
      let j : In 9 (request_numbers Usual) = rw (e) at i in
      true≢false (sym j)

  -- .. and where w went under the limit in d's first cell, and one of the cells is another, it returns 9, and leaves table and cells as they were
  pub hosted_nine_otherwise : cell d.a.0.now 0 ≡ w.a.1.0 → (Handed → ⊥) → (d.answer ≡ 9) × (d.e.1.1.0.now ≡ d.a.1.1.0.now) × (d.e.1.1.1.0.now ≡ d.a.1.1.1.0.now)
  unfolding table_after word
  hosted_nine_otherwise limit n =
      let own : found_by (reader Usual) d.a.1.0.now (cell d.a.0.now 0) ≡ found_in w.e.1.1.0.now = (λ i. found_by (reader Usual) (message i) (limit i)) ∙ sym (walked_told w) in
      let x = decided_other (found_in d.a.0.now) d.a.1.0.now (room_of d.a.1.1.0.now) (λ q. n (cells_alike d.a.0.now w.e.1.1.0.now (q ∙ own))) in (
        d.met.gives.says ∙ ap (λ (o : judge.Answer Form). returned (request_given (told_by d.a.1.0.now o))) x,
        d.met.left ∙ ap (λ (o : judge.Answer Form). over (cells (names_of o)) d.a.1.1.0.now) x ∙ over_none d.a.1.1.0.now,
        d.met.gives.left ∙ ap (λ (o : judge.Answer Form). held (request_given (told_by d.a.1.0.now o)) d.a.1.1.1.0.now) x,
      )

-- ---- the counts among the cells, and the listing's lines

behind : (j x y z : ℕ) (l : List ℕ) → cell (x ∷ y ∷ z ∷ l) (j + 3) ≡ cell l j
behind j x y z l = let p : j + 3 ≡ suc (suc (suc j)) = omega arith in ap (cell (x ∷ y ∷ z ∷ l)) p

module _ (w : WalkHosted) where
  abbrev pub marks : List Mark
  marks = shown (reader Usual) [] 0 0 (take w.a.1.0 w.a.0.now)

  pub hosted_count_lines : (k : ℕ) → knows Usual k ≡ true → cell w.e.1.1.0.now (k * 3 + 3) ≡ count_of (is_of k) marks
  unfolding found_by
  hosted_count_lines k kn =
      ap (λ (c : List ℕ). cell c (k * 3 + 3)) (walked_cells w) ∙ behind (k * 3) _ _ _ (found_by (reader Usual) w.a.0.now w.a.1.0).cells ∙ kind_counted (shown (reader Usual) [] 0 0 (take w.a.1.0 w.a.0.now)) k kn

  pub hosted_unknown_lines : cell w.e.1.1.0.now 36 ≡ count_of is_other marks
  unfolding found_by
  hosted_unknown_lines = ap (λ (c : List ℕ). cell c 36) (walked_cells w) ∙ others_counted (shown (reader Usual) [] 0 0 (take w.a.1.0 w.a.0.now))

  -- the counts behind the first three cells, summed up
  pub hosted_sum_lines : sum_of (drop 3 w.e.1.1.0.now) 15 ≡ lines_in (lines_of marks)
  unfolding found_by
  hosted_sum_lines =
      ap (λ (c : List ℕ). sum_of (drop 3 c) 15) (walked_cells w) ∙ counts_sum (shown (reader Usual) [] 0 0 (take w.a.1.0 w.a.0.now)) ∙ sym (lines_length (shown (reader Usual) [] 0 0 (take w.a.1.0 w.a.0.now)))
