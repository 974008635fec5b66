-- 02, order 2: the pair of calls gives the reader's answer for every input; 9 from the second exactly for a finding that is not what the first gives; and the counts of a
-- finding are the listing's lines.
-- Assumes nothing.
use mathlib.Core.Path.{◌≡◌, sym, ap, ◌∙◌, subst}
use mathlib.Core.List.{List, []}
use mathlib.Core.Bool.{true}
use Prim.Native.Nat.{ℕ, ◌+◌}
use lib.ListN.{take}
use Rattle.wire.specs.Over.{over}
use Rattle.wire.proofs.Over.{over_none}
use Rattle.nts.specs.Refusal.{number_of, told_refusal}
use Rattle.nts.specs.declared.NtsError.{NtsError}
use Rattle.nts.specs.declared.Refusal.{Refusal}
use Rattle.walk.specs.Judge as judge
use Rattle.layout.specs.Profile.{knows}
use Rattle.layout.specs.declared.Profile.TheVariants.{Usual}
use Rattle.walk.specs.Shown.{Mark, shown}
use Rattle.walk.specs.Finding.{Found, found_by, told_finding}
use Rattle.walk.specs.declared.Finding.{Finding}
use Rattle.walk.proofs.Same.{finding_apart}
use Rattle.walk.proofs.Telling.{found_own}
use Rattle.places.specs.Places.{cells, room_of}
use Rattle.request.specs.Request.{reader, Form, request, told_by, told_answer, names_of, table_after, decided, Reads, Answers}
use Rattle.request.specs.declared.Answer.TheVariants as answer
use Rattle.request.proofs.Apart.{answer_apart, told_refused}
use Rattle.request.proofs.Order as request_order
use Rattle.request.proofs.Deciding.{decided_other, nine_other, decided_own}
use Rattle.listing.specs.Listing.{lines_of, listing}
use Rattle.promises.specs.Handed as requests
use Rattle.promises.specs.Called.{ParseRequest, request_parse}
use Rattle.promises.specs.Demand3.{Demand3}
use Rattle.promises.specs.Findings.{WalkRequest, DecideRequest, Pair, request_pair, count_of, is_of, is_other, count_at, sum_of, lines_in}
use Rattle.promises.proofs.Counting.{kind_counted, others_counted, counts_sum, lines_length, listing_has}
use Rattle.promises.proofs.Handing.{reads_faithful}
use Rattle.promises.proofs.Steady.{by_calls, of_whole}
use Rattle.promises.proofs.Demand3.{request_demand}

-- ---- the pair

-- what its second call leaves is what the reader's contract says
pub pair_reads : (c : Pair) → Reads Usual (request_pair.asked c) (request_pair.under c).limit c.decided.a.1.1.0.now c.decided.answer c.decided.e.1.1.0.now
pair_reads c =
    let m = c.decided.a.1.0.now in
    let n = c.walked.a.1.0 in
    let t = c.decided.a.1.1.0.now in
    let found : told_finding c.decided.a.0 ≡ found_by (reader Usual) m n =
    ap told_finding c.handed ∙ c.walked.met ∙ ap (λ (s : List ℕ). found_by (reader Usual) s n) (sym c.message) in
    let same : decided (told_finding c.decided.a.0) m (room_of t) ≡ request Usual m n (room_of t) = ap (λ (f : Found). decided f m (room_of t)) found ∙ decided_own m n (room_of t) in
    subst (λ (x : judge.Answer Form). Answers m x t c.decided.answer c.decided.e.1.1.0.now) same c.decided.met

-- "The pair gives the old answer for every input": of a pair and of a call of the reader in the usual profile on the same message, under the same limit and with the same table, the
-- answers are the same and so are the tables that they leave
pub pair_answers : (c : Pair) (d : ParseRequest) → request_pair.asked c ≡ request_parse.asked d → Usual ≡ d.a.0 → c.walked.a.1.0 ≡ d.a.1.1.0 → c.decided.a.1.1.0.now ≡ d.a.1.1.1.0.now
    → (c.decided.answer ≡ d.answer) × (c.decided.e.1.1.0.now ≡ d.e.1.1.1.0.now)
pair_answers c d m u n t =
    let p = pair_reads c in
    let q = d.met in
    let x : request Usual c.decided.a.1.0.now c.walked.a.1.0 (room_of c.decided.a.1.1.0.now) ≡ request d.a.0 d.a.1.0.now d.a.1.1.0 (room_of d.a.1.1.1.0.now) =
    λ i. request (u i) (m i) (n i) (room_of (t i)) in
    let y : told_by c.decided.a.1.0.now (request Usual c.decided.a.1.0.now c.walked.a.1.0 (room_of c.decided.a.1.1.0.now)) ≡ told_by d.a.1.0.now (request d.a.0 d.a.1.0.now d.a.1.1.0 (room_of d.a.1.1.1.0.now)) =
    λ i. told_by (m i) (x i) in
    (answer_apart c.decided.answer d.answer (p.says ∙ y ∙ sym q.says), p.left ∙ (λ i. table_after (x i) (t i)) ∙ sym q.left)

-- so demand 3 holds of the pair
pub pair_demand : Demand3 request_pair
pair_demand =
    by_calls request_order.reading request_order.shows request_pair requests.in_hand
    (of_whole request_order.reading request_order.shows (reads_faithful Pair _ _ _ _ _ _ pair_reads)) request_demand

-- ---- 9 from the second call

-- of a first call w and a second call d over the same message
module _ (w : WalkRequest) (d : DecideRequest) (message : d.a.1.0.now ≡ w.a.0.now) where
  walked : told_finding w.finding ≡ found_by (reader Usual) d.a.1.0.now w.a.1.0
  walked = w.met ∙ ap (λ (s : List ℕ). found_by (reader Usual) s w.a.1.0) (sym message)

  -- where d is given what w gave, under whatever limit w went, 9 is not what it answers ..
  pub nine_only : (y : Refusal) → d.answer ≡ answer.Refused y → number_of y.error ≡ 9 → d.a.0 ≡ w.finding → ⊥
  nine_only y e n q =
      nine_other (told_finding d.a.0) d.a.1.0.now (room_of d.a.1.1.0.now) (told_refusal y)
      (told_refused d.a.1.0.now _ (told_refusal y) (sym d.met.says ∙ ap told_answer e)) n (found_own (reader Usual) d.a.1.0.now w.a.1.0 d.a.0 (ap told_finding q ∙ walked))

  -- .. and where w went under the limit of the finding that d is given, and d is given anything else than what w gave, it answers 9, at 0, and leaves the table as it was
  pub nine_otherwise : d.a.0.limit ≡ w.a.1.0 → (d.a.0 ≡ w.finding → ⊥) → (d.answer ≡ answer.Refused (record { error = NtsError.InvalidValue; place = 0 })) × (d.e.1.1.0.now ≡ d.a.1.1.0.now)
  unfolding table_after
  nine_otherwise limit n =
      let own : found_by (reader Usual) d.a.1.0.now d.a.0.limit ≡ told_finding w.finding = ap (found_by (reader Usual) d.a.1.0.now) limit ∙ sym walked in
      let x = decided_other (told_finding d.a.0) d.a.1.0.now (room_of d.a.1.1.0.now) (λ q. n (finding_apart d.a.0 w.finding (q ∙ own))) in
      (answer_apart d.answer _ (d.met.says ∙ ap (told_by d.a.1.0.now) x), d.met.left ∙ ap (λ (o : judge.Answer Form). over (cells (names_of o)) d.a.1.1.0.now) x ∙ over_none d.a.1.1.0.now)

-- ---- the counts, and the listing's lines

-- of a finding of the message m under the limit n. The marks are the listing's record lines (listing/specs/Listing.antt)
module _ (m : List ℕ) (n : ℕ) (f : Finding) (e : told_finding f ≡ found_by (reader Usual) m n) where
  abbrev pub marks : List Mark
  marks = shown (reader Usual) [] 0 0 (take n m)

  pub count_lines : (k : ℕ) → knows Usual k ≡ true → count_at f.cells k ≡ count_of (is_of k) marks
  unfolding found_by
  count_lines k kn = ap (λ (x : Found). count_at x.cells k) e ∙ kind_counted (shown (reader Usual) [] 0 0 (take n m)) k kn

  pub unknown_lines : count_at f.cells 11 ≡ count_of is_other marks
  unfolding found_by
  unknown_lines = ap (λ (x : Found). count_at x.cells 11) e ∙ others_counted (shown (reader Usual) [] 0 0 (take n m))

  pub sum_lines : sum_of f.cells 15 ≡ lines_in (lines_of marks)
  unfolding found_by
  sum_lines = ap (λ (x : Found). sum_of x.cells 15) e ∙ counts_sum (shown (reader Usual) [] 0 0 (take n m)) ∙ sym (lines_length (shown (reader Usual) [] 0 0 (take n m)))

  -- so the whole listing has two lines more than the counts' sum: the heading and the answer
  pub listing_lines : (room : ℕ) → lines_in (listing m n room) ≡ sum_of f.cells 15 + 2
  listing_lines room = listing_has m n room ∙ ap (λ (k : ℕ). k + 2) (sym sum_lines)
