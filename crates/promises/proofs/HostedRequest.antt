-- What a host gets in hand by the cells of ntske_read_request or ntske_read_request_strict is what a caller gets in hand of the request that they tell.
-- Assumes nothing.
use mathlib.Core.Path.{◌≡◌, refl, sym, ap, ◌∙◌}
use mathlib.Core.List.{List}
use mathlib.Core.Bool.{Bool, true, false}
use Prim.Native.Nat.{ℕ}
use native.Mathlib.Omega.{arith}
use lib.ListN.{length}
use lib.Dec.{eqb}
use Rattle.wire.specs.Bytes.{number_at}
use Rattle.wire.specs.Over.{over}
use Rattle.wire.proofs.Over.{over_none}
use Rattle.nts.specs.Refusal.{Refused}
use Rattle.layout.specs.declared.Profile.{Profile}
use Rattle.layout.specs.declared.Profile.TheVariants.{Usual, Strict}
use Rattle.walk.specs.Walk.{Sighting}
use Rattle.walk.specs.Judge.{body_in, part_of, refused, accepted}
use Rattle.walk.specs.Judge as judge
use Rattle.places.specs.Places.{cells, room_of}
use Rattle.request.specs.declared.Request.{Request}
use Rattle.request.specs.declared.Request.TheVariants.{KeyExchange, FixedKey, Support}
use Rattle.request.specs.declared.Answer.TheVariants.{Accepted}
use Rattle.request.specs.Request.{Form, key_exchange, fixed_key, support, map_form, request, first_half, second_half, told_form, told_by, told_request, names_of, table_after, Reads}
use Rattle.request.proofs.Order.{shows, reading}
use Rattle.walk.proofs.Numbered.{Barred}
use Rattle.request.proofs.Numbered.{request_numbered}
use Rattle.cells.specs.Cells.{word, returned, held, flag}
use Rattle.reading.specs.Read.{request_given, ReadsRequest}
use Rattle.promises.specs.Handed.{Shown, handed_out, in_hand}
use Rattle.promises.specs.Numbers.{Table}
use Rattle.promises.specs.Cells.{request_in_hand}
use Rattle.promises.proofs.Handing.{in_hand_lem}
use Rattle.promises.specs.Called.{ReadRequest, ReadRequestStrict, HostRead, answering_host, request_host, request_host_strict, request_read, request_read_strict}
use Rattle.promises.proofs.Steady.{Faithful}
use Rattle.promises.proofs.Hosted.{Hosted, granted}

-- ---- the request that an accepted message tells

abbrev request_of : List ℕ → Form Sighting → Request
request_of m (key_exchange p a d) = KeyExchange (part_of p) (part_of a) (length d)
request_of m (fixed_key u x a p k) =
    FixedKey (part_of u) (first_half x) (second_half x) (record { 0 = number_at (body_in m a) 0 }) (record { 0 = number_at (body_in m p) 0 }) k
request_of m (support u p a k) = Support (part_of u) p a k

told_of : (m : List ℕ) (q : Form Sighting) → told_request (request_of m q) ≡ told_form m q
told_of m (key_exchange p a d) = refl
told_of m (fixed_key u x a p k) = refl
told_of m (support u p a k) = refl

-- ---- its cells

pub flag_back : (b : Bool) → eqb (flag b) 1 ≡ b
flag_back true = refl
flag_back false = refl

-- nothing is refused, and the cells are read back
cells_back : (m table lent : List ℕ) (x : Request)
    → (returned (request_given (told_request x)) ≡ 0) × (request_in_hand m table (held (request_given (told_request x)) lent) ≡ handed_out m table x)
cells_back m table lent (KeyExchange p a d) = (refl, refl)
cells_back m table lent (FixedKey u c s a p k) = (refl, rw flag_back)
cells_back m table lent (Support u p a k) = (refl, simp flag_back)

-- ---- a call in a profile

module _ {P : Profile} {m : List ℕ} {n : ℕ} {table lent : List ℕ} {r : ℕ} {table' after : List ℕ} (c : ReadsRequest P m n table lent r table' after) where
  pub request_grants : (q : Form Sighting) → request P m n (room_of table) ≡ accepted q → (r ≡ 0) × (request_in_hand m table' after ≡ in_hand (map_form (body_in m) q))
  request_grants q w =
      let x = request_of m q in
      let e : told_by m (request P m n (room_of table)) ≡ told_request x = ap (told_by m) w ∙ sym (told_of m q) in
      let back = cells_back m table' lent x in
      let reads : Reads P m n table (Accepted x) table' = record { says = sym e; left = c.left } in (
        c.gives.says ∙ ap (λ (t : _). returned (request_given t)) e ∙ back.0,
        ap (request_in_hand m table') (c.gives.left ∙ ap (λ (t : _). held (request_given t) lent) e) ∙ back.1
            ∙ in_hand_lem P m n table (Accepted x) table' reads x q refl w,
      )

  pub request_refuses : (y : Refused) → request P m n (room_of table) ≡ refused y → (r ≡ word y) × (table' ≡ table) × (after ≡ lent)
  unfolding table_after
  request_refuses y w = (
    c.gives.says ∙ ap (λ (o : judge.Answer Form). returned (request_given (told_by m o))) w,
    c.left ∙ ap (λ (o : judge.Answer Form). over (cells (names_of o)) table) w ∙ over_none table,
    c.gives.left ∙ ap (λ (o : judge.Answer Form). held (request_given (told_by m o)) lent) w,
  )

-- every number of a refusal is one of the table's
pub table_barred : (P : Profile) → Barred Table P
table_barred Usual = tt
table_barred Strict = (omega arith, omega arith)

abbrev pub hosted_request : Profile → Hosted Form Shown (Unit {0})
hosted_request P = record {
  reading = λ m n e room. request P m n room;
  shows = shows;
  Reads = λ m n e t l r u a. ReadsRequest P m n t l r u a;
  hand = request_in_hand;
  in_hand = in_hand;
  grants = request_grants;
  refuses = request_refuses;
  numbered = λ m n e room. request_numbered Table (omega arith) P (table_barred P) m n room;
}

-- so calls that each meet the reader's contract answer as the definition does
pub reads_hosted : (C : Type 1) (P : Profile) (of : C → HostRead)
    → ((c : C) → ReadsRequest P (of c).message (of c).limit (of c).table (of c).lent (of c).answer (of c).filled (of c).after) → Faithful reading shows (answering_host C P of) in_hand
unfolding request
reads_hosted C P of met = record {
  accepted_by = λ c s h.
      let q = granted (hosted_request P) (met c) h.0 in
      (q.0, q.1, sym (request_grants (met c) q.0 q.1).1 ∙ h.1);
  accepts = λ c q w. request_grants (met c) q w;
  refuses = λ c y w. request_refuses (met c) y w;
}

pub request_hosted : Faithful reading shows request_read in_hand
request_hosted = reads_hosted ReadRequest Usual request_host (λ c. c.met)

pub request_hosted_strict : Faithful reading shows request_read_strict in_hand
request_hosted_strict = reads_hosted ReadRequestStrict Strict request_host_strict (λ c. c.met)
