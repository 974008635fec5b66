-- The numbers of a host's calls that feed a read in pieces: those of the whole-message reader in the profile that the cells hold, 9 and 16, and the number of the refusal that the cells hold.
-- Assumes nothing.
use mathlib.Core.Path.{◌≡◌, refl}
use mathlib.Core.List.{List, ◌∷◌}
use mathlib.Core.Bool.{Bool, true, false, cond}
use Prim.Native.Nat.{ℕ, ◌%◌}
use borrow.Author.Tests.{eq-eqb}
use lib.Dec.{eqb}
use Rattle.utf8.proofs.Tests.{on}
use Rattle.pieces.specs.Pieces.{Brought}
use Rattle.pieces.specs.Reads.{request_read, reply_read}
use Rattle.cells.specs.Cells.{cell}
use Rattle.reading.specs.Read.{request_given, reply_given}
use Rattle.walk.specs.Judge.{Terms}
use Rattle.layout.specs.declared.Profile.{Profile}
use Rattle.feeding.specs.Fed.{number_in, profile_in, Feeds}
use Rattle.feeding.proofs.Answering.{host_request, host_reply, request_eighteenth, reply_eighteenth, fed_refuses}
use Rattle.promises.specs.Numbers.{In, feed_request_numbers, feed_reply_numbers, or_held}
use Rattle.promises.proofs.RefusingFed.{request_reads, reply_reads, request_ends, reply_ends}

module _ (c l : List ℕ) where
  or_held_lem : (n : ℕ) → In n l → In n (or_held c l)
  or_held_lem n i = go (eqb (cell c 4) 2)
    where
      go : (t : Bool) → In n (cond t (number_in (cell c 5) ∷ l) l)
      go true = on (eqb (number_in (cell c 5)) n) (λ e. rw e) (λ e. rw e i)
      go false = i

  held_one : cell c 4 ≡ 2 → In (number_in (cell c 5)) (or_held c l)
  held_one e = rw (eq-eqb (cell c 4) 2 e, eq-eqb (number_in (cell c 5)) (number_in (cell c 5)) refl)

-- the profile that a connection's cells hold
abbrev pub profile_of : List ℕ → Profile
profile_of c = profile_in (cell c 8)

-- a word that is not 0 leaves the table and the answer's cells; and one that is not 65,535 either has a number of these
pub fed_request_refuses : {c b : List ℕ} {h : Brought} {u : Terms} {t lent : List ℕ} {r : ℕ} {c' b' t' after : List ℕ} → Feeds request_read request_given c b h u t lent r c' b' t' after → (r ≡ 0 → ⊥)
    → (t' ≡ t) × (after ≡ lent) × ((r ≡ 65535 → ⊥) → In (r % 256) (or_held c (feed_request_numbers (profile_of c))))
fed_request_refuses {c} p some =
    let l = feed_request_numbers (profile_of c) in
    fed_refuses host_request request_eighteenth p (λ n. In n (or_held c l)) (or_held_lem c l 9 refl) (or_held_lem c l 16 refl) (λ f. or_held_lem c l 18 (request_ends (profile_of c) f))
    (λ s n x y e. or_held_lem c l y.number (request_reads (profile_of c) s n x y e))
    (λ k. held_one c l k.is) some

pub fed_reply_refuses : {c b : List ℕ} {h : Brought} {u : Terms} {t lent : List ℕ} {r : ℕ} {c' b' t' after : List ℕ} → Feeds reply_read reply_given c b h u t lent r c' b' t' after → (r ≡ 0 → ⊥)
    → (t' ≡ t) × (after ≡ lent) × ((r ≡ 65535 → ⊥) → In (r % 256) (or_held c (feed_reply_numbers (profile_of c))))
fed_reply_refuses {c} p some =
    let l = feed_reply_numbers (profile_of c) in
    fed_refuses host_reply reply_eighteenth p (λ n. In n (or_held c l)) (or_held_lem c l 9 refl) (or_held_lem c l 16 refl) (λ f. or_held_lem c l 18 (reply_ends (profile_of c) f))
    (λ s n x y e. or_held_lem c l y.number (reply_reads (profile_of c) s n x y e))
    (λ k. held_one c l k.is) some
