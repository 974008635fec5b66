-- One record as it is written: its kind, bit and body come back, it is whole, and it has no fault where its body is what its kind asks.
-- Assumes nothing.
use mathlib.Core.Path.{◌≡◌, refl, sym, ◌∙◌, ap}
use mathlib.Core.Bool.{Bool, true, false, cond}
use mathlib.Core.List.{List, [], ◌∷◌, ◌++◌}
use Prim.Native.Nat.{ℕ, ◌+◌, ◌≤◌}
use native.Mathlib.Omega.{arith}
use borrow.Author.Tests.{le-ltb}
use lib.Dec.{eqb}
use lib.ListN.{length}
use lib.Seq.{take_all}
use Rattle.wire.specs.Bytes.{number_at}
use Rattle.wire.specs.Over.{bytes_of}
use Rattle.wire.proofs.Bytes.{number_back, number_drop}
use Rattle.layout.specs.Table.{row_of, bit_of}
use Rattle.layout.specs.Write.{word_of, header}
use Rattle.layout.specs.declared.Shape.{Shape}
use Rattle.layout.specs.declared.Shape.TheVariants.{Skipped}
use Rattle.record.specs.Record.{kind, critical, size, there, fault_by}
use Rattle.record.proofs.Trip.{word_kind, word_bit, good_faultless}
use Rattle.record.proofs.Trip as trip
use Rattle.walk.specs.Walk.{ends, notes, Reader, fault_in, act_in}
use Rattle.walk.specs.Message.{Whole}
use Rattle.walk.proofs.Passing.{Last}
use Rattle.walk.proofs.Written.{Noted, Notes, noted_map}
use Rattle.messages.specs.Messages.{record_of, record_with, end_record}

module _ (k : ℕ) (b : List ℕ) where
  abbrev bit : Bool
  bit = bit_of k false

  abbrev c : List ℕ
  c = record_with k b

  word_written : number_at c 0 ≡ word_of k bit
  unfolding record_of header bytes_of
  word_written = number_back (word_of k bit) (bytes_of (length b) ++ b)

  pub size_written : size c ≡ length b
  unfolding size record_of header bytes_of
  size_written = sym (number_drop c 2 0) ∙ number_back (length b) b

  pub there_written : there c ≡ b
  unfolding there record_of header bytes_of
  there_written = rw size_written (take_all (length b) b (omega arith))

  pub length_written : length c ≡ 4 + length b
  unfolding record_of header bytes_of
  length_written = omega arith

  pub whole_written : Whole c
  whole_written = length_written ∙ ap (λ (n : ℕ). 4 + n) (sym size_written)

  module _ (low : k ≤ 32767) where
    pub kind_written : kind c ≡ k
    unfolding kind
    kind_written = rw word_written (word_kind k bit low)

    pub critical_written : critical c ≡ bit
    unfolding critical
    critical_written = rw word_written (word_bit k bit low)

    module _ (R : Reader) where
      -- a body that is what its kind's shape asks: `trip.Good`
      pub faultless_written : (x : Shape) → R.shape k ≡ x → trip.Good x (length b) b → fault_in R c ≡ 0
      unfolding fault_by
      faultless_written x e g =
          rw (le-ltb (length c) 4 (omega (arith, length_written)), kind_written, size_written, there_written, e) (good_faultless x (length b) b refl g)

      pub act_written : act_in R c ≡ R.act k bit b
      unfolding act_in
      act_written = cc (kind_written, critical_written, there_written)

      -- a record that a reader notes
      pub notes_written : (x : Shape) → R.shape k ≡ x → trip.Good x (length b) b → R.act k bit b ≡ notes → Notes R k b c
      notes_written x e g a = record {
        whole = whole_written;
        kinded = kind_written;
        body = there_written;
        faultless = faultless_written x e g;
        act = act_written ∙ a;
      }

      -- .. and no other
      pub one_noted : (x : Shape) → R.shape k ≡ x → trip.Good x (length b) b → R.act k bit b ≡ notes
          → Noted R (c ∷ []) (λ j. cond (eqb k j) (b ∷ []) [])
      one_noted x e g a = noted_map R k (record_with k) (b ∷ []) (notes_written x e g a, tt)

-- the end record, for every reader that ends with it
pub last_written : (R : Reader) → R.shape 0 ≡ Skipped → R.act 0 true [] ≡ ends → Last R end_record
unfolding bit_of row_of
last_written R e a =
    (whole_written 0 [], faultless_written 0 [] (omega arith) R Skipped e tt, act_written 0 [] (omega arith) R ∙ a)
