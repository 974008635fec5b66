-- Records put one after the other are a support reply's bytes.
-- Assumes nothing.
use mathlib.Core.Path.{◌≡◌, sym, ap, ◌∙◌}
use mathlib.Core.List.{List, [], ◌++◌, append_assoc}
use Prim.Native.Nat.{ℕ}
use Rattle.walk.specs.Message.{flat}
use Rattle.walk.proofs.Reorder.{flat_append}
use Rattle.messages.specs.declared.Asked.{Asked}
use Rattle.messages.specs.Messages.{record_with, cell_bytes, if_asked, end_record, message_of, support_records}

-- e is the end record
laid_three : (a b d : List (List ℕ)) (e : List ℕ) → ((flat a ++ flat b) ++ flat d) ++ e ≡ flat (a ++ (b ++ d)) ++ e
laid_three a b d e =
    ap (λ (x : List ℕ). x ++ e) (append_assoc (flat a) (flat b) (flat d) ∙ sym (flat_append a (b ++ d) ∙ ap (λ (x : List ℕ). flat a ++ x) (flat_append b d)))

pub laid_support : (x : Asked) (pairs numbers : List ℕ)
    → ((flat (if_asked x.algorithms (record_with 10 (cell_bytes pairs))) ++ flat (if_asked x.protocols (record_with 9 (cell_bytes numbers)))) ++ flat (if_asked x.keep_alive (record_with 8 []))) ++ end_record
    ≡ message_of (support_records x pairs numbers)
laid_support x pairs numbers = laid_three (if_asked x.algorithms (record_with 10 (cell_bytes pairs))) (if_asked x.protocols (record_with 9 (cell_bytes numbers))) (if_asked x.keep_alive (record_with 8 [])) end_record
