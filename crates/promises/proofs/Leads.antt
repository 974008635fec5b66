-- Order 6 of document 02, "Show the lead bytes as the Unicode people print them". Of every table of classes, which the checker's functions ask for and the constant is:
-- each entry says of its byte what 01's rule says, the count of leading ones included. Of calls over their own contracts, for every byte: the class that utf8::class_of
-- answers is the one that the rule gives, says what the rule says, and has the sequence length that utf8::lead_size answers, whose code counts those ones; and
-- utf8::is_ascii, by which the checker passes over whole blocks, says yes exactly if the class of each byte is ASCII. That the checker answers by RFC 3629's grammar is
-- its contract, which is as it was.
-- Assumes nothing.
use mathlib.Core.Path.{◌≡◌, sym, subst⁻¹, ◌∙◌}
use mathlib.Core.Bool.{true}
use mathlib.Core.Logic.{◌↔◌}
use mathlib.Core.List.{List}
use Prim.Native.Nat.{ℕ, ◌<◌}
use lib.ListN.{length, get_or}
use Rattle.utf8.specs.declared.Class.{Class}
use Rattle.utf8.specs.declared.Class.TheVariants.{No, As}
use Rattle.utf8.specs.Class.{class_of, class_size, Table, Leads}
use Rattle.utf8.proofs.Classes.{leads, ascii_classes}
use Rattle.utf8.proofs.class_of.Reads as class_of_call
use Rattle.utf8.proofs.lead_size.Reads as lead_size
use Rattle.utf8.proofs.is_ascii.Reads as is_ascii_call

pub table_leads : (t : List Class) → Table t → (a : ℕ) → a < 256 → Leads a (get_or t a No)
table_leads t p a h = subst⁻¹ (λ (c : Class). Leads a c) (p.each a h) (leads a)

pub class_of_rule : (κs : _) (a : _) (r : _) (e : _) → class_of_call.Learnt κs a r e → r ≡ class_of a.0
class_of_rule κs a r e p = p

pub class_of_leads : (κs : _) (a : _) (r : _) (e : _) → class_of_call.Learnt κs a r e → Leads a.0 r
class_of_leads κs a r e p = subst⁻¹ (λ (c : Class). Leads a.0 c) p (leads a.0)

pub class_of_sized : (κs κs' : _) (a : _) (r n : _) (e e' : _) → class_of_call.Learnt κs a r e → lead_size.Learnt κs' a n e' → class_size r ≡ n
class_of_sized κs κs' a r n e e' p q = (class_of_leads κs a r e p).size ∙ sym q

pub is_ascii_classes : (κs : _) (a : _) (r : _) (e : _) → is_ascii_call.Learnt κs a r e
    → (r ≡ true) ↔ ((k : ℕ) → k < length a.0.now → class_of (get_or a.0.now k 0) ≡ As)
is_ascii_classes κs a r e p = (λ y. (ascii_classes a.0.now).0 (sym p ∙ y), λ f. p ∙ (ascii_classes a.0.now).1 f)
