-- A name and a port where they are planned; and records put one after the other as a message's bytes.
-- Assumes nothing.
use mathlib.Core.Path.{◌≡◌, sym, ap, subst, ◌∙◌}
use mathlib.Core.Bool.{false}
use mathlib.Core.List.{List, ◌∷◌, ◌++◌, append_assoc}
use Prim.Native.Nat.{ℕ, ◌≤◌}
use lib.ListN.{length}
use Rattle.wire.specs.Over.{bytes_of, Tried}
use Rattle.walk.specs.Message.{flat}
use Rattle.walk.proofs.Reorder.{flat_append}
use Rattle.plan.specs.Tray.{fields}
use Rattle.plan.specs.Plan.{name_length, name_record}
use Rattle.plan.specs.Plan as plans
use Rattle.plan.specs.declared.NameLength.{NameLength}
use Rattle.plan.specs.declared.NameLength.TheVariants as name
use Rattle.plan.specs.declared.Port.{Port}
use Rattle.plan.specs.declared.Port.TheVariants as port
use Rattle.messages.specs.Messages.{record_with, short_record, server_record, port_record}
use Rattle.layout.specs.Table.{bit_of}
use Rattle.layout.specs.Write.{word_of}
use Rattle.messages.proofs.Putting.{tried_none, short_tried, one_record}

-- a name's record where one is planned, and a port's
module _ (o : List ℕ) where
  pub server_record_lem : {r : ℕ} {o' : List ℕ} (b : List ℕ) (x : NameLength) (n : ℕ) → x ≡ name.Bytes n → length b ≡ name_length x → n ≤ 65535
      → Tried (length (short_record (word_of 6 (bit_of 6 false)) b)) (short_record (word_of 6 (bit_of 6 false)) b) o r o' → Tried (name_record x) (flat (server_record x b)) o r o'
  server_record_lem {r} {o'} b x n e l h p =
      subst (λ (y : NameLength). Tried (name_record y) (flat (server_record y b)) o r o') (sym e) (one_record (short_tried (word_of 6 (bit_of 6 false)) b n (l ∙ ap name_length e) h p))

  pub no_server : (b : List ℕ) (x : NameLength) → x ≡ name.None → Tried (name_record x) (flat (server_record x b)) o 0 o
  no_server b x e = subst (λ (y : NameLength). Tried (name_record y) (flat (server_record y b)) o 0 o) (sym e) (tried_none o)

  pub port_record_lem : {r : ℕ} {o' : List ℕ} (x : Port) (n : ℕ) → x ≡ port.Number n → Tried 6 (record_with 7 (bytes_of n)) o r o' → Tried (plans.port_record x) (flat (port_record x)) o r o'
  port_record_lem {r} {o'} x n e p = subst (λ (y : Port). Tried (plans.port_record y) (flat (port_record y)) o r o') (sym e) (one_record p)

  pub no_port : (x : Port) → x ≡ port.None → Tried (plans.port_record x) (flat (port_record x)) o 0 o
  no_port x e = subst (λ (y : Port). Tried (plans.port_record y) (flat (port_record y)) o 0 o) (sym e) (tried_none o)

-- records put one after the other are the message's bytes; e is the end record
pub laid_lists : (a b : List ℕ) (l : List (List ℕ)) (e : List ℕ) → ((a ++ b) ++ flat l) ++ e ≡ flat (a ∷ b ∷ l) ++ e
laid_lists a b l e = ap (λ (x : List ℕ). x ++ e) (append_assoc a b (flat l))

pub laid_options : (u v w : List (List ℕ)) → (flat u ++ flat v) ++ flat w ≡ flat (u ++ (v ++ w))
laid_options u v w = append_assoc (flat u) (flat v) (flat w) ∙ sym (flat_append u (v ++ w) ∙ ap (λ (x : List ℕ). flat u ++ x) (flat_append v w))

pub laid_reply : (a b : List ℕ) (u v w l : List (List ℕ)) (e : List ℕ)
    → (((a ++ b) ++ flat (u ++ (v ++ w))) ++ flat l) ++ e ≡ flat (a ∷ b ∷ (u ++ (v ++ (w ++ l)))) ++ e
laid_reply a b u v w l e =
    ap (λ (x : List ℕ). x ++ e)
    (append_assoc (a ++ b) (flat (u ++ (v ++ w))) (flat l)
    ∙ ap (λ (x : List ℕ). (a ++ b) ++ x) (sym (flat_append (u ++ (v ++ w)) l) ∙ ap flat (append_assoc u (v ++ w) l ∙ ap (λ (x : List (List ℕ)). u ++ x) (append_assoc v w l)))
    ∙ append_assoc a b (flat (u ++ (v ++ (w ++ l)))))

-- what one tray holds
pub same_held : (l l' : List (List ℕ)) → fields l ≡ fields l' → l ≡ l'
same_held l l' e = cc
