-- `record::look` meets its contract: what each callee ensured is put together by the laws of `look_at`.
use mathlib.Core.Path.{refl, ap, sym, ◌∙◌}
use native.Mathlib.Omega.{arith}
use Rattle.layout.specs.Table.{shape_of}
use Rattle.layout.proofs.Profiles.{taken_shape}
use Rattle.record.specs.Told.{told_fault, told_looked}
use Rattle.record.proofs.Read.{look_rest, look_past_end, look_no_header, look_faulty, look_faultless}
use Rattle.record.proofs.look.Goals as goal

pub returns-then-message-at : goal.returns-then-message-at
returns-then-message-at c = ap told_looked c.unseen.ensures ∙ look_past_end _ _ _ (omega arith)

pub returns-then-rest-lt-HEADER : goal.returns-then-rest-lt-HEADER
returns-then-rest-lt-HEADER c = ap told_looked c.unseen-then-rest-lt-HEADER.ensures ∙ look_no_header _ _ _ c.if-rest-lt-HEADER.true ∙ look_rest _ _ _

pub returns-in-None : goal.returns-in-None
returns-in-None c = look_faultless _ _ _ _ _ _ _ _ 0 c.if-rest-lt-HEADER.false c.number_at-word.ensures c.number_at-size.ensures c.kind_of-kind.ensures c.there-body.ensures (c.shape_of.ensures ∙ ap shape_of c.taken.ensures ∙ taken_shape _ _) (ap told_fault (sym c.in-None.is) ∙ c.fault_of-fault.ensures) refl _ c.is_critical.ensures ∙ look_rest _ _ _

pub returns-in-Short : goal.returns-in-Short
returns-in-Short c = ap told_looked c.unseen-in-Short.ensures ∙ look_faulty _ _ _ _ _ _ _ _ 1 c.if-rest-lt-HEADER.false c.number_at-word.ensures c.number_at-size.ensures c.kind_of-kind.ensures c.there-body.ensures (c.shape_of.ensures ∙ ap shape_of c.taken.ensures ∙ taken_shape _ _) (ap told_fault (sym c.in-Short.is) ∙ c.fault_of-fault.ensures) (λ z. omega arith) ∙ look_rest _ _ _

pub returns-in-IllFormed : goal.returns-in-IllFormed
returns-in-IllFormed c = ap told_looked c.unseen-in-IllFormed.ensures ∙ look_faulty _ _ _ _ _ _ _ _ 2 c.if-rest-lt-HEADER.false c.number_at-word.ensures c.number_at-size.ensures c.kind_of-kind.ensures c.there-body.ensures (c.shape_of.ensures ∙ ap shape_of c.taken.ensures ∙ taken_shape _ _) (ap told_fault (sym c.in-IllFormed.is) ∙ c.fault_of-fault.ensures) (λ z. omega arith) ∙ look_rest _ _ _
