-- `record::NtsRecord::parse` meets its contract: what each callee ensured is put together by the laws of `read_at`.
use mathlib.Core.Path.{refl, ap, sym, ◌∙◌}
use native.Mathlib.Omega.{arith}
use Rattle.record.specs.Told.{told_fault, told_parsed}
use Rattle.record.proofs.Read.{from_rest, past_end, no_header, faulty, faultless}
use Rattle.record.proofs.NtsRecord.parse.Goals as goal

pub returns-then-message-at : goal.returns-then-message-at
returns-then-message-at c = ap told_parsed c.refused.ensures ∙ past_end _ _ (omega arith)

pub returns-then-rest-lt-HEADER : goal.returns-then-rest-lt-HEADER
returns-then-rest-lt-HEADER c = ap told_parsed c.refused-then-rest-lt-HEADER.ensures ∙ no_header _ _ c.if-rest-lt-HEADER.true ∙ from_rest _ _

pub returns-in-None : goal.returns-in-None
returns-in-None c = faultless _ _ _ _ _ _ _ 0 c.if-rest-lt-HEADER.false c.number_at-word.ensures c.number_at-stated.ensures c.kind_of-kind.ensures c.there-body.ensures c.shape_of.ensures (ap told_fault (sym c.in-None.is) ∙ c.fault_of-fault.ensures) refl _ _ c.is_critical-critical.ensures c.record_of-item.ensures ∙ from_rest _ _

pub returns-in-Short : goal.returns-in-Short
returns-in-Short c = ap told_parsed c.refused-in-Short.ensures ∙ faulty _ _ _ _ _ _ _ 1 c.if-rest-lt-HEADER.false c.number_at-word.ensures c.number_at-stated.ensures c.kind_of-kind.ensures c.there-body.ensures c.shape_of.ensures (ap told_fault (sym c.in-Short.is) ∙ c.fault_of-fault.ensures) (λ z. omega arith) ∙ from_rest _ _

pub returns-in-IllFormed : goal.returns-in-IllFormed
returns-in-IllFormed c = ap told_parsed c.refused-in-IllFormed.ensures ∙ faulty _ _ _ _ _ _ _ 2 c.if-rest-lt-HEADER.false c.number_at-word.ensures c.number_at-stated.ensures c.kind_of-kind.ensures c.there-body.ensures c.shape_of.ensures (ap told_fault (sym c.in-IllFormed.is) ∙ c.fault_of-fault.ensures) (λ z. omega arith) ∙ from_rest _ _
