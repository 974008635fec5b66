-- `record::row_of` meets its contract: each arm knows the kind, and the table computes at it.
use mathlib.Core.Path.{sym, ◌∙◌}
use Rattle.layout.specs.Table.{row_of}
use Rattle.layout.proofs.Table.{unnamed, unknown_row}
use Rattle.record.proofs.row_of.Goals as goal

pub returns-in-0 : goal.returns-in-0
unfolding row_of
returns-in-0 c = rw c.in-0.is c.row.ensures

pub returns-in-1 : goal.returns-in-1
unfolding row_of
returns-in-1 c = rw c.in-1.is c.row-in-1.ensures

pub returns-in-2 : goal.returns-in-2
unfolding row_of
returns-in-2 c = rw c.in-2.is c.row-in-2.ensures

pub returns-in-3 : goal.returns-in-3
unfolding row_of
returns-in-3 c = rw c.in-3.is c.row-in-3.ensures

pub returns-in-4 : goal.returns-in-4
unfolding row_of
returns-in-4 c = rw c.in-4.is c.row-in-4.ensures

pub returns-in-5 : goal.returns-in-5
unfolding row_of
returns-in-5 c = rw c.in-5.is c.row-in-5.ensures

pub returns-in-6 : goal.returns-in-6
unfolding row_of
returns-in-6 c = rw c.in-6.is c.row-in-6.ensures

pub returns-in-7 : goal.returns-in-7
unfolding row_of
returns-in-7 c = rw c.in-7.is c.row-in-7.ensures

pub returns-in-8 : goal.returns-in-8
unfolding row_of
returns-in-8 c = rw c.in-8.is c.row-in-8.ensures

pub returns-in-9 : goal.returns-in-9
unfolding row_of
returns-in-9 c = rw c.in-9.is c.row-in-9.ensures

pub returns-in-10 : goal.returns-in-10
unfolding row_of
returns-in-10 c = rw c.in-10.is c.row-in-10.ensures

pub returns-in-12 : goal.returns-in-12
unfolding row_of
returns-in-12 c = rw c.in-12.is c.row-in-12.ensures

pub returns-in-13 : goal.returns-in-13
unfolding row_of
returns-in-13 c = rw c.in-13.is c.row-in-13.ensures

pub returns-in-14 : goal.returns-in-14
unfolding row_of
returns-in-14 c = rw c.in-14.is c.row-in-14.ensures

pub returns-in_default : goal.returns-in_default
returns-in_default c = c.row-in_default.ensures ∙ sym (unknown_row _ (unnamed _ c.in_default.in_default-own.rest))
