-- `record::record_of` meets its contract: each arm knows the kind, and the table computes at it.
use Rattle.layout.specs.Table.{row_of, shape_of}
use Rattle.layout.proofs.Table.{unnamed, unknown_shape}
use Rattle.record.specs.Record.{value_of, seen_of}
use Rattle.record.proofs.record_of.Goals as goal

pub returns-in-0 : goal.returns-in-0
unfolding seen_of value_of shape_of row_of
returns-in-0 c = rw c.in-0.is

pub returns-in-1 : goal.returns-in-1
unfolding seen_of value_of shape_of row_of
returns-in-1 c = rw c.in-1.is

pub returns-in-2 : goal.returns-in-2
unfolding seen_of value_of shape_of row_of
returns-in-2 c = rw (c.in-2.is, c.number_at.ensures)

pub returns-in-3 : goal.returns-in-3
unfolding seen_of value_of shape_of row_of
returns-in-3 c = rw (c.in-3.is, c.number_at-in-3.ensures)

pub returns-in-4 : goal.returns-in-4
unfolding seen_of value_of shape_of row_of
returns-in-4 c = rw c.in-4.is

pub returns-in-5 : goal.returns-in-5
unfolding seen_of value_of shape_of row_of
returns-in-5 c = rw c.in-5.is

pub returns-in-6 : goal.returns-in-6
unfolding seen_of value_of shape_of row_of
returns-in-6 c = rw c.in-6.is

pub returns-in-7 : goal.returns-in-7
unfolding seen_of value_of shape_of row_of
returns-in-7 c = rw (c.in-7.is, c.number_at-in-7.ensures)

pub returns-in-8 : goal.returns-in-8
unfolding seen_of value_of shape_of row_of
returns-in-8 c = rw c.in-8.is

pub returns-in-9 : goal.returns-in-9
unfolding seen_of value_of shape_of row_of
returns-in-9 c = rw c.in-9.is

pub returns-in-10 : goal.returns-in-10
unfolding seen_of value_of shape_of row_of
returns-in-10 c = rw c.in-10.is

pub returns-in-12 : goal.returns-in-12
unfolding seen_of value_of shape_of row_of
returns-in-12 c = rw (c.in-12.is, c.halves_of.ensures)

pub returns-in-13 : goal.returns-in-13
unfolding seen_of value_of shape_of row_of
returns-in-13 c = rw c.in-13.is

pub returns-in-14 : goal.returns-in-14
unfolding seen_of value_of shape_of row_of
returns-in-14 c = rw c.in-14.is

pub returns-in_default : goal.returns-in_default
unfolding seen_of value_of
returns-in_default c = rw (unknown_shape _ (unnamed _ c.in_default.in_default-own.rest))
