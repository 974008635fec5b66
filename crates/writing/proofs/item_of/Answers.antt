-- `writing::item_of` meets its contract: each arm knows the kind, and the definition computes at it.
use borrow.Author.Tests.{ne_eqb}
use Rattle.writing.specs.Given.{item_of}
use Rattle.writing.proofs.item_of.Goals as goal

pub returns-in-0 : goal.returns-in-0
unfolding item_of
returns-in-0 c = rw c.in-0.is

pub returns-in-1 : goal.returns-in-1
unfolding item_of
returns-in-1 c = rw c.in-1.is

pub returns-in-2 : goal.returns-in-2
unfolding item_of
returns-in-2 c = rw c.in-2.is

pub returns-in-3 : goal.returns-in-3
unfolding item_of
returns-in-3 c = rw c.in-3.is

pub returns-in-4 : goal.returns-in-4
unfolding item_of
returns-in-4 c = rw c.in-4.is

pub returns-in-5 : goal.returns-in-5
unfolding item_of
returns-in-5 c = rw c.in-5.is

pub returns-in-6 : goal.returns-in-6
unfolding item_of
returns-in-6 c = rw c.in-6.is

pub returns-in-7 : goal.returns-in-7
unfolding item_of
returns-in-7 c = rw c.in-7.is

pub returns-in-8 : goal.returns-in-8
unfolding item_of
returns-in-8 c = rw c.in-8.is

pub returns-in-9 : goal.returns-in-9
unfolding item_of
returns-in-9 c = rw c.in-9.is

pub returns-in-10 : goal.returns-in-10
unfolding item_of
returns-in-10 c = rw c.in-10.is

pub returns-in-12 : goal.returns-in-12
unfolding item_of
returns-in-12 c = rw c.in-12.is

pub returns-in-13 : goal.returns-in-13
unfolding item_of
returns-in-13 c = rw c.in-13.is

pub returns-in-14 : goal.returns-in-14
unfolding item_of
returns-in-14 c = rw c.in-14.is

pub returns-in_default : goal.returns-in_default
unfolding item_of
returns-in_default c = let k = c.in_default.in_default-own.rest in simp (ne_eqb _ _ k.1, ne_eqb _ _ k.0.1, ne_eqb _ _ k.0.0.1, ne_eqb _ _ k.0.0.0.1, ne_eqb _ _ k.0.0.0.0.1, ne_eqb _ _ k.0.0.0.0.0.1, ne_eqb _ _ k.0.0.0.0.0.0.1, ne_eqb _ _ k.0.0.0.0.0.0.0.1, ne_eqb _ _ k.0.0.0.0.0.0.0.0.1, ne_eqb _ _ k.0.0.0.0.0.0.0.0.0.1, ne_eqb _ _ k.0.0.0.0.0.0.0.0.0.0.1, ne_eqb _ _ k.0.0.0.0.0.0.0.0.0.0.0.1, ne_eqb _ _ k.0.0.0.0.0.0.0.0.0.0.0.0.1, ne_eqb _ _ k.0.0.0.0.0.0.0.0.0.0.0.0.0.1)
