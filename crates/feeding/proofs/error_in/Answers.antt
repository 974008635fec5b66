-- `feeding::error_in` meets its contract: each arm is a test of the definition, and a number that is none of the first eighteen is the last.
use mathlib.Core.Path.{◌≡◌, refl, sym}
use Rattle.nts.specs.Refusal.{error_in}
use Rattle.feeding.specs.Fed.{has_beside, no_algorithm}
use Rattle.feeding.proofs.Holding.{of_each}
use Rattle.feeding.proofs.error_in.Goals as goal

pub returns-in-1 : goal.returns-in-1
unfolding error_in has_beside
returns-in-1 c = rw c.in-1.is

pub returns-in-2 : goal.returns-in-2
unfolding error_in has_beside
returns-in-2 c = rw c.in-2.is

pub returns-in-3 : goal.returns-in-3
unfolding error_in has_beside
returns-in-3 c = rw c.in-3.is

pub returns-in-4 : goal.returns-in-4
unfolding error_in has_beside
returns-in-4 c = rw c.in-4.is

pub returns-in-5 : goal.returns-in-5
unfolding error_in has_beside
returns-in-5 c = rw c.in-5.is

pub returns-in-6 : goal.returns-in-6
unfolding error_in has_beside
returns-in-6 c = rw c.in-6.is

pub returns-in-7 : goal.returns-in-7
unfolding error_in has_beside
returns-in-7 c = rw c.in-7.is

pub returns-in-8 : goal.returns-in-8
unfolding error_in has_beside
returns-in-8 c = rw c.in-8.is

pub returns-in-9 : goal.returns-in-9
unfolding error_in has_beside
returns-in-9 c = rw c.in-9.is

pub returns-in-10 : goal.returns-in-10
unfolding error_in has_beside
returns-in-10 c = rw c.in-10.is

pub returns-in-11 : goal.returns-in-11
unfolding error_in has_beside
returns-in-11 c = rw c.in-11.is

pub returns-in-12 : goal.returns-in-12
unfolding error_in has_beside
returns-in-12 c = rw c.in-12.is

pub returns-in-13 : goal.returns-in-13
unfolding error_in has_beside
returns-in-13 c = rw c.in-13.is

pub returns-in-14 : goal.returns-in-14
unfolding error_in has_beside
returns-in-14 c = rw c.in-14.is

pub returns-in-15 : goal.returns-in-15
unfolding error_in has_beside
returns-in-15 c = rw c.in-15.is

pub returns-in-16 : goal.returns-in-16
unfolding error_in has_beside
returns-in-16 c = rw c.in-16.is

pub returns-in-18 : goal.returns-in-18
unfolding error_in has_beside
returns-in-18 c = rw c.in-18.is

pub returns-in-273 : goal.returns-in-273
unfolding error_in has_beside
returns-in-273 c = rw c.in-273.is

pub returns-in_default : goal.returns-in_default
unfolding error_in has_beside
returns-in_default c =
    let k = c.in_default.in_default-own.rest in
    let n = c.args.number in
    let last : n ≡ no_algorithm =
    of_each (λ m. m ≡ n → n ≡ no_algorithm)
    (λ e. absurd (k.0.0.0.0.0.0.0.0.0.0.0.0.0.0.0.0.0.1 (sym e))) (λ e. absurd (k.0.0.0.0.0.0.0.0.0.0.0.0.0.0.0.0.1 (sym e))) (λ e. absurd (k.0.0.0.0.0.0.0.0.0.0.0.0.0.0.0.1 (sym e))) (λ e. absurd (k.0.0.0.0.0.0.0.0.0.0.0.0.0.0.1 (sym e))) (λ e. absurd (k.0.0.0.0.0.0.0.0.0.0.0.0.0.1 (sym e))) (λ e. absurd (k.0.0.0.0.0.0.0.0.0.0.0.0.1 (sym e))) (λ e. absurd (k.0.0.0.0.0.0.0.0.0.0.0.1 (sym e))) (λ e. absurd (k.0.0.0.0.0.0.0.0.0.0.1 (sym e))) (λ e. absurd (k.0.0.0.0.0.0.0.0.0.1 (sym e))) (λ e. absurd (k.0.0.0.0.0.0.0.0.1 (sym e))) (λ e. absurd (k.0.0.0.0.0.0.0.1 (sym e))) (λ e. absurd (k.0.0.0.0.0.0.1 (sym e))) (λ e. absurd (k.0.0.0.0.0.1 (sym e))) (λ e. absurd (k.0.0.0.0.1 (sym e))) (λ e. absurd (k.0.0.0.1 (sym e))) (λ e. absurd (k.0.0.1 (sym e))) (λ e. absurd (k.0.1 (sym e))) (λ e. absurd (k.1 (sym e))) (λ e. sym e) n c.requires refl in
    rw last
