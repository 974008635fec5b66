-- The reply reader's table is that reader: at each kind below 15 by computing, at the others since they are unknown.
-- Assumes nothing.
use mathlib.Core.Path.{◌≡◌, refl}
use mathlib.Core.Bool.{false, true≢false}
use Prim.Native.Nat.{ℕ, ◌≤◌}
use native.Mathlib.Omega.{arith}
use lib.Dec.{eqb}
use borrow.Author.Tests.{ne_eqb}
use Rattle.layout.specs.declared.Profile.{Profile}
use Rattle.walk.specs.Rules.{tell_act, rule_act, reader_of}
use Rattle.walk.proofs.Tables.{Every, table_is}
use Rattle.reply.specs.Reply.{act, once, reader, rules}

-- in every profile
pub table_reader_lem : (P : Profile) → reader_of (record { profile = P; entries = rules }) ≡ reader P
unfolding Every rule_act tell_act act once
table_reader_lem =
    table_is rules act once refl
    (λ e b. refl, (λ e b. refl, (λ e b. refl, (λ e b. absurd (true≢false e), (λ e b. refl, (λ e b. refl, (λ e b. refl, (λ e b. refl, (λ e b. refl, (λ e b. refl, (λ e b. refl, (λ e b. refl, (λ e b. refl, (λ e b. refl, (λ e b. refl, tt)))))))))))))))
    (refl, (refl, (refl, (refl, (refl, (refl, (refl, (refl, (refl, (refl, (refl, (refl, (refl, (refl, (refl, tt)))))))))))))))
    (λ k h. let other : (j : ℕ) → j ≤ 14 → eqb k j ≡ false = λ j l. ne_eqb k j (λ q. omega arith) in
    simp (other 1 (omega arith), other 4 (omega arith), other 6 (omega arith), other 7 (omega arith)))
