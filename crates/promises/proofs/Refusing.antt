-- From a contract and an answer that refuses: the number is one that the definition bears, and what was lent is as it was. Once for each sort of contract.
-- Assumes nothing.
use mathlib.Core.Path.{◌≡◌, refl, sym, ap, ◌∙◌}
use mathlib.Core.List.{List}
use mathlib.Core.Bool.{Bool, true, false, cond}
use Prim.Native.Nat.{ℕ, ◌%◌}
use native.Mathlib.Omega.{arith}
use lib.ListN.{length}
use lib.Dec.{ltb}
use Rattle.wire.specs.Over.{over}
use Rattle.wire.proofs.Over.{over_none}
use Rattle.nts.specs.Refusal.{number_of, Refused, told_refusal}
use Rattle.nts.specs.declared.NtsError.{NtsError}
use Rattle.nts.specs.declared.Refusal.{Refusal}
use Rattle.layout.specs.Write.{Count, bytes, refused, told_count, left_by, Wrote}
use Rattle.layout.specs.declared.ByteCount.{ByteCount}
use Rattle.layout.specs.declared.ByteCount.TheVariants as count
use Rattle.layout.specs.declared.Profile.{Profile}
use Rattle.walk.specs.Walk.{Outcome, stopped, ended}
use Rattle.walk.specs.Judge as judge
use Rattle.walk.specs.Found.{way_refused, way_of}
use Rattle.places.specs.Places.{room_of, cells, places_in, stored, first, refused_with, too_many, filling_of, table_with, told_filled, Fills}
use Rattle.places.specs.declared.Filled.{Filled}
use Rattle.places.specs.declared.Filled.TheVariants as filled
use Rattle.request.specs.Request as requests
use Rattle.request.specs.declared.Answer as request_answers
use Rattle.request.specs.declared.Answer.TheVariants as request_answer
use Rattle.request.proofs.Apart.{told_refused}
use Rattle.reply.specs.Reply as replies
use Rattle.reply.specs.declared.Answer as reply_answers
use Rattle.reply.specs.declared.Answer.TheVariants as reply_answer
use Rattle.plan.specs.Tray.{deny, grown_tray, Denies}
use Rattle.plan.specs.Plan as plan
use Rattle.plan.specs.declared.Plan.{Plan}
use Rattle.plan.specs.declared.Appended.{Appended}
use Rattle.plan.specs.declared.Appended.TheVariants as appended
use Rattle.cells.specs.Cells.{Given, refuses, Gives, counted, Writes}
use Rattle.cells.specs.Cells as given
use Rattle.cells.proofs.Lent.{gives_refused, gives_kept, writes_kept, number_in_lem, Sure}
use Rattle.promises.specs.Numbers.{Table, In, All, bears, of_count, of_outcome, of_answer, of_filling, of_appended, of_given}
use Rattle.promises.proofs.Bearing.{Only, in_all}

-- what a definition's answer bears is one of l
module _ (l : List ℕ) where
  -- ---- a length, and a writer

  pub count_refuses : {a : Count} {r : ByteCount} → Only l (of_count a) → told_count r ≡ a → (x : NtsError) → r ≡ count.Refused x → In (number_of x) l
  count_refuses only p x h = only (number_of x) (ap of_count (sym p ∙ ap told_count h))

  pub wrote_refuses : {a : Count} {b o o' : List ℕ} {r : ByteCount} → Only l (of_count a) → Wrote a b o r o' → (x : NtsError) → r ≡ count.Refused x
      → (o' ≡ o) × In (number_of x) l
  unfolding left_by
  wrote_refuses {a} {b} {o} only p x h = (p.left ∙ kept a (sym p.says ∙ ap told_count h), count_refuses only p.says x h)
    where
      kept : (c : Count) → c ≡ told_count (count.Refused x) → left_by c b o ≡ o
      kept (bytes n) q = let z : ◌≡◌ {A = ℕ} 0 1 = cc in absurd (omega arith)
      kept (refused k s) q = refl

  -- ---- a tray, to which a cookie or a name is appended

  pub append_refuses : {y : Plan} {cookie tray tray' : List ℕ} {r : Appended} → Only l (of_appended (plan.append y cookie tray))
      → plan.Appends y cookie tray r tray' → (x : NtsError) → r ≡ appended.Refused x → (tray' ≡ tray) × In (number_of x) l
  append_refuses {y} {cookie} {tray} only p x h =
      let e : plan.append y cookie tray ≡ plan.told_appended (appended.Refused x) = sym p.says ∙ ap plan.told_appended h in
      (p.left ∙ ap (λ (t : plan.Told). plan.tray_after t y.used cookie tray) e, only (number_of x) (ap of_appended e))

  pub deny_refuses : {used : ℕ} {name tray tray' : List ℕ} {r : ByteCount} → Only l (of_count (deny used name tray))
      → Denies used name tray r tray' → (x : NtsError) → r ≡ count.Refused x → (tray' ≡ tray) × In (number_of x) l
  deny_refuses {used} {name} {tray} only p x h =
      let e : deny used name tray ≡ told_count (count.Refused x) = sym p.says ∙ ap told_count h in
      (p.left ∙ ap (λ (t : Count). grown_tray t 2 used name tray) e, only (number_of x) (ap of_count e))

  -- ---- a table

  pub fill_refuses : {k many : ℕ} {s table table' : List ℕ} {r : Filled} → Only l (of_filling (filling_of k many s (room_of table)))
      → Fills k many s table r table' → (y : Refusal) → r ≡ filled.Refused y → (table' ≡ table) × In (number_of y.error) l
  unfolding filling_of table_with
  fill_refuses {k} {many} {s} {table} {table'} {r} only p y h =
      let e : filling_of k many s (room_of table) ≡ refused_with (told_refusal y) = sym p.says ∙ ap told_filled h in
      (p.left ∙ kept (too_many many s (room_of table)) (ltb many (length (places_in k s))) _ _ _ _ e, only (number_of y.error) (ap of_filling e))
    where
      kept : (t u : Bool) (i j : ℕ) (z : Refused) {q : Refused} (o : List ℕ) → cond t (refused_with z) (cond u (first i) (stored j)) ≡ refused_with q → cond t table o ≡ table
      kept true u i j z o e = refl
      kept false true i j z o e = let x : ◌≡◌ {A = ℕ} 0 1 = cc in absurd (omega arith)
      kept false false i j z o e = let x : ◌≡◌ {A = ℕ} 0 1 = cc in absurd (omega arith)

  -- ---- a walk, and the readers of whole messages

  pub walk_refuses : (o : Outcome) (y : Refused) → Only l (of_outcome o) → way_refused y ≡ way_of o → In y.number l
  walk_refuses (stopped r) y only e = let z : r ≡ y = cc in only y.number (ap (λ (x : Refused). bears x.number) z)
  walk_refuses (ended at next st) y only e = let z : ◌≡◌ {A = ℕ} 0 1 = cc in absurd (omega arith)

  -- the answer alone, as Request::judge gives it ..
  pub judge_refuses : (m : List ℕ) (a : judge.Answer requests.Form) {r : request_answers.Answer} → Only l (of_answer a) → requests.told_answer r ≡ requests.told_by m a
      → (y : Refusal) → r ≡ request_answer.Refused y → (a ≡ judge.refused (told_refusal y)) × In (number_of y.error) l
  judge_refuses m a only p y h =
      let e = told_refused m a (told_refusal y) (sym p ∙ ap requests.told_answer h) in
      (e, only (number_of y.error) (ap of_answer e))

  -- .. and with the table
  pub request_refuses : {m : List ℕ} {a : judge.Answer requests.Form} {table table' : List ℕ} {r : request_answers.Answer} → Only l (of_answer a) → requests.Answers m a table r table'
      → (y : Refusal) → r ≡ request_answer.Refused y → (table' ≡ table) × In (number_of y.error) l
  unfolding requests.table_after
  request_refuses {m} {a} {table} only p y h =
      let e = judge_refuses m a only p.says y h in
      (p.left ∙ ap (λ (o : judge.Answer requests.Form). over (cells (requests.names_of o)) table) e.0 ∙ over_none table, e.1)

  reply_told : (m : List ℕ) (a : judge.Answer replies.Form) (y : Refused) → replies.told_by m a ≡ replies.refused_with y → a ≡ judge.refused y
  reply_told m (judge.refused r) y e = let z : r ≡ y = cc in ap judge.refused z
  reply_told m (judge.accepted (replies.reply p a s t k c)) y e = let z : ◌≡◌ {A = ℕ} 0 1 = cc in absurd (omega arith)

  -- the answer alone, as KeyExchangeResponse::judge gives it ..
  pub reply_answer_refuses : (m : List ℕ) (a : judge.Answer replies.Form) {r : reply_answers.Answer} → Only l (of_answer a) → replies.told_answer r ≡ replies.told_by m a
      → (y : Refusal) → r ≡ reply_answer.Refused y → (a ≡ judge.refused (told_refusal y)) × In (number_of y.error) l
  reply_answer_refuses m a only p y h =
      let e = reply_told m a (told_refusal y) (sym p ∙ ap replies.told_answer h) in
      (e, only (number_of y.error) (ap of_answer e))

  -- .. and with the table
  pub reply_refuses : {P : Profile} {m : List ℕ} {n : ℕ} {ps qs table table' : List ℕ} {r : reply_answers.Answer}
      → Only l (of_answer (replies.reply_of P m n (replies.offering ps qs (room_of table)))) → replies.Reads P m n ps qs table r table'
      → (y : Refusal) → r ≡ reply_answer.Refused y → (table' ≡ table) × In (number_of y.error) l
  unfolding replies.table_after
  reply_refuses {P} {m} {n} {ps} {qs} {table} only p y h =
      let e = reply_answer_refuses m (replies.reply_of P m n (replies.offering ps qs (room_of table))) only p.says y h in
      (p.left ∙ ap (λ (o : judge.Answer replies.Form). over (cells (replies.cookies_of o)) table) e.0 ∙ over_none table, e.1)

-- ---- the calls that a host links: one word, of which the number is the remainder by 256

-- all of l stand in 01's table, and what is given bears no other number
pub record Tells (l : List ℕ) (g : Given) : Type 0 where
  pub table : All Table l
  pub only : Only l (of_given g)

-- a word that is 0 refuses nothing, since no number of the table is 0 ..
pub sure_of : {l : List ℕ} {g : Given} → Tells l g → Sure g
sure_of {l} {g} t = go g t.only
  where
    go : (x : Given) → Only l (of_given x) → Sure x
    go (given.cells c) only = tt
    go (refuses y) only = (in_all Table l t.table y.number (only y.number refl)).0

-- .. and one that is not has a number of l ..
pub number_of_lem : {l : List ℕ} {g : Given} {lent after : List ℕ} {r : ℕ} → Tells l g → Gives g lent r after → (r ≡ 0 → ⊥) → In (r % 256) l
number_of_lem {l} t p h =
    let y = gives_refused p h in
    let i = t.only y.0.number (ap of_given y.1) in
    let small = in_all Table l t.table y.0.number i in
    rw (y.2, number_in_lem y.0 (omega (arith, small.1))) i

-- .. and changes no cell, and no output
pub given_refuses : {l : List ℕ} {g : Given} {lent after : List ℕ} {r : ℕ} → Tells l g → Gives g lent r after → (r ≡ 0 → ⊥) → (after ≡ lent) × In (r % 256) l
given_refuses t p h = (gives_kept p h, number_of_lem t p h)

pub writes_refuses : {l : List ℕ} {a : Count} {b o lent o' after : List ℕ} {r : ℕ} → Tells l (counted a) → Writes a b o lent r o' after → (r ≡ 0 → ⊥)
    → (o' ≡ o) × (after ≡ lent) × In (r % 256) l
writes_refuses t p h = let k = writes_kept p h in (k.0, k.1, number_of_lem t p.gives h)
