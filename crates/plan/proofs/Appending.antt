-- What an append answers and leaves, from what it found on the way; and what the tray holds afterwards.
-- Assumes nothing.
use mathlib.Core.Path.{◌≡◌, refl, sym, ap, ◌∙◌}
use mathlib.Core.Bool.{Bool, true, false, cond}
use mathlib.Core.List.{List, [], ◌∷◌, ◌++◌, append_assoc, append-nil}
use Prim.Native.Nat.{ℕ, ◌+◌, ◌-◌, ◌<◌, ◌≤◌}
use native.Mathlib.Omega.{arith}
use borrow.Author.Tests.{lt-ltb, le-ltb, lt-leb, le-leb, leb-false, ltb-false}
use borrow.Rule.Slice.PartMut.{mid_of, put_mid}
use lib.Dec.{leb, ltb}
use lib.ListN.{length, take, drop, length-append, length-drop, drop_of_length-le}
use lib.Seq.{length-take-le, take_all, take_at}
use Rattle.wire.specs.Over.{over, Put}
use Rattle.utf8.specs.Utf8.{well_formed}
use Rattle.nts.specs.Refusal.{nothing, number_of, beside_of}
use Rattle.nts.specs.declared.NtsError.{NtsError}
use Rattle.layout.specs.Write.{Count, bytes, refused, told_count}
use Rattle.layout.specs.declared.ByteCount.{ByteCount}
use Rattle.layout.specs.declared.ByteCount.TheVariants as count
use Rattle.plan.specs.Tray.{fields, fields_in, cookies_in, names_in, field_bytes, room_for, behind, grown_tray, deny, Denies}
use Rattle.plan.specs.Code.{none, whole, counted}
use Rattle.plan.specs.Plan.{Told, grown, refused_with, with_used, append, tray_after, told_appended, Appends}
use Rattle.plan.specs.declared.Plan.{Plan}
use Rattle.plan.specs.declared.Appended.{Appended}
use Rattle.plan.specs.declared.Appended.TheVariants as appended
use Rattle.wire.proofs.Over.{length_over}
use Rattle.plan.proofs.Fields.{held, length_field, from_more}
use Rattle.plan.proofs.Counting.{bodies_of, broken_of, cookies_are}

-- ---- a field

-- what is told of the room for one, and the tray that belongs to it
abbrev pub Behind : ℕ → ℕ → List ℕ → List ℕ → Count → List ℕ → Type 0
Behind tag used body tray c t =
    (c ≡ room_for (length tray) used (length body)) × (t ≡ grown_tray (room_for (length tray) used (length body)) tag used body tray)

module _ (tag used : ℕ) (body tray : List ℕ) where
  pub field_tight : length tray < used + (3 + length body) → Behind tag used body tray (refused 10 nothing) tray
  field_tight h = rw (lt-ltb (length tray) (used + (3 + length body)) h) (refl, refl)

  -- what the field's writer left in the rest of the tray
  pub field_done : (r : ℕ) (t : List ℕ) → used + (3 + length body) ≤ length tray
      → Put (3 + length body) (field_bytes tag body) (mid_of used (length tray - used) tray) r t
      → Behind tag used body tray (bytes (used + r)) (put_mid used (length tray - used) tray t)
  field_done r t h p =
      let k : length (drop used tray) ≤ length tray - used = omega (arith, length-drop used tray) in
      let d : mid_of used (length tray - used) tray ≡ drop used tray = take_all (length tray - used) (drop used tray) k in
      let z : drop (length tray - used) (drop used tray) ≡ [] = drop_of_length-le (drop used tray) k in
      rw (le-ltb (length tray) (used + (3 + length body)) h) (ap (λ (i : ℕ). bytes (used + i)) p.count, rw (z, append-nil, p.left, d))

-- ---- a cookie

-- what the field's count tells of the plan
abbrev grown_by : Plan → Count → Told
grown_by x (bytes n) = grown (with_used x n)
grown_by x (refused k b) = refused_with k b

module _ (x : Plan) (cookie tray : List ℕ) where
  -- a refusal leaves the tray as it was
  pub refused_so : (e : NtsError) → refused_with (number_of e) (beside_of e) ≡ append x cookie tray → Appends x cookie tray (appended.Refused e) tray
  refused_so e h = record { says = h; left = rw (← h) }

  pub append_broken : none ≡ counted (cookies_in x.used tray) → refused_with 9 nothing ≡ append x cookie tray
  unfolding append
  append_broken e = rw (broken_of (cookies_in x.used tray) e)

  module _ (n m : ℕ) (e : whole n m ≡ counted (cookies_in x.used tray)) where
    pub append_long : 65535 < length cookie → refused_with 8 nothing ≡ append x cookie tray
    unfolding append
    append_long h =
        let b = bodies_of (cookies_in x.used tray) n m e in
        rw (b.are, lt-ltb 65535 (length cookie) h)

    module _ (short : length cookie ≤ 65535) where
      pub append_full : 8 ≤ n → refused_with 7 nothing ≡ append x cookie tray
      unfolding append
      append_full h =
          let b = bodies_of (cookies_in x.used tray) n m e in
          rw (b.are, le-ltb 65535 (length cookie) short, le-leb 8 (length b.bodies) (omega (arith, b.count)))

      append_room : n < 8 → grown_by x (room_for (length tray) x.used (length cookie)) ≡ append x cookie tray
      unfolding append
      append_room h =
          let b = bodies_of (cookies_in x.used tray) n m e in
          rw (b.are, le-ltb 65535 (length cookie) short, lt-leb 8 (length b.bodies) (omega (arith, b.count))) (of (ltb (length tray) (x.used + (3 + length cookie))) (x.used + (3 + length cookie)))
        where
          of : (t : Bool) (k : ℕ) → grown_by x (cond t (refused 10 nothing) (bytes k)) ≡ cond t (refused_with 10 nothing) (grown (with_used x k))
          of true k = refl
          of false k = refl

      -- what the field's writer answered and left
      pub append_put : n < 8 → (c : Count) (r : Appended) (t : List ℕ) → told_appended r ≡ grown_by x c → Behind 1 x.used cookie tray c t → Appends x cookie tray r t
      append_put h c r t s p = record {
        says = s ∙ ap (grown_by x) p.0 ∙ append_room h;
        left = p.1 ∙ of (room_for (length tray) x.used (length cookie)) ∙ ap (λ (y : Told). tray_after y x.used cookie tray) (append_room h);
      }
        where
          of : (d : Count) → grown_tray d 1 x.used cookie tray ≡ tray_after (grown_by x d) x.used cookie tray
          of (bytes k) = refl
          of (refused k b) = refl

-- ---- a denied name

module _ (used : ℕ) (name tray : List ℕ) where
  pub denied_so : (e : NtsError) → refused (number_of e) (beside_of e) ≡ deny used name tray → Denies used name tray (count.Refused e) tray
  denied_so e h = record { says = h; left = rw (← h) }

  pub deny_broken : none ≡ counted (fields_in 2 used tray) → refused 9 nothing ≡ deny used name tray
  unfolding deny names_in
  deny_broken e = rw (broken_of (fields_in 2 used tray) e)

  module _ (n m : ℕ) (e : whole n m ≡ counted (fields_in 2 used tray)) where
    pub deny_not : well_formed name ≡ false → refused 9 nothing ≡ deny used name tray
    unfolding deny names_in
    deny_not w = rw ((bodies_of (fields_in 2 used tray) n m e).are, w)

    module _ (w : well_formed name ≡ true) where
      pub deny_long : 65535 < length name → refused 8 nothing ≡ deny used name tray
      unfolding deny names_in
      deny_long h = rw ((bodies_of (fields_in 2 used tray) n m e).are, w, lt-ltb 65535 (length name) h)

      pub deny_put : length name ≤ 65535 → (r : ByteCount) (t : List ℕ) → Behind 2 used name tray (told_count r) t → Denies used name tray r t
      unfolding deny names_in
      deny_put h r t p =
          let d : room_for (length tray) used (length name) ≡ deny used name tray = rw ((bodies_of (fields_in 2 used tray) n m e).are, w, le-ltb 65535 (length name) h) in
          record { says = p.0 ∙ d; left = p.1 ∙ ap (λ (c : Count). grown_tray c 2 used name tray) d }

-- ---- the tray afterwards

-- the used part, and the field behind it
taken : (used : ℕ) (b tray : List ℕ) → used + length b ≤ length tray → take (used + length b) (behind used b tray) ≡ take used tray ++ b
unfolding over
taken used b tray h =
    let l : length (take used tray) ≡ used = length-take-le used tray (omega arith) in
    let e : length (take used tray ++ b) ≡ used + length b = omega (arith, length-append (take used tray) b) in
    ap (take (used + length b)) (sym (append_assoc (take used tray) b (drop (length b) (drop used tray)))) ∙ take_at (take used tray ++ b) (drop (length b) (drop used tray)) (used + length b) e

module _ (tag used : ℕ) (c tray : List ℕ) (l : List (List ℕ)) (k : fields_in tag used tray ≡ fields l) where
  inside_more : used + (3 + length c) ≤ length tray → fields_in tag (used + (3 + length c)) (behind used (field_bytes tag c) tray) ≡ fields (l ++ (c ∷ []))
  unfolding fields_in
  inside_more h =
      let b = field_bytes tag c in
      let n : length b ≡ 3 + length c = length_field tag c in
      let i : used + length b ≤ length tray = omega arith in
      let j : length (behind used b tray) ≡ length tray = omega (arith, length-append (take used tray) (over b (drop used tray)), length_over b (drop used tray) (omega (arith, length-drop used tray)), length-drop used tray, length-take-le used tray (omega arith)) in
      let t : take (used + (3 + length c)) (behind used b tray) ≡ take used tray ++ b = ap (λ (j : ℕ). take (used + j) (behind used b tray)) (sym n) ∙ taken used b tray i in
      rw (le-ltb (length (behind used b tray)) (used + (3 + length c)) (omega arith), t) (from_more tag 0 (take used tray) c l (held tag used tray l k).are)

  -- fields of one tag, and one more
  fields_more : (u : ℕ) → room_for (length tray) used (length c) ≡ bytes u → fields_in tag u (behind used (field_bytes tag c) tray) ≡ fields (l ++ (c ∷ []))
  fields_more u e = of (ltb (length tray) (used + (3 + length c))) refl e
    where
      of : (t : Bool) → ltb (length tray) (used + (3 + length c)) ≡ t → cond t (refused 10 nothing) (bytes (used + (3 + length c))) ≡ bytes u
          → fields_in tag u (behind used (field_bytes tag c) tray) ≡ fields (l ++ (c ∷ []))
      of true h i = let z : ◌≡◌ {A = ℕ} 0 1 = cc in absurd (omega arith)
      of false h i = let y : used + (3 + length c) ≡ u = cc in rw (← y) (inside_more (ltb-false (length tray) (used + (3 + length c)) h))

module _ (x x' : Plan) (c t : List ℕ) (l : List (List ℕ)) (e : append x c t ≡ grown x') (k : cookies_in x.used t ≡ fields l) where
  granted : (length l < 8) × (room_for (length t) x.used (length c) ≡ bytes x'.used)
  unfolding append
  granted = of (ltb 65535 (length c)) (leb 8 (length l)) (ltb (length t) (x.used + (3 + length c))) refl (rw k at e)
    where
      of : (p q r : Bool) → leb 8 (length l) ≡ q
          → cond p (refused_with 8 nothing) (cond q (refused_with 7 nothing) (cond r (refused_with 10 nothing) (grown (with_used x (x.used + (3 + length c)))))) ≡ grown x'
          → (length l < 8) × (cond r (refused 10 nothing) (bytes (x.used + (3 + length c))) ≡ bytes x'.used)
      of true q r f i = let z : ◌≡◌ {A = ℕ} 0 1 = cc in absurd (omega arith)
      of false true r f i = let z : ◌≡◌ {A = ℕ} 0 1 = cc in absurd (omega arith)
      of false false true f i = let z : ◌≡◌ {A = ℕ} 0 1 = cc in absurd (omega arith)
      of false false false f i = let y : with_used x (x.used + (3 + length c)) ≡ x' = cc in (leb-false 8 (length l) f, ap (λ (y : Plan). bytes y.used) y)

  -- the cookie stands behind those that the tray held
  pub append_cookies : (t' : List ℕ) → t' ≡ tray_after (append x c t) x.used c t → cookies_in x'.used t' ≡ fields (l ++ (c ∷ []))
  unfolding cookies_in
  append_cookies t' h =
      let a : t' ≡ behind x.used (field_bytes 1 c) t = h ∙ ap (λ (r : Told). tray_after r x.used c t) e in
      rw (a, fields_more 1 x.used c t l (cookies_are x.used t l k).are x'.used granted.1, le-ltb 8 (length (l ++ (c ∷ []))) (omega (arith, granted.0, length-append l (c ∷ []))))

module _ (used u : ℕ) (name tray : List ℕ) (l : List (List ℕ)) (e : deny used name tray ≡ bytes u) (k : names_in used tray ≡ fields l) where
  denied : room_for (length tray) used (length name) ≡ bytes u
  unfolding deny
  denied = of (well_formed name) (ltb 65535 (length name)) (room_for (length tray) used (length name)) (rw k at e)
    where
      of : (p q : Bool) (r : Count) → cond p (cond q (refused 8 nothing) r) (refused 9 nothing) ≡ bytes u → r ≡ bytes u
      of true true r i = let z : ◌≡◌ {A = ℕ} 0 1 = cc in absurd (omega arith)
      of true false r i = i
      of false q r i = let z : ◌≡◌ {A = ℕ} 0 1 = cc in absurd (omega arith)

  -- the name stands behind those that the tray held
  pub deny_names : names_in u (grown_tray (deny used name tray) 2 used name tray) ≡ fields (l ++ (name ∷ []))
  unfolding names_in
  deny_names = rw e (fields_more 2 used name tray l k u denied)
