-- What a writer's definitions are, from what the writer found on the way: a record that is one, its measure, its bytes, and what the answer leaves.
-- Assumes nothing.
use mathlib.Core.Path.{◌≡◌, refl, sym, ap, ◌∙◌}
use mathlib.Core.Bool.{true, false}
use mathlib.Core.List.{List, ◌++◌}
use Prim.Native.Nat.{ℕ, ◌+◌, ◌-◌, ◌<◌, ◌≤◌, ◌^◌}
use native.Mathlib.Omega.{arith}
use borrow.Author.Tests.{leb-true, leb-false, ltb-true, ltb-false, le-leb, lt-leb, lt-ltb, le-ltb}
use borrow.Rule.Slice.PartMut.{mid_of, put_mid}
use lib.Dec.{leb, ltb}
use lib.ListN.{length, length-append}
use Rattle.utf8.proofs.Tests.{on, and_left, and_right}
use Rattle.wire.specs.Bytes.{part_at}
use Rattle.wire.specs.Over.{bytes_of, Put, Tried}
use Rattle.wire.proofs.Bytes.{length_part}
use Rattle.wire.proofs.Over.{put_as, put_then, try_then}
use Rattle.nts.specs.Refusal.{number_of, nothing, beside_of}
use Rattle.nts.specs.declared.NtsError.{NtsError}
use Rattle.nts.specs.declared.NtsError.TheVariants.{OutputTooShort}
use Rattle.layout.specs.Write.{is_inside, is_sound, is_record, is_number, body_size, body_of, word_of, header, record_bytes, bytes, refused, told_count, measured, fitted, written, left_by, Wrote}
use Rattle.layout.specs.declared.Part.{Part}
use Rattle.layout.specs.declared.Layout.{Layout}
use Rattle.layout.specs.declared.ByteCount.{ByteCount}
use Rattle.layout.specs.declared.ByteCount.TheVariants.{Bytes, Refused}

-- ---- refusal 9

pub outside : (p : Part) (n : ℕ) → n < p.start → false ≡ is_inside p n
unfolding is_inside
outside p n h = sym (lt-leb (p.start + p.len) n (omega arith))

-- from a start that is inside on, the rest decides
pub inside_rest : (p : Part) (n : ℕ) → p.start ≤ n → leb p.len (n - p.start) ≡ is_inside p n
unfolding is_inside
inside_rest p n h =
    on (leb p.len (n - p.start))
    (λ e. e ∙ sym (le-leb (p.start + p.len) n (omega (arith, leb-true p.len (n - p.start) e))))
    (λ e. e ∙ sym (lt-leb (p.start + p.len) n (omega (arith, leb-false p.len (n - p.start) e))))

pub record Sound (l : Layout) (s : List ℕ) : Type 0 where
  pub kind : l.kind ≤ 32767
  pub first : l.first.start + l.first.len ≤ length s
  pub second : l.second.start + l.second.len ≤ length s
  pub body : is_sound l.shape l.kind l.first l.second s ≡ true

-- what follows of a record that is one
pub sound : (l : Layout) (s : List ℕ) → is_record l s ≡ true → Sound l s
unfolding is_record is_inside
sound l s e =
    let k = leb l.kind 32767 in
    let a = leb (l.first.start + l.first.len) (length s) in
    let b = leb (l.second.start + l.second.len) (length s) in
    let x = and_right k _ e in
    let y = and_right a _ x in
    record {
      kind = leb-true _ _ (and_left k _ e);
      first = leb-true _ _ (and_left a _ x);
      second = leb-true _ _ (and_left b _ y);
      body = and_right b _ y;
    }

pub sound_record : (l : Layout) (s : List ℕ) → Sound l s → is_record l s ≡ true
unfolding is_record is_inside
sound_record l s x = rw (le-leb _ _ x.kind, le-leb _ _ x.first, le-leb _ _ x.second) x.body

-- two parts of one slice, one after the other, are not too long for a number of 64 bits
pub parts_fit : (l : Layout) (s : List ℕ) → length s < 2 ^ 63 → is_record l s ≡ true → l.first.len + l.second.len < 2 ^ 64
parts_fit l s h e = let x = sound l s e in omega arith

-- ---- the body

module _ (l : Layout) (s : List ℕ) where
  pub length_body : is_record l s ≡ true → length (body_of l s) ≡ body_size l
  unfolding body_of body_size bytes_of
  length_body e =
      let x = sound l s e in
      on (is_number l.shape)
      (λ t. rw t)
      (λ t. rw (t, length-append, length_part s _ _ x.first, length_part s _ _ x.second))

  -- a number, written into an output with room for it
  pub put_number_body : {o o' : List ℕ} {r : ℕ} → is_number l.shape ≡ true → body_size l ≤ length o → Tried 2 (bytes_of l.number) o r o'
      → Put (body_size l) (body_of l s) o r o'
  unfolding body_size body_of
  put_number_body {o} e h t =
      let g : 2 ≤ length o = rw e at h in
      rw e (t.room g)

  -- two parts
  pub put_parts_body : {x y o o₁ o₂ : List ℕ} {at r : ℕ} → is_record l s ≡ true → is_number l.shape ≡ false → body_size l ≤ length o
      → x ≡ part_at s l.first.start l.first.len → y ≡ part_at s l.second.start l.second.len
      → Tried (length x) x o at o₁ → Tried (length y) y (mid_of at (length o₁ - at) o₁) r o₂
      → Put (body_size l) (body_of l s) o (at + r) (put_mid at (length o₁ - at) o₁ o₂)
  unfolding body_size body_of
  put_parts_body {x} {y} {o} i e h ex ey t u =
      let z = sound l s i in
      let m : length x ≡ l.first.len = ap length ex ∙ length_part s _ _ z.first in
      let n : length y ≡ l.second.len = ap length ey ∙ length_part s _ _ z.second in
      let g : l.first.len + l.second.len ≤ length o = rw e at h in
      rw (e, ← ex, ← ey, ← m, ← n) (try_then (t.room (omega arith)) u (omega arith))

  -- a header, and then the body in the rest of the output
  pub put_record : {o o₁ o₂ : List ℕ} {w n at r : ℕ} → w ≡ word_of l.kind l.critical → n ≡ body_size l → Put 4 (header w n) o at o₁
      → Put (body_size l) (body_of l s) (mid_of at (length o₁ - at) o₁) r o₂ → 4 + body_size l ≤ length o
      → Put (4 + body_size l) (record_bytes l s) o (at + r) (put_mid at (length o₁ - at) o₁ o₂)
  unfolding record_bytes
  put_record {o} {o₁} {o₂} {w} {n} ew en p q h =
      put_as (put_then p q h) refl (ap (λ (k : ℕ). header w k ++ body_of l s) en ∙ ap (λ (k : ℕ). header k (body_size l) ++ body_of l s) ew)

  -- ---- what a record measures

  pub not_record : is_record l s ≡ false → refused 9 nothing ≡ measured l s
  unfolding measured
  not_record e = rw e

  pub too_long : is_record l s ≡ true → 65535 < body_size l → refused 8 nothing ≡ measured l s
  unfolding measured
  too_long e h = rw (e, lt-ltb 65535 (body_size l) h)

  pub just_long : is_record l s ≡ true → body_size l ≤ 65535 → bytes (4 + body_size l) ≡ measured l s
  unfolding measured
  just_long e h = rw (e, le-ltb 65535 (body_size l) h)

pub record Long (l : Layout) (s : List ℕ) (n : ℕ) : Type 0 where
  pub is : is_record l s ≡ true
  pub fits : body_size l ≤ 65535
  pub whole : n ≡ 4 + body_size l

-- and back: what is known of a record that has a length
pub measured_long : (l : Layout) (s : List ℕ) (n : ℕ) → bytes n ≡ measured l s → Long l s n
measured_long l s n e =
    on (is_record l s)
    (λ r.
    on (ltb 65535 (body_size l))
    (λ t. let z : refused 8 nothing ≡ bytes n = too_long l s r (ltb-true _ _ t) ∙ sym e in never z)
    (λ t.
    let h = ltb-false 65535 (body_size l) t in
    let z : bytes n ≡ bytes (4 + body_size l) = e ∙ sym (just_long l s r h) in
    record { is = r; fits = h; whole = cc }))
    (λ r. let z : refused 9 nothing ≡ bytes n = not_record l s r ∙ sym e in never z)
  where
    never : {A : Type 0} {k : ℕ} → refused k nothing ≡ bytes n → A
    never z = let y : ◌≡◌ {A = ℕ} 0 1 = cc in absurd (omega arith)

-- ---- what a writer answers, and leaves. It measured the record first

module _ (l : Layout) (s : List ℕ) where
  pub found : {r x : ByteCount} → r ≡ x → told_count r ≡ measured l s → told_count x ≡ measured l s
  found e m = ap told_count (sym e) ∙ m

  pub wrote_refused : {b o : List ℕ} {r : ByteCount} (e : NtsError) → r ≡ Refused e → told_count r ≡ measured l s → Wrote (written l s (length o)) b o r o
  unfolding written fitted left_by
  wrote_refused e x m =
      let z : refused (number_of e) (beside_of e) ≡ measured l s = found x m in
      rw x (record { says = rw (← z); left = rw (← z) })

  pub wrote_short : {b o : List ℕ} {r : ByteCount} (n : ℕ) → r ≡ Bytes n → told_count r ≡ measured l s → length o < n
      → Wrote (written l s (length o)) b o (Refused OutputTooShort) o
  unfolding written fitted left_by
  wrote_short {b} {o} n x m h =
      let z : bytes n ≡ measured l s = found x m in
      record { says = rw (← z, lt-ltb (length o) n h); left = rw (← z, lt-ltb (length o) n h) }

  pub wrote_all : {o o' : List ℕ} {r : ByteCount} (n k : ℕ) → r ≡ Bytes n → told_count r ≡ measured l s → n ≤ length o
      → Put (4 + body_size l) (record_bytes l s) o k o' → Wrote (written l s (length o)) (record_bytes l s) o (Bytes k) o'
  unfolding written fitted left_by
  wrote_all {o} {o'} n k x m h p =
      let z : bytes n ≡ measured l s = found x m in
      record {
        says = rw (← z, le-ltb (length o) n h) (ap bytes (p.count ∙ sym (measured_long l s n z).whole));
        left = rw (← z, le-ltb (length o) n h) p.left;
      }
