-- A record that began in the bytes held and goes on in a part behind them: how many bytes it lacks, and where its records lead once it is put together.
-- Assumes nothing.
use mathlib.Core.Path.{◌≡◌, refl, sym, ◌∙◌, ap}
use mathlib.Core.List.{List, ◌++◌}
use mathlib.Core.Bool.{Bool, true, false, true≢false}
use Prim.Native.Nat.{ℕ, ◌+◌, ◌-◌, ◌*◌, ◌≤◌, ◌<◌}
use native.Mathlib.Omega.{arith}
use native.Mathlib.Nat.{add-zero, sub-zero}
use lib.ListN.{length, take, drop, get_or, length-append, length-drop, take-append-drop, get_or-append}
use lib.Seq.{take_all, get_or-take, get_or-append-add, length-take-le, take_at, drop-drop, drop-append-le, drop-append-add}
use lib.Dec.{ltb, leb}
use borrow.Author.Tests.{lt-ltb, le-ltb, ltb-true, ltb-false, leb-true, leb-false}
use Rattle.wire.specs.Bytes.{byte_at, number_at}
use Rattle.wire.specs.Over.{over}
use Rattle.wire.proofs.Bytes.{number_drop}
use Rattle.wire.proofs.Over.{over_none}
use Rattle.record.specs.Record.{size}
use Rattle.walk.specs.Walk.{Reader}
use Rattle.walk.specs.Rules.{Rules, reader_of}
use Rattle.walk.specs.Met.{halts, on, passing}
use Rattle.walk.proofs.Chunks.{size_append}
use Rattle.pieces.specs.Pieces as pieces
use Rattle.pieces.specs.Pieces.{whole, Going, waits, decides, going, came_to}
use Rattle.pieces.specs.Code.{told_how, told_came, lacks, Fits, JudgesRest, JudgesPart}
use Rattle.pieces.specs.declared.How.{How}
use Rattle.pieces.specs.declared.How.TheVariants as how
use Rattle.pieces.specs.declared.Came.{Came}
use Rattle.pieces.specs.declared.Front.{Front}
use Rattle.pieces.proofs.Going.{long_whole, short_whole, passing_more, going_waits, going_halts, going_on, Reaches, going_reaches, further, going_from, waits_inside, decides_inside}

-- ---- how far an answer counts

pub came_within : (R : Reader) (w : pieces.How) (met at n : ℕ) (s : List ℕ) (r : Came) → told_came r ≡ came_to w n (going R met at 0 s) → at + length s ≡ n
    → (at ≤ r.gathered) × (r.gathered ≤ n)
came_within R w met at n s r e l = go (going R met at 0 s) e (going_reaches R met at s)
  where
    go : (g : Going) → told_came r ≡ came_to w n g → Reaches at s g → (at ≤ r.gathered) × (r.gathered ≤ n)
    go (waits a m) q b =
        let k : r.gathered ≡ n = ap (λ (x : pieces.Came). x.gathered) q in
        (omega arith, omega arith)
    go (decides a m through) q b =
        let k : r.gathered ≡ through = ap (λ (x : pieces.Came). x.gathered) q in
        (omega (arith, b.0, b.1), omega (arith, b.2))

-- ---- the records of a part from a place of it on

module _ (rules : Rules) (x : Front) (w : How) (p : List ℕ) (from : ℕ) (h : from ≤ length p) where
  -- as the code lends them
  abbrev rest : List ℕ
  rest = take (length p - from) (drop from p)

  rest_is : rest ≡ drop from p
  rest_is = take_all (length p - from) (drop from p) (omega (arith, length-drop from p))

  rest_long : length rest ≡ length p - from
  rest_long = ap length rest_is ∙ length-drop from p

  from_held : going (reader_of rules) x.met (x.held + from) 0 (drop from p) ≡ further (x.held + from) (going (reader_of rules) x.met 0 0 rest)
  from_held =
      going_from (reader_of rules) (x.held + from) x.met (drop from p)
      ∙ ap (λ (l : List ℕ). further (x.held + from) (going (reader_of rules) x.met 0 0 l)) (sym rest_is)

  module _ (at m through : ℕ) (e : decides at m through ≡ going (reader_of rules) x.met 0 0 rest) where
    pub rest_through : (x.held + from + through ≤ x.held + length p) × (x.held + from + at ≤ x.held + length p)
    rest_through =
        let i = decides_inside (reader_of rules) x.met 0 at m through rest e in
        (omega (arith, i.2, rest_long, h), omega (arith, i.1, i.2, rest_long, h))

    pub rest_decides : JudgesRest rules x w p from (record { gathered = x.held + from + through; begins = x.held + from + at; met = m; how = how.Decided })
    rest_decides = sym (ap (came_to (told_how w) (x.held + length p)) (from_held ∙ ap (further (x.held + from)) (sym e)))

  module _ (at m : ℕ) (e : waits at m ≡ going (reader_of rules) x.met 0 0 rest) where
    pub rest_place : x.held + from + at ≤ x.held + length p
    rest_place = let i = waits_inside (reader_of rules) x.met 0 at m rest e in omega (arith, i.1, rest_long, h)

    pub rest_waits : JudgesRest rules x w p from (record { gathered = x.held + length p; begins = x.held + from + at; met = m; how = w })
    rest_waits = sym (ap (came_to (told_how w) (x.held + length p)) (from_held ∙ ap (further (x.held + from)) (sym e)))

-- ---- the bytes held and those of a part

module _ (b p : List ℕ) (held : ℕ) (room : held ≤ length b) where
  abbrev pub both : List ℕ
  both = take held b ++ p

  front_long : length (take held b) ≡ held
  front_long = length-take-le held b room

  pub length_both : length both ≡ held + length p
  length_both = omega (arith, length-append (take held b) p, front_long)

  pub drop_both : (n : ℕ) → drop (held + n) both ≡ drop n p
  drop_both n = ap (λ (k : ℕ). drop (k + n) both) (sym front_long) ∙ drop-append-add (take held b) p n

  pub both_before : (at : ℕ) → at < held → byte_at b at ≡ byte_at both at
  both_before at h = sym (get_or-append (take held b) p 0 at (omega (arith, front_long)) ∙ get_or-take held b at 0 h)

  pub both_behind : (at : ℕ) → held ≤ at → byte_at p (at - held) ≡ byte_at both at
  both_behind at h =
      let e : length (take held b) + (at - held) ≡ at = omega (arith, front_long) in
      sym (ap (λ (k : ℕ). get_or both k 0) (sym e) ∙ get_or-append-add (take held b) p (at - held) 0)

  module _ (begins : ℕ) where
    size_both : size (drop begins both) ≡ byte_at both (begins + 2) * 256 + byte_at both (begins + 3)
    unfolding size number_at
    size_both =
        let e : begins + 2 + 1 ≡ begins + 3 = omega arith in
        number_drop both begins 2 ∙ ap (λ (k : ℕ). byte_at both (begins + 2) * 256 + byte_at both k) e

    pub lacks_header : held + length p < begins + 4 → length p + 1 ≡ lacks b held begins p
    unfolding lacks
    lacks_header h = rw (lt-ltb _ _ h)

    lacks_rest : begins + 4 ≤ held + length p → lacks b held begins p ≡ (begins + (4 + size (drop begins both))) - held
    unfolding lacks
    lacks_rest h = rw (le-ltb _ _ h)

    pub lacks_size : (high low r : ℕ) → begins + 4 ≤ held + length p → high ≡ byte_at both (begins + 2) → low ≡ byte_at both (begins + 3) → r ≡ begins + 4 + high * 256 + low - held
        → r ≡ lacks b held begins p
    lacks_size high low r h e f q =
        let z : size (drop begins both) ≡ high * 256 + low = size_both ∙ λ j. sym e j * 256 + sym f j in
        q ∙ (let y : begins + 4 + high * 256 + low - held ≡ (begins + (4 + size (drop begins both))) - held = omega (arith, z) in y) ∙ sym (lacks_rest h)

    module _ (inside : begins ≤ held) where
      abbrev pub t : List ℕ
      t = drop begins both

      long_t : length t ≡ held + length p - begins
      long_t = length-drop begins both ∙ ap (λ (k : ℕ). k - begins) length_both

      -- a part that has not enough leaves the record unfinished
      lacks_short : (n : ℕ) → n ≡ lacks b held begins p → length p < n → whole t ≡ false
      lacks_short n e h = go (ltb (held + length p) (begins + 4)) refl
        where
          go : (x : Bool) → ltb (held + length p) (begins + 4) ≡ x → whole t ≡ false
          go true q = short_whole t (omega (arith, ltb-true (held + length p) (begins + 4) q, long_t))
          go false q =
              let k : begins + 4 ≤ held + length p = ltb-false (held + length p) (begins + 4) q in
              short_whole t (omega (arith, k, lacks_rest k, long_t, inside))

      module _ (n : ℕ) (e : n ≡ lacks b held begins p) (h : n ≤ length p) (partial : whole (drop begins (take held b)) ≡ false) where
        has_header : begins + 4 ≤ held + length p
        has_header = go (ltb (held + length p) (begins + 4)) refl
          where
            go : (x : Bool) → ltb (held + length p) (begins + 4) ≡ x → begins + 4 ≤ held + length p
            go true q = absurd (let z : ⊥ = omega (arith, e, lacks_header (ltb-true (held + length p) (begins + 4) q)) in z)
            go false q = ltb-false _ _ q

        -- the record ends behind the bytes held
        ends_behind : held < begins + (4 + size t)
        ends_behind = go (leb (begins + (4 + size t)) held) refl
          where
            u : List ℕ
            u = drop begins (take held b)

            long_u : length u ≡ held - begins
            long_u = length-drop begins (take held b) ∙ ap (λ (k : ℕ). k - begins) front_long

            split : t ≡ u ++ p
            split = drop-append-le begins (take held b) p (omega (arith, front_long))

            go : (x : Bool) → leb (begins + (4 + size t)) held ≡ x → held < begins + (4 + size t)
            go true q =
                let k : begins + (4 + size t) ≤ held = leb-true (begins + (4 + size t)) held q in
                let z : size t ≡ size u = ap size split ∙ size_append u p (omega (arith, long_u)) in
                absurd (true≢false (sym (long_whole u (omega (arith, z, long_u))) ∙ partial))
            go false q = leb-false _ _ q

        pub lacks_end : held + n ≡ begins + (4 + size t)
        lacks_end = omega (arith, e, lacks_rest has_header, ends_behind)

        whole_t : whole t ≡ true
        whole_t = long_whole t (omega (arith, lacks_end, long_t))

        -- the bytes through the record, as they stand in the buffer then
        abbrev pub through : List ℕ
        through = take (held + n) both

        long_through : length through ≡ held + n
        long_through = length-take-le (held + n) both (omega (arith, length_both))

        pub passing_stored : (R : Reader) (met : ℕ) (b₁ : List ℕ) → b₁ ≡ over through b → passing R met (drop begins (take (held + n - 0) b₁)) ≡ passing R met t
        unfolding over
        passing_stored R met b₁ q =
            ap (λ (k : ℕ). passing R met (drop begins (take k b₁))) (sub-zero (held + n))
            ∙ ap (λ (l : List ℕ). passing R met (drop begins (take (held + n) l))) q
            ∙ ap (λ (l : List ℕ). passing R met (drop begins l)) (take_at through (drop (length through) b) (held + n) long_through)
            ∙ sym (passing_more R c (drop (held + n) both) whole_c met)
            ∙ ap (passing R met) joins
          where
            c : List ℕ
            c = drop begins through

            joins : c ++ drop (held + n) both ≡ t
            joins =
                sym (drop-append-le begins through (drop (held + n) both) (omega (arith, long_through)))
                ∙ ap (drop begins) (take-append-drop (held + n) both)

            long_c : length c ≡ 4 + size t
            long_c = omega (arith, length-drop begins through, long_through, lacks_end)

            whole_c : whole c ≡ true
            whole_c =
                let z : size t ≡ size c = ap size (sym joins) ∙ size_append c (drop (held + n) both) (omega (arith, long_c)) in
                long_whole c (omega (arith, z, long_c))

        rest_t : drop (4 + size t) t ≡ drop n p
        rest_t = drop-drop (4 + size t) begins both ∙ ap (λ (k : ℕ). drop k both) (sym lacks_end) ∙ drop_both n

-- ---- a part that fits behind what was gathered before

module _ (rules : Rules) (x : Front) (w : How) (p b : List ℕ) (f : Fits x b) where
  abbrev R : Reader
  R = reader_of rules

  abbrev all : List ℕ
  all = drop x.begins (both b p x.held f.held)

  -- no record is begun
  pub judged_front : (r : Came) → x.begins ≡ x.held → JudgesRest rules x w p 0 r → JudgesPart rules x w p b r b
  judged_front r e q =
      let d : all ≡ p = ap (λ (k : ℕ). drop k (both b p x.held f.held)) (e ∙ sym (add-zero x.held)) ∙ drop_both b p x.held f.held 0 in
      let i = came_within R (told_how w) x.met (x.held + 0) (x.held + length p) p r q (omega arith) in
      record {
        says = q ∙ ap (came_to (told_how w) (x.held + length p)) (λ j. going R x.met ((add-zero x.held ∙ sym e) j) 0 (sym d j));
        more = omega (arith, i.0);
        within = i.1;
        stored = 0;
        counted = omega arith;
        left = sym (over_none b);
      }

  -- the record that is begun stays so
  pub judged_short : (n : ℕ) → n ≡ lacks b x.held x.begins p → length p < n
      → JudgesPart rules x w p b (record { gathered = x.held + length p; begins = x.begins; met = x.met; how = w }) b
  judged_short n e h = record {
    says =
        sym (ap (came_to (told_how w) (x.held + length p))
        (going_waits R x.met x.begins all (lacks_short b p x.held f.held x.begins f.begins n e h)));
    more = omega arith;
    within = omega arith;
    stored = 0;
    counted = omega arith;
    left = sym (over_none b);
  }

  -- it is put together
  module _ (n : ℕ) (e : n ≡ lacks b x.held x.begins p) (h : n ≤ length p) (b₁ : List ℕ) (q : b₁ ≡ over (take (x.held + n) (both b p x.held f.held)) b) where
    ended : x.held + n ≡ x.begins + (4 + size all)
    ended = lacks_end b p x.held f.held x.begins f.begins n e h f.partial

    made : whole all ≡ true
    made = whole_t b p x.held f.held x.begins f.begins n e h f.partial

    passed : passing R x.met (drop x.begins (take (x.held + n - 0) b₁)) ≡ passing R x.met all
    passed = passing_stored b p x.held f.held x.begins f.begins n e h f.partial R x.met b₁ q

    -- it decides
    pub judged_halts : halts ≡ passing R x.met (drop x.begins (take (x.held + n - 0) b₁))
        → JudgesPart rules x w p b (record { gathered = x.held + n; begins = x.begins; met = x.met; how = how.Decided }) b₁
    judged_halts z = record {
      says =
          sym (ap (came_to (told_how w) (x.held + length p))
          (going_halts R x.met x.begins all made (sym (z ∙ passed)) ∙ ap (decides x.begins x.met) (sym ended)));
      more = omega arith;
      within = omega arith;
      stored = x.held + n;
      counted = omega arith;
      left = q;
    }

    -- the records behind it
    pub judged_on : (m : ℕ) (r : Came) → on m ≡ passing R x.met (drop x.begins (take (x.held + n - 0) b₁))
        → JudgesRest rules (record { held = x.held; begins = x.held + n; met = m }) w p n r → JudgesPart rules x w p b r b₁
    judged_on m r z y =
        let d : drop (4 + size all) all ≡ drop n p = rest_t b p x.held f.held x.begins f.begins n e h f.partial in
        let i = came_within R (told_how w) m (x.held + n) (x.held + length p) (drop n p) r y (omega (arith, length-drop n p)) in
        record {
          says =
              y
              ∙ sym (ap (came_to (told_how w) (x.held + length p))
              (going_on R x.met x.begins all m made (sym (z ∙ passed)) ∙ λ j. going R m (sym ended j) 0 (d j)));
          more = omega (arith, i.0);
          within = i.1;
          stored = x.held + n;
          counted = i.0;
          left = q;
        }
