-- A connection that a host's call leaves is read back from its cells as it is: its limit and the kinds met have sixteen bits, and a refusal that it keeps has a number from
-- 1 to 18, beside it what fits that number, of sixteen bits, and a place of thirty-two. So does every refusal that the call's word tells.
-- Assumes nothing.
use mathlib.Core.Path.{◌≡◌, refl, sym, ap, subst, ◌∙◌}
use mathlib.Core.List.{List, [], ◌∷◌, ◌++◌}
use mathlib.Core.Logic.{◌⊎◌, inl, inr}
use mathlib.Core.Bool.{Bool, true, false, cond, ◌&&◌, ◌||◌, or-true}
use Prim.Native.Nat.{ℕ, zero, suc, ◌^◌, ◌≤◌, ◌<◌}
use native.Mathlib.Omega.{arith}
use lib.ListN.{length, take, drop}
use lib.Bits.{or_lt}
use lib.Pow.{pow-lt}
use lib.Dec.{ltb, leb, eqb}
use borrow.Author.Tests.{le-leb, lt-leb, ne_eqb, eqb-true}
use Rattle.wire.proofs.Bytes.{Small, small_part}
use Rattle.utf8.proofs.Tests as test
use Rattle.utf8.proofs.Tests.{never, upto}
use Rattle.nts.specs.Refusal.{Beside, nothing, code, protocol, algorithm, beside_number, Refused}
use Rattle.record.specs.Record.{kind}
use Rattle.layout.specs.declared.Profile.{Profile}
use Rattle.layout.specs.declared.Profile.TheVariants.{Usual, Strict}
use Rattle.walk.specs.Walk.{Reader, Step, stops, goes, step}
use Rattle.walk.specs.Judge as judge
use Rattle.walk.specs.Judge.{Terms, read_by}
use Rattle.walk.specs.Shown.{slot_of}
use Rattle.walk.specs.Met.{Passing, halts, on, met_below, with_met, passing, ends}
use Rattle.walk.proofs.Numbered.{Sixteen, coded, bare_number, bare_not, Fits, Numbered}
use Rattle.walk.proofs.Within.{refused_within}
use Rattle.cells.specs.Cells.{marked, word, cell}
use Rattle.cells.proofs.Lent.{mark_in, apart}
use Rattle.pieces.specs.Pieces.{Line, started, broken, Standing, pending, accepted, refused, Brought, joined, inside, fitting, Going, waits, decides, going, otherwise, came_to, begins_at, Came, is_decided, how_after, gathers, after_end, comes}
use Rattle.pieces.specs.Pieces.{Read, Fed, none, answers, refused_at, first_answer, answer_of, is_pending, standing_by, line_after}
use Rattle.pieces.proofs.Going.{by_records}
use Rattle.feeding.specs.Fed.{standing_cells, profile_cell, profile_in, line_cells, no_protocol, no_algorithm, is_mark, has_beside, is_standing, is_connection, number_in, beside_in, standing_in, line_in}
use Rattle.feeding.proofs.Holding.{of_each, mark_numbered, line_sound, standing_sound, standing_held, standing_numbered}
use Rattle.feeding.proofs.Refusing.{refusal_same, refused_of}
use Rattle.feeding.proofs.Answering.{Eighteenth, pending_answer}
use Rattle.promises.specs.FedCells.{unheld, connection_in, refusal_in}

-- ---- bytes

small_take : (n : ℕ) (s : List ℕ) → Small s → Small (take n s)
small_take n s h = small_part s n 0 h

small_append : (s t : List ℕ) → Small s → Small t → Small (s ++ t)
small_append [] t h g i = g i
small_append (x ∷ s) t h g zero = h zero
small_append (x ∷ s) t h g (suc i) = small_append s t (λ j. h (suc j)) g i

-- ---- a refusal that cells and words tell

pub record Plain (y : Refused) : Type 0 where
  pub low : 1 ≤ y.number
  pub high : y.number ≤ 18
  pub fits : Fits y.number y.beside
  pub sixteen : Sixteen y.beside
  pub near : y.place ≤ 4294967295

beside_small : (b : Beside) → Sixteen b → beside_number b < 65536
beside_small nothing h = omega arith
beside_small (code c) h = h
beside_small (protocol c) h = h
beside_small (algorithm c) h = h

-- its number, with what was not offered, and what is beside it are read back
record MarkOf (n : ℕ) (b : Beside) : Type 0 where
  pub is : is_mark (marked n b) ≡ true
  pub number : number_in (marked n b) ≡ n
  pub beside : beside_in (marked n b) (beside_number b) ≡ b
  pub some : (eqb (beside_number b) 0 || has_beside (marked n b) || leb no_protocol (marked n b)) ≡ true

-- up to 16 a number stands alone, and so does 18
module _ (n : ℕ) (low : 1 ≤ n) (high : n ≤ 16) where
  low_mark : is_mark n ≡ true
  unfolding is_mark
  low_mark = rw (le-leb 1 n low, le-leb n 16 high)

  low_beside : (x : ℕ) (t : Bool) → has_beside n ≡ t → beside_in n x ≡ cond t (code x) nothing
  low_beside x t e = rw (ne_eqb n no_protocol (λ q. omega arith), ne_eqb n no_algorithm (λ q. omega arith), e)

  low_number : number_in n ≡ n
  low_number = rw (lt-leb no_protocol n (omega arith))

code_some : (c n : ℕ) → has_beside n ≡ true → (eqb c 0 || has_beside n || leb no_protocol n) ≡ true
code_some c n e = go (eqb c 0) (has_beside n) (leb no_protocol n) e
  where
    go : (a b d : Bool) → b ≡ true → (a || b || d) ≡ true
    go true b d e = refl
    go false true d e = refl
    go false false d e = never e

-- 17 is told with what was not offered, and no other is
up_to : (n : ℕ) → n ≤ 18 → (n ≡ 17 → ⊥) → (n ≤ 16) ⊎ (n ≡ 18)
up_to n high g = upto 16 n inl (λ h. inr (upto 17 n (λ q. let e : n ≡ 17 = omega arith in absurd (g e)) (λ q. omega arith)))

mark_of : (n : ℕ) (b : Beside) → 1 ≤ n → n ≤ 18 → Fits n b → MarkOf n b
unfolding is_mark has_beside
mark_of n nothing low high f = go (up_to n high (λ e. never (subst (λ (i : ℕ). bare_number i ≡ true) e f)))
  where
    go : (n ≤ 16) ⊎ (n ≡ 18) → MarkOf n nothing
    go (inl k) =
        let z : marked n nothing ≡ n = omega arith in
        record { is = ap is_mark z ∙ low_mark n low k; number = ap number_in z ∙ low_number n low k; beside = ap (λ (i : ℕ). beside_in i 0) z ∙ low_beside n low k 0 false (bare_not n f).0; some = refl }
    go (inr e) = rw e (record { is = refl; number = refl; beside = refl; some = refl })
mark_of n (code c) low high f = go (up_to n high (λ e. never (subst (λ (i : ℕ). coded i ≡ true) e f)))
  where
    go : (n ≤ 16) ⊎ (n ≡ 18) → MarkOf n (code c)
    go (inl k) =
        let z : marked n (code c) ≡ n = omega arith in
        record {
          is = ap is_mark z ∙ low_mark n low k;
          number = ap number_in z ∙ low_number n low k;
          beside = ap (λ (i : ℕ). beside_in i c) z ∙ low_beside n low k c true f;
          some = ap (λ (i : ℕ). eqb c 0 || has_beside i || leb no_protocol i) z ∙ code_some c n f;
        }
    go (inr e) = never (subst (λ (i : ℕ). coded i ≡ true) e f)
mark_of n (protocol p) low high f =
    let z : n ≡ 17 = eqb-true n 17 f in
    rw z (record { is = refl; number = refl; beside = refl; some = or-true (eqb p 0 || false) })
mark_of n (algorithm a) low high f =
    let z : n ≡ 17 = eqb-true n 17 f in
    rw z (record { is = refl; number = refl; beside = refl; some = or-true (eqb a 0 || false) })

beside_fits : (n x : ℕ) → is_mark n ≡ true → Fits (number_in n) (beside_in n x)
unfolding has_beside
beside_fits n x = of_each (λ k. Fits (number_in k) (beside_in k x)) refl refl refl refl refl refl refl refl refl refl refl refl refl refl refl refl refl refl refl n

beside_sixteen : (n x : ℕ) → x ≤ 65535 → Sixteen (beside_in n x)
beside_sixteen n x l = go (eqb n no_protocol) (eqb n no_algorithm) (has_beside n)
  where
    go : (p a t : Bool) → Sixteen (cond p (protocol x) (cond a (algorithm x) (cond t (code x) nothing)))
    go true a t = omega arith
    go false true t = omega arith
    go false false true = omega arith
    go false false false = tt

-- from its word
pub refusal_back : (y : Refused) → Plain y → refusal_in (word y) ≡ y
refusal_back y p =
    let n : y.number < 256 = omega (arith, p.high) in
    let w = mark_in y n in
    let e = apart y n (beside_small y.beside p.sixteen) in
    let m = mark_of y.number y.beside p.low p.high p.fits in
    (λ j. record { number = number_in (w j); beside = beside_in (w j) (e.2 j); place = e.3 j })
    ∙ (λ j. record { number = m.number j; beside = m.beside j; place = y.place })

-- ---- a connection that cells tell

pub record PlainLine (c : Line) : Type 0 where
  pub limit : c.limit ≤ 65535
  pub met : c.met ≤ 65535
  pub refusal : (y : Refused) → c.standing ≡ refused y → Plain y

abbrev Stands : Standing → ℕ → ℕ → ℕ → ℕ → Type 0
Stands a s n x p = (is_standing s n x p ≡ true) × (standing_in s n x p ≡ a)

-- with the profile's cell behind them
abbrev behind : Standing → ℕ → List ℕ
behind a z = standing_cells a ++ (z ∷ [])

standing_put : (a : Standing) (z : ℕ) → ((y : Refused) → a ≡ refused y → Plain y)
    → Stands a (cell (behind a z) 0) (cell (behind a z) 1) (cell (behind a z) 2) (cell (behind a z) 3)
unfolding is_standing
standing_put pending z h = (refl, refl)
standing_put accepted z h = (refl, refl)
standing_put (refused y) z h =
    let p = h y refl in
    let l : beside_number y.beside ≤ 65535 = omega (arith, beside_small y.beside p.sixteen) in
    let m = mark_of y.number y.beside p.low p.high p.fits in (
      rw (m.is, le-leb (beside_number y.beside) 65535 l, m.some, le-leb y.place 4294967295 p.near),
      λ j. refused (record { number = m.number j; beside = m.beside j; place = y.place }),
    )

last_put : (a : Standing) (z : ℕ) → cell (behind a z) 4 ≡ z
last_put pending z = refl
last_put accepted z = refl
last_put (refused y) z = refl

profile_small : (P : Profile) → leb (profile_cell P) 1 ≡ true
profile_small Usual = refl
profile_small Strict = refl

profile_back : (P : Profile) → profile_in (profile_cell P) ≡ P
profile_back Usual = refl
profile_back Strict = refl

-- its cells hold it
pub line_holds : (c : Line) → PlainLine c → is_connection (line_cells c) ≡ true
unfolding is_connection
line_holds c p =
    rw (le-leb c.limit 65535 p.limit, le-leb c.met 65535 p.met, (standing_put c.standing (profile_cell c.profile) p.refusal).0, last_put c.standing (profile_cell c.profile), profile_small c.profile)

pub line_forth : (c : Line) → PlainLine c → connection_in (line_cells c) ≡ c
line_forth c p =
    ap (λ (t : Bool). cond t (line_in (line_cells c)) unheld) (line_holds c p)
    ∙ ap (λ (a : Standing). record { profile = profile_in (cell (behind c.standing (profile_cell c.profile)) 4); limit = c.limit; gathered = c.gathered; begins = c.begins; met = c.met; standing = a }) (standing_put c.standing (profile_cell c.profile) p.refusal).1
    ∙ ap (λ (q : Profile). record { profile = q; limit = c.limit; gathered = c.gathered; begins = c.begins; met = c.met; standing = c.standing })
    (ap profile_in (last_put c.standing (profile_cell c.profile)) ∙ profile_back c.profile)

pub started_plain : (P : Profile) (n : ℕ) → n ≤ 65535 → PlainLine (started P n)
started_plain P n l = record { limit = l; met = omega arith; refusal = λ y e. let z : ◌≡◌ {A = ℕ} 0 1 = cc in absurd (omega arith) }

-- ---- the kinds met

module _ (R : Reader) (few : (k : ℕ) → slot_of R.shape k < 16) where
  met_few : (m k : ℕ) → m ≤ 65535 → with_met m (slot_of R.shape k) ≤ 65535
  unfolding with_met
  met_few m k l =
      let z : m < 2 ^ 16 = omega arith in
      omega (arith, or_lt 16 m (2 ^ slot_of R.shape k) z (pow-lt (few k)))

  passing_few : (met m : ℕ) (s : List ℕ) → passing R met s ≡ on m → met ≤ 65535 → m ≤ 65535
  unfolding passing
  passing_few met m s e l = go (step R (met_below met 15) 0 s) e
    where
      go : (x : Step) → ◌≡◌ {A = Passing} (elim x as (λ (y : Step). Passing) [ stops o ↦ halts | goes st ↦ on (with_met met (slot_of R.shape (kind s))) ]) (on m) → m ≤ 65535
      go (stops o) q = let z : ◌≡◌ {A = ℕ} 0 1 = cc in absurd (omega arith)
      go (goes st) q = let z : with_met met (slot_of R.shape (kind s)) ≡ m = cc in omega (arith, z, met_few met (kind s) l)

  abbrev met_of : Going → ℕ
  met_of (waits a m) = m
  met_of (decides a m through) = m

  going_few : (met at : ℕ) (s : List ℕ) → met ≤ 65535 → met_of (going R met at 0 s) ≤ 65535
  going_few =
      by_records R (λ met at s g. met ≤ 65535 → met_of g ≤ 65535) (λ met at s w l. l) (λ met at s w p l. l)
      (λ met at m s g w p i l. i (passing_few met m s p l))

  gathers_few : (c : Line) (b : List ℕ) (h : Brought) → c.met ≤ 65535 → (gathers R c b h).met ≤ 65535
  unfolding gathers
  gathers_few c b h l =
      go (going R c.met (begins_at c) 0 (drop (begins_at c) (fitting c b h))) (going_few c.met (begins_at c) (drop (begins_at c) (fitting c b h)) l)
    where
      go : (g : Going) → met_of g ≤ 65535 → (came_to (otherwise c b h) (length (fitting c b h)) g).met ≤ 65535
      go (waits a m) i = i
      go (decides a m through) i = i

  -- what follows the end record changes none of them
  after_met : (n long : ℕ) (closed : Bool) (s : List ℕ) (x : Came) → (after_end R n long closed s x).met ≡ x.met
  unfolding after_end
  after_met n long closed s x = go (R.final && is_decided x.how && ends R (drop x.begins s))
    where
      go : (t : Bool) → (cond t (record { gathered = x.gathered; begins = x.begins; met = x.met; how = how_after n long closed x.gathered }) x).met ≡ x.met
      go true = refl
      go false = refl

  came_few : (c : Line) (b : List ℕ) (h : Brought) → c.met ≤ 65535 → (comes R c b h).met ≤ 65535
  unfolding comes
  came_few c b h l = omega (arith, after_met c.limit (length (inside c b h)) h.closed (take (gathers R c b h).gathered (joined c b h)) (gathers R c b h), gathers_few c b h l)

-- ---- a refusal that cells hold

held_plain : (c : List ℕ) → is_connection c ≡ true → (y : Refused) → (line_in c).standing ≡ refused y → Plain y
held_plain c i y e =
    let k = line_sound c i in
    let r = standing_numbered (cell c 4) (cell c 5) (cell c 6) (cell c 7) y (standing_sound (cell c 4) (cell c 5) (cell c 6) (cell c 7) k.standing) e in
    subst Plain (standing_held (cell c 4) (cell c 5) (cell c 6) (cell c 7) y e)
    (record {
      low = (mark_numbered (cell c 5) r.mark).0;
      high = (mark_numbered (cell c 5) r.mark).1;
      fits = beside_fits (cell c 5) (cell c 6) r.mark;
      sixteen = beside_sixteen (cell c 5) (cell c 6) k.beside;
      near = k.place;
    })

held_line : (c : List ℕ) → is_connection c ≡ true → PlainLine (line_in c)
held_line c i = let k = line_sound c i in record { limit = k.limit; met = k.met; refusal = held_plain c i }

-- ---- cells that hold no connection

module _ (X : Read) (b : List ℕ) (h : Brought) (room : Terms) where
  unheld_broken : broken unheld b ≡ true
  unfolding broken
  unheld_broken = or-true (ltb (length b) 1)

  pub unheld_answer : answer_of X unheld b h room ≡ refused_at 9 0
  unfolding answer_of
  unheld_answer = rw unheld_broken

  pub unheld_quiet : is_pending unheld b ≡ false
  unfolding is_pending
  unheld_quiet = rw unheld_broken

-- ---- what a call answers and leaves

-- what is known of the whole-message reader's refusals
abbrev pub Numbering : Read → Type 0
Numbering X = (P : Profile) (s : List ℕ) (n : ℕ) (x : Terms) (y : Refused) → read_by X.reader X.judging s (record { profile = P; limit = n; terms = x }) ≡ judge.refused y → Numbered Eighteenth s y.number y.beside

-- .. and of the kinds that it tells apart
abbrev pub Slots : Read → Type 0
Slots X = (P : Profile) (k : ℕ) → slot_of (X.reader P).shape k < 16

nine : Plain (record { number = 9; beside = nothing; place = 0 })
nine = record { low = omega arith; high = omega arith; fits = refl; sixteen = tt; near = omega arith }

module _ (X : Read) (numbering : Numbering X) (slots : Slots X) (c b : List ℕ) (h : Brought) (room : Terms) (sb : Small b) (sp : Small h.piece) where
  module _ (i : is_connection c ≡ true) where
    joined_small : Small (joined (line_in c) b h)
    unfolding joined
    joined_small = small_append (take (cell c 1) b) h.piece (small_take (cell c 1) b sb) sp

    answer_held : (y : Refused) → answer_of X (line_in c) b h room ≡ answers (judge.refused y) → Plain y
    answer_held y =
        let k = line_sound c i in
        refused_of X (line_in c) b h room y Small (λ n. small_take n (joined (line_in c) b h) joined_small) (small_take (cell c 1) b sb)
        (λ q. subst Plain q nine)
        (λ n l q. subst Plain q (record { low = omega arith; high = omega arith; fits = refl; sixteen = tt; near = omega (arith, l, k.limit) }))
        (λ f n l q. subst Plain q (record { low = omega arith; high = omega arith; fits = refl; sixteen = tt; near = omega (arith, l, k.limit) }))
        (λ q. held_plain c i y q)
        (λ s cells g q.
        let m = numbering (line_in c).profile s (cell c 0) cells y q in
        record {
          low = m.one.0;
          high = m.one.1;
          fits = m.fits;
          sixteen = m.beside g;
          near = omega (arith, refused_within (X.reader (line_in c).profile) X.judging s (record { profile = (line_in c).profile; limit = cell c 0; terms = cells }) y q, k.limit);
        })

    pub after_plain : PlainLine (line_after X (line_in c) b h room)
    unfolding line_after
    after_plain = test.on (is_pending (line_in c) b) (λ p. rw p (goes_on p)) (λ p. rw p (held_line c i))
      where
        kept : (a : Fed X.judging.Q) (y : Refused) → standing_by a ≡ refused y → a ≡ answers (judge.refused y)
        kept none y e = let z : ◌≡◌ {A = ℕ} 0 1 = cc in absurd (omega arith)
        kept (answers (judge.refused r)) y e = let z : r ≡ y = cc in ap (λ (x : Refused). answers (judge.refused x)) z
        kept (answers (judge.accepted q)) y e = let z : ◌≡◌ {A = ℕ} 0 1 = cc in absurd (omega arith)

        goes_on : is_pending (line_in c) b ≡ true
            → PlainLine (record {
              profile = (line_in c).profile;
              limit = cell c 0;
              gathered = (comes (X.reader (line_in c).profile) (line_in c) b h).gathered;
              begins = (comes (X.reader (line_in c).profile) (line_in c) b h).begins;
              met = (comes (X.reader (line_in c).profile) (line_in c) b h).met;
              standing = standing_by (first_answer X (line_in c) b h room);
            })
        goes_on p = record {
          limit = (line_sound c i).limit;
          met = came_few (X.reader (line_in c).profile) (slots (line_in c).profile) (line_in c) b h (line_sound c i).met;
          refusal = λ y e. answer_held y (pending_answer X (line_in c) b h room p ∙ kept (first_answer X (line_in c) b h room) y e);
        }

  -- every refusal that it answers
  pub answer_plain : (y : Refused) → answer_of X (connection_in c) b h room ≡ answers (judge.refused y) → Plain y
  answer_plain y e =
      test.on (is_connection c) (λ i. answer_held i y (ap (λ (t : Bool). answer_of X (cond t (line_in c) unheld) b h room) (sym i) ∙ e))
      (λ i. subst Plain (refusal_same _ y (sym (unheld_answer X b h room) ∙ ap (λ (t : Bool). answer_of X (cond t (line_in c) unheld) b h room) (sym i) ∙ e)) nine)
