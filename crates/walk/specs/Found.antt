-- What a walk found, by kind, in 45 cells, and how it stopped, for every table: what the walk's loop is proved to give. The public walk says the same as one finding
-- (Finding.antt).
use Rattle.std.specs.Prelude.{ℕ, zero, suc, ◌+◌, ◌*◌, ◌<◌, ◌≡◌, List, [], ◌∷◌, map, true, length, get_or}
use Rattle.layout.specs.Profile.{knows}
use Rattle.nts.specs.Refusal.{Refused, number_of, beside_of}
use Rattle.walk.specs.Walk.{Sighting, Outcome, stopped, ended, walk}
use Rattle.walk.specs.Judge.{of_kind}
use Rattle.walk.specs.Rules.{Rules, entry_of, is_noted, reader_of}
use Rattle.walk.specs.Shown.{shown, counted}
use Rattle.walk.specs.declared.Seen.{Seen}
use Rattle.walk.specs.declared.Stop.{Stop}
use Rattle.walk.specs.declared.Stop.TheVariants as stop
use Rattle.walk.specs.declared.Halted.{Halted}

-- ---- what was found

-- the records of one kind: how many, and where the first one's body lies
abbrev pub seen_of : List Sighting → Seen
seen_of [] = record { count = 0; start = 0; len = 0 }
seen_of (x ∷ l) = record { count = suc (length l); start = x.start; len = x.len }

-- the cells of a kind: count, start and length
abbrev pub entry_in : List ℕ → ℕ → Seen
entry_in c j = record { count = get_or c (j * 3) 0; start = get_or c (j * 3 + 1) 0; len = get_or c (j * 3 + 2) 0 }

-- the records that the cells tell of a kind: as many as were met, each with the first one's body
abbrev pub copies : ℕ → Sighting → List Sighting
copies zero x = []
copies (suc n) x = x ∷ copies n x

abbrev pub first_in : List ℕ → ℕ → Sighting
first_in c k = record { of = k; start = (entry_in c k).start; len = (entry_in c k).len }

unfoldable pub told_in : List ℕ → ℕ → List Sighting
told_in c k = copies (entry_in c k).count (first_in c k)

-- the cells stand for these records
pub record Stands (c : List ℕ) (l : List Sighting) : Type 0 where
  pub all : length c ≡ 45
  pub each : (j : ℕ) → j < 15 → entry_in c j ≡ seen_of (of_kind j l)

-- ---- how it stopped

-- with a refusal, or at the end record's place
pub data Way : Type 0 where
  way_refused : Refused → Way
  way_ended : ℕ → Way

abbrev pub way_of : Outcome → Way
way_of (stopped r) = way_refused r
way_of (ended at next st) = way_ended at

abbrev pub way_by : ℕ → Stop → Way
way_by at stop.End = way_ended at
way_by at (stop.Refused e) = way_refused (record { number = number_of e; beside = beside_of e; place = at })

-- the place of the record that stopped it
abbrev pub place_of : Outcome → ℕ
place_of (stopped r) = r.place
place_of (ended at next st) = at

-- the place after the end record, where that stopped it
abbrev pub next_of : Outcome → ℕ
next_of (stopped r) = r.place
next_of (ended at next st) = next

-- ---- what the loop gives

-- the records that the walk by a table meets, as they are counted
abbrev pub counted_in : Rules → List ℕ → List Sighting
counted_in rules s = map (counted (reader_of rules).shape) (shown (reader_of rules) [] 0 0 s)

-- the walk by a table over the message s: where and how it stops, and the place after that; the cells for the records that it met; and that of each kind which the table
-- notes those are the records noted, where it ended
pub record Walks (rules : Rules) (s : List ℕ) (r : Halted) (c : List ℕ) : Type 0 where
  pub says : way_by r.place r.stop ≡ way_of (walk (reader_of rules) [] 0 0 s)
  pub after : r.next ≡ next_of (walk (reader_of rules) [] 0 0 s)
  pub met : Stands c (counted_in rules s)
  pub noted : (at next : ℕ) (st : List Sighting) → walk (reader_of rules) [] 0 0 s ≡ ended at next st → (k : ℕ) → knows rules.profile k ≡ true → is_noted (entry_of rules k) ≡ true
      → of_kind k st ≡ of_kind k (counted_in rules s)
