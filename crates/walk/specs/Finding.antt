-- A finding: 02, order 2: a walk goes until 01's record order stops it and hands back the limit, how many records of each kind the listing shows, unknown ones
-- together, and where and why it stopped. Beside each count stands where the first body lies, which a decision asks for.
use Rattle.std.specs.Prelude.{ℕ, zero, suc, List, [], ◌∷◌, map, Bool, true, false, ◌&&◌, take, eqb}
use Rattle.nts.specs.Refusal.{Beside, nothing, code, protocol, algorithm, beside_number}
use Rattle.walk.specs.Walk.{Reader, Sighting, walked}
use Rattle.walk.specs.Judge.{of_kind}
use Rattle.walk.specs.Shown.{shown, counted}
use Rattle.walk.specs.Found.{seen_of, Way, way_refused, way_ended, way_of, way_by}
use Rattle.walk.specs.declared.Seen.{Seen}
use Rattle.walk.specs.declared.Walked.{Walked}
use Rattle.walk.specs.declared.Finding.{Finding}

-- ---- what it holds

pub record Found : Type 0 where
  -- after how many bytes the message was cut
  pub limit : ℕ
  -- three numbers of each kind from 0 to 14, in this order: how many records, and start and length of the first one's body; 0 and 0 where there is none
  pub cells : List ℕ
  -- where and why it stopped: the end record, or a refusal
  pub way : Way

-- the three numbers of a kind, and those of the next ones behind them
abbrev pub three_of : Seen → List ℕ → List ℕ
three_of x c = x.count ∷ x.start ∷ x.len ∷ c

-- of n kinds from k on, over records that were counted
unfoldable pub cells_from : ℕ → ℕ → List Sighting → List ℕ
cells_from k zero l = []
cells_from k (suc n) l = three_of (seen_of (of_kind k l)) (cells_from (suc k) n l)

-- of a message m, by a reader, under a limit of n bytes: the records are those that the listing shows, unknown ones counted under 11
unfoldable pub found_by : Reader → List ℕ → ℕ → Found
found_by R m n = record {
  limit = n;
  cells = cells_from 0 15 (map (counted R.shape) (shown R [] 0 0 (take n m)));
  way = way_of (walked R (take n m));
}

-- how a walk went and the cells that it filled, as one
abbrev pub as_finding : Walked → List ℕ → Finding
as_finding w c = record { limit = w.limit; cells = c; place = w.place; stop = w.stop }

-- what a finding in code says
abbrev pub told_finding : Finding → Found
told_finding f = record { limit = f.limit; cells = f.cells; way = way_by f.place f.stop }

-- ---- whether two are the same: every number counts

unfoldable pub same_numbers : List ℕ → List ℕ → Bool
same_numbers [] [] = true
same_numbers [] (y ∷ d) = false
same_numbers (x ∷ c) [] = false
same_numbers (x ∷ c) (y ∷ d) = eqb x y && same_numbers c d

-- what stands beside a refusal's number: which of the four, and the number there
abbrev pub sort_in : Beside → ℕ
sort_in nothing = 0
sort_in (code n) = 1
sort_in (protocol p) = 2
sort_in (algorithm a) = 3

abbrev pub same_beside : Beside → Beside → Bool
same_beside a b = eqb (sort_in a) (sort_in b) && eqb (beside_number a) (beside_number b)

abbrev pub same_way : Way → Way → Bool
same_way (way_ended p) (way_ended q) = eqb p q
same_way (way_ended p) (way_refused r) = false
same_way (way_refused r) (way_ended q) = false
same_way (way_refused r) (way_refused s) = (eqb r.number s.number && same_beside r.beside s.beside) && eqb r.place s.place

unfoldable pub same_found : Found → Found → Bool
same_found f g = (eqb f.limit g.limit && same_way f.way g.way) && same_numbers f.cells g.cells
