-- From a finding to what a reader and its judge answer of the message; for every table that is that reader.
-- Assumes nothing.
use mathlib.Core.Path.{◌≡◌, refl, sym, ap, ◌∙◌}
use mathlib.Core.List.{List, []}
use mathlib.Core.Bool.{true, false}
use Prim.Native.Nat.{ℕ, ◌<◌}
use native.Mathlib.Omega.{arith}
use lib.ListN.{length, take, length-take}
use Rattle.nts.specs.Refusal.{number_of, beside_of}
use Rattle.nts.specs.declared.NtsError.{NtsError}
use lib.Dec.{eqb}
use Rattle.walk.specs.Walk.{Reader, Sighting, Outcome, stopped, ended, walk, walked}
use Rattle.walk.specs.Judge.{Under, Judge, Answer, of_kind, body_in, refused, placed, finish, read_as}
use Rattle.walk.specs.Rules.{Rules, entry_of, is_noted, reader_of}
use Rattle.walk.specs.Found.{seen_of, entry_in, told_in, way_refused, way_ended, way_of, way_by}
use Rattle.walk.specs.declared.Stop.TheVariants as stop
use Rattle.walk.specs.Finding.{Found, found_by, told_finding}
use Rattle.walk.specs.declared.Finding.{Finding}
use Rattle.walk.specs.Code.{Fits}
use Rattle.walk.proofs.Noted.{Inside, kind_inside, walk_inside}
use Rattle.walk.proofs.Behind.{walked_ended}
use Rattle.walk.proofs.Telling.{found_entry}
use Rattle.walk.proofs.Like.{Like, entry_like, entry_inside}

module _ (rules : Rules) (R : Reader) (same : reader_of rules ≡ R) (m : List ℕ) (u : Under) (f : Finding) (h : told_finding f ≡ found_by R m u.limit) where
  abbrev s : List ℕ
  s = take u.limit m

  says : way_by f.place f.stop ≡ way_of (walked R s)
  unfolding found_by
  says = ap (λ (x : Found). x.way) h

  -- a walk that is refused
  pub read_refused : (D : Judge) (e : NtsError) → f.stop ≡ stop.Refused e → read_as R D m u ≡ refused (record { number = number_of e; beside = beside_of e; place = f.place })
  unfolding read_as finish
  read_refused D e q = go (walked R s) (sym (ap (way_by f.place) q) ∙ says)
    where
      go : (o : Outcome) → way_refused (record { number = number_of e; beside = beside_of e; place = f.place }) ≡ way_of o → finish D u m o ≡ refused (record { number = number_of e; beside = beside_of e; place = f.place })
      go (stopped r) g = cc
      go (ended at next st) g = let z : ◌≡◌ {A = ℕ} 0 1 = cc in absurd (omega arith)

  -- a walk that ends
  pub record Ended : Type 0 where
    pub next : ℕ
    pub state : List Sighting
    pub walks : walked R s ≡ ended f.place next state

  pub walk_ended : f.stop ≡ stop.End → Ended
  walk_ended q = go (walked R s) refl (sym (ap (way_by f.place) q) ∙ says)
    where
      go : (o : Outcome) → walked R s ≡ o → way_ended f.place ≡ way_of o → Ended
      go (stopped r) z g = let o : ◌≡◌ {A = ℕ} 0 1 = cc in absurd (omega arith)
      go (ended at next st) z g = let p : f.place ≡ at = cc in record { next = next; state = st; walks = z ∙ ap (λ (k : ℕ). ended k next st) (sym p) }

  module _ (d : Ended) where
    pub read_ended : (D : Judge) → read_as R D m u ≡ placed f.place (D.decide u (body_in m) (λ k. of_kind k d.state))
    unfolding read_as finish
    read_ended D = rw d.walks

    -- the bodies noted lie inside the message
    pub ended_inside : Inside (length m) d.state
    ended_inside = walk_inside R [] 0 0 s (length m) f.place d.next d.state (simp length-take (omega arith)) tt (walked_ended R s f.place d.next d.state d.walks)

    -- the cells of a kind that the table notes
    ended_entry : (k : ℕ) → k < 15 → eqb k 11 ≡ false → is_noted (entry_of rules k) ≡ true → entry_in f.cells k ≡ seen_of (of_kind k d.state)
    ended_entry =
        found_entry rules m u.limit f (h ∙ ap (λ (Q : Reader). found_by Q m u.limit) (sym same)) f.place d.next d.state
        (ap (λ (Q : Reader). walk Q [] 0 0 s) same ∙ walked_ended R s f.place d.next d.state d.walks)

    pub ended_like : (k : ℕ) → k < 15 → eqb k 11 ≡ false → is_noted (entry_of rules k) ≡ true → Like (told_in f.cells k) (of_kind k d.state)
    ended_like k l kn nt = entry_like f.cells k d.state (ended_entry k l kn nt)

  pub ended_fits : f.stop ≡ stop.End → Fits rules.entries (length m) f.cells
  unfolding Fits
  ended_fits q k l kn nt = let d = walk_ended q in entry_inside f.cells k (length m) (of_kind k d.state) (ended_entry d k l kn nt) (kind_inside (length m) k d.state (ended_inside d))

  -- what is told of the decision over the cells is told of the message, where it is the same over lists that are alike
  pub told_ended : (D : Judge) {T : Type 0} (F : Answer D.Q → T)
      → ((l l' : ℕ → List Sighting) → ((k : ℕ) → k < 15 → eqb k 11 ≡ false → is_noted (entry_of rules k) ≡ true → Like (l k) (l' k))
      → F (placed f.place (D.decide u (body_in m) l)) ≡ F (placed f.place (D.decide u (body_in m) l')))
      → f.stop ≡ stop.End → F (placed f.place (D.decide u (body_in m) (told_in f.cells))) ≡ F (read_as R D m u)
  told_ended D F alike q = let d = walk_ended q in alike (told_in f.cells) (λ k. of_kind k d.state) (ended_like d) ∙ ap F (sym (read_ended d D))
