-- The tables of messages hold: under any limit that a message fits it is answered as under its own length, and that the checker computes.
-- Assumes nothing.
use mathlib.Core.Path.{◌≡◌, refl, ap, ◌∙◌}
use mathlib.Core.List.{List}
use mathlib.Core.Bool.{false}
use Prim.Native.Nat.{ℕ, ◌≤◌, zero-le}
use native.Mathlib.Omega.{arith}
use borrow.Author.Tests.{le-ltb}
use lib.ListN.{length}
use lib.Seq.{take_all}
use lib.Dec.{ltb}
use Rattle.wire.specs.Bytes.{number_at}
use Rattle.utf8.specs.Ascii.{is_ascii}
use Rattle.utf8.specs.Utf8.{tail, rows, fits, char_size, octets, well_formed}
use Rattle.layout.specs.Table.{row_of, shape_of}
use Rattle.record.specs.Record.{kind_of, critical_of, kind, critical, size, there, short, uneven, not_number, not_halves, not_utf8, first_of, not_name, fault_of, fault_by}
use Rattle.layout.specs.Profile.{asks_of, is_final, shape_in, knows, allows}
use Rattle.layout.specs.declared.Profile.{Profile}
use Rattle.layout.specs.declared.Profile.TheVariants.{Usual, Strict}
use Rattle.walk.specs.Walk.{Outcome, stopped, ended, act_in, has, meet, judge, step, walk, behind, walked}
use Rattle.walk.specs.Judge.{room_for, finish, read_as}
use Rattle.walk.specs.Table.{act_by}
use Rattle.request.specs.Request.{act, once, reader, judging, decide, request}
use Rattle.request.specs.Messages as row
use Rattle.request.specs.Messages.{outcome, Holds, table, strict_table}

-- what is decided does not ask for the limit
finish_any : (P : Profile) (m : List ℕ) (n k room : ℕ) (o : Outcome)
    → finish judging (record { profile = P; limit = n; terms = room_for room }) m o ≡ finish judging (record { profile = P; limit = k; terms = room_for room }) m o
unfolding finish
finish_any P m n k room (stopped r) = refl
finish_any P m n k room (ended at next st) = refl

any_limit : (P : Profile) (m : List ℕ) (n room : ℕ) → length m ≤ n → request P m n room ≡ request P m (length m) room
unfolding request read_as
any_limit P m n room h = rw (take_all n m h, take_all (length m) m (omega arith)) (finish_any P m n (length m) room (walked (reader P) m))

under_any : (P : Profile) (m : List ℕ) (a : row.Outcome) → ((room : ℕ) → outcome m (request P m (length m) room) ≡ a)
    → (n room : ℕ) → length m ≤ n → outcome m (request P m n room) ≡ a
under_any P m a h n room l = ap (outcome m) (any_limit P m n room l) ∙ h room

under_one : (P : Profile) (m : List ℕ) (k : ℕ) (a : row.Outcome) → ((room : ℕ) → outcome m (request P m k room) ≡ a) → (n room : ℕ) → n ≡ k → outcome m (request P m n room) ≡ a
under_one P m k a h n room e = rw e (h room)

-- there is room for no name
none : (room : ℕ) → ltb room 0 ≡ false
none room = le-ltb room 0 zero-le

pub messages : Holds table
unfolding number_at tail rows fits char_size octets well_formed kind_of critical_of kind critical size there shape_of short uneven not_number not_halves not_utf8 first_of not_name fault_of fault_by act_in has meet judge step walk behind walked finish read_as asks_of is_final shape_in knows allows is_ascii row_of act_by act once decide request
messages = (
  under_any Usual _ _ (λ room. refl),
  (
    under_one Usual _ 16 _ (λ room. rw (none room)),
    (
      under_one Usual _ 15 _ (λ room. refl),
      (
        under_any Usual _ _ (λ room. refl),
        (
          under_any Usual _ _ (λ room. rw (none room)),
          (
            under_any Usual _ _ (λ room. rw (none room)),
            (
              under_any Usual _ _ (λ room. refl),
              (under_any Usual _ _ (λ room. refl), (under_any Usual _ _ (λ room. refl), (under_any Usual _ _ (λ room. refl), (under_any Usual _ _ (λ room. refl), (under_any Usual _ _ (λ room. refl), tt))))),
            ),
          ),
        ),
      ),
    ),
  ),
)

pub strict_messages : Holds strict_table
unfolding number_at tail rows fits char_size octets well_formed kind_of critical_of kind critical size there shape_of short uneven not_number not_halves not_utf8 first_of not_name fault_of fault_by act_in has meet judge step walk behind walked finish read_as asks_of is_final shape_in knows allows is_ascii row_of act_by act once decide request
strict_messages = (under_any Strict _ _ (λ room. rw (none room)), (under_any Strict _ _ (λ room. refl), (under_any Strict _ _ (λ room. refl), (under_one Strict _ 16 _ (λ room. rw (none room)), (under_any Strict _ _ (λ room. refl), (under_any Strict _ _ (λ room. refl), (under_any Strict _ _ (λ room. refl), (under_any Strict _ _ (λ room. refl), (under_any Strict _ _ (λ room. rw (none room)), (under_any Strict _ _ (λ room. refl), (under_any Strict _ _ (λ room. rw (none room)), (under_any Strict _ _ (λ room. refl), (under_any Strict _ _ (λ room. refl), (under_any Strict _ _ (λ room. refl), (under_any Strict _ _ (λ room. refl), tt)))))))))))))))
