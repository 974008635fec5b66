-- Demand 1, "A refusal bears its number from document 01": the numbers of those definitions that only a call which a host links cites: a plan or a record in cells,
-- what a support reply is to hold as a number, and the length of a key. The others: Exact.antt.
-- Assumes nothing.
use mathlib.Core.Path.{refl}
use mathlib.Core.List.{List, [], ◌∷◌}
use Prim.Native.Nat.{ℕ}
use native.Mathlib.Omega.{arith}
use lib.Dec.{leb}
use Rattle.wire.specs.Bytes.{number_at}
use Rattle.utf8.specs.Utf8.{octets, well_formed}
use Rattle.nts.specs.Algorithm.{Described, known, unknown, describe}
use Rattle.layout.specs.Table.{row_of, shape_of, bit_of}
use Rattle.layout.specs.Write.{is_inside, is_sound, is_record, is_number, body_size, measured, fitted}
use Rattle.record.specs.Laid.{layout_of}
use Rattle.plan.specs.Tray.{fields_from, fields_in, cookies_in}
use Rattle.plan.specs.Plan as plan
use Rattle.plan.specs.Plan.{reply_length}
use Rattle.plan.specs.declared.Plan.{Plan}
use Rattle.messages.specs.Messages.{reply_checked, support_length, support_checked}
use Rattle.handing.specs.Handed.{key_given}
use Rattle.planning.specs.Planned as planned
use Rattle.planning.specs.Planned.{is_plan, plan_in, changed, appended, planned_length, planned_reply}
use Rattle.writing.specs.Given as given
use Rattle.writing.specs.Given.{item_of, record_in, held_length, asked_of, support_count}
use Rattle.promises.specs.Numbers.{Exactly, of_count, of_appended, of_given, key_numbers, plan_numbers, append_numbers, reply_writer_numbers, length_numbers, writer_numbers, HostCookie, HostReply, HostSupport}
use Rattle.promises.proofs.Bearing.{Within, only_of, if_within, fitted_within, with_room}
use Rattle.promises.proofs.Exact.{long, long_length, eight, measured_within, append_within, plan_length_within, reply_within, support_within}

-- ---- the length of a key

pub key_exactly : Exactly (λ (n : ℕ). of_given (key_given n (describe n))) key_numbers
unfolding describe
key_exactly = record { only = λ n. only_of key_numbers (of_given (key_given n (describe n))) (go n (describe n)); each = ((16, refl), tt) }
  where
    go : (n : ℕ) (d : Described) → Within key_numbers (of_given (key_given n d))
    go n unknown = refl
    go n (known m size) = tt

-- ---- a plan in cells

-- a plan for protocol 0 and algorithm 15 of which so many bytes are used, and cells that hold none
abbrev plan_of : ℕ → List ℕ
plan_of n = 0 ∷ 15 ∷ 0 ∷ 0 ∷ 0 ∷ 0 ∷ 0 ∷ n ∷ []

abbrev no_plan_lem : List ℕ
no_plan_lem = 65536 ∷ 15 ∷ 0 ∷ 0 ∷ 0 ∷ 0 ∷ 0 ∷ 0 ∷ []

-- whatever is set or cleared
pub change_exactly : (f : Plan → Plan) → Exactly (λ (c : List ℕ). of_given (changed f (plan_in c))) plan_numbers
unfolding is_plan plan_in
change_exactly f = record { only = λ c. only_of plan_numbers (of_given (changed f (plan_in c))) (go (plan_in c)); each = ((no_plan_lem, refl), tt) }
  where
    go : (h : planned.Held) → Within plan_numbers (of_given (changed f h))
    go planned.no_plan = refl
    go (planned.held x) = tt

pub cells_append_exactly : Exactly (λ (x : HostCookie). of_appended (appended (plan_in x.cells) x.cookie x.tray)) append_numbers
unfolding number_at fields_from fields_in cookies_in plan.append is_plan plan_in
cells_append_exactly = record {
  only = λ x. only_of append_numbers (of_appended (appended (plan_in x.cells) x.cookie x.tray)) (go (plan_in x.cells) x.cookie x.tray);
  each = (
    (record { cells = plan_of 24; cookie = []; tray = eight }, refl),
    (
      (record { cells = plan_of 0; cookie = long; tray = [] }, rw long_length),
      (
        (record { cells = no_plan_lem; cookie = []; tray = [] }, refl),
        ((record { cells = plan_of 0; cookie = []; tray = [] }, refl), tt),
      ),
    ),
  );
}
  where
    go : (h : planned.Held) (cookie tray : List ℕ) → Within append_numbers (of_appended (appended h cookie tray))
    go planned.no_plan cookie tray = refl
    go (planned.held x) cookie tray = append_within x cookie tray

pub cells_length_exactly : Exactly (λ (x : List ℕ × List ℕ). of_count (planned_length (plan_in x.0) x.1)) plan_numbers
unfolding is_plan plan_in
cells_length_exactly = record {
  only = λ x. only_of plan_numbers (of_count (planned_length (plan_in x.0) x.1)) (go (plan_in x.0) x.1);
  each = (((no_plan_lem, []), refl), tt);
}
  where
    go : (h : planned.Held) (tray : List ℕ) → Within plan_numbers (of_count (planned_length h tray))
    go planned.no_plan tray = refl
    go (planned.held x) tray = plan_length_within x tray

pub cells_reply_exactly : Exactly (λ (x : HostReply). of_count (planned_reply (plan_in x.cells) x.tray x.server x.room)) reply_writer_numbers
unfolding number_at well_formed octets fields_from fields_in cookies_in reply_length fitted is_plan plan_in
cells_reply_exactly = record {
  only = λ x. only_of reply_writer_numbers (of_count (planned_reply (plan_in x.cells) x.tray x.server x.room)) (go (plan_in x.cells) x);
  each = (
    (record { cells = no_plan_lem; tray = []; server = []; room = 0 }, refl),
    (
      (record { cells = plan_of 0; tray = []; server = []; room = 0 }, refl),
      ((record { cells = plan_of 3; tray = 1 ∷ 0 ∷ 0 ∷ []; server = []; room = 0 }, refl), tt),
    ),
  );
}
  where
    go : (h : planned.Held) (x : HostReply) → Within reply_writer_numbers (of_count (planned_reply h x.tray x.server x.room))
    go planned.no_plan x = refl
    go (planned.held y) x = fitted_within reply_writer_numbers x.room (reply_checked y x.server (cookies_in y.used x.tray)) refl (reply_within reply_writer_numbers refl refl y x.server (cookies_in y.used x.tray))

-- ---- what a support reply is to hold, as a number

pub support_count_exactly : Exactly (λ (x : HostSupport). of_count (support_count x.asked x.pairs x.protocols)) length_numbers
unfolding support_checked support_count
support_count_exactly = record {
  only = λ x. only_of length_numbers (of_count (support_count x.asked x.pairs x.protocols))
      (if_within of_count length_numbers (leb x.asked 7) _ _ (support_within (asked_of x.asked) x.pairs x.protocols) refl);
  each = (
    (record { asked = 2; pairs = []; protocols = long }, rw long_length),
    ((record { asked = 8; pairs = []; protocols = [] }, refl), tt),
  );
}

pub support_written_exactly : Exactly (λ (x : HostSupport × ℕ). of_count (fitted x.1 (support_count x.0.asked x.0.pairs x.0.protocols))) writer_numbers
unfolding support_checked support_length support_count
support_written_exactly =
    with_room (λ (x : HostSupport). support_count x.asked x.pairs x.protocols) length_numbers support_count_exactly (record { asked = 0; pairs = []; protocols = [] }) 4 (omega arith) refl

-- ---- a record in cells

pub held_length_exactly : Exactly (λ (x : List ℕ × List ℕ). of_count (held_length (record_in x.0) x.1)) length_numbers
unfolding row_of shape_of bit_of is_inside is_sound is_record is_number body_size measured given.is_record item_of record_in
held_length_exactly = record {
  only = λ x. only_of length_numbers (of_count (held_length (record_in x.0) x.1)) (go (record_in x.0) x.1);
  each = (((5 ∷ 0 ∷ 0 ∷ 0 ∷ 65536 ∷ 0 ∷ 0 ∷ [], long), rw long_length), (((65536 ∷ 0 ∷ 0 ∷ 0 ∷ 0 ∷ 0 ∷ 0 ∷ [], []), refl), tt));
}
  where
    go : (h : given.Held) (s : List ℕ) → Within length_numbers (of_count (held_length h s))
    go given.no_record s = refl
    go (given.held x) s = measured_within (layout_of x) s

pub held_written_exactly : Exactly (λ (x : (List ℕ × List ℕ) × ℕ). of_count (fitted x.1 (held_length (record_in x.0.0) x.0.1))) writer_numbers
unfolding row_of shape_of bit_of is_inside is_sound is_record is_number body_size measured given.is_record item_of record_in
held_written_exactly =
    with_room (λ (x : List ℕ × List ℕ). held_length (record_in x.0) x.1) length_numbers held_length_exactly (0 ∷ 0 ∷ 0 ∷ 0 ∷ 0 ∷ 0 ∷ 0 ∷ [], []) 4 (omega arith) refl
