-- Demand 1, "A refusal bears its number from document 01": of each definition that a call between crates cites, the numbers that it refuses with. No other is
-- answered, and each is, by an input of which it is computed or shown.
-- Assumes nothing.
use mathlib.Core.Path.{◌≡◌, refl, sym, ap, subst, ◌∙◌}
use mathlib.Core.List.{List, [], ◌∷◌}
use mathlib.Core.Bool.{Bool, true, false, cond, ◌&&◌, ◌||◌}
use Prim.Native.Nat.{ℕ, zero, suc, ◌+◌, ◌*◌, ◌%◌, ◌<◌, ◌≤◌}
use native.Mathlib.Omega.{arith}
use lib.ListN.{length, drop, replicate, length-replicate}
use lib.Dec.{leb, ltb, eqb}
use Rattle.utf8.specs.Ascii.{is_ascii}
use Rattle.utf8.specs.Utf8.{rows, fits, char_size, octets, well_formed}
use Rattle.utf8.proofs.Tests.{on}
use Rattle.wire.specs.Bytes.{number_at}
use Rattle.nts.specs.Refusal.{nothing, Refused}
use Rattle.nts.specs.Algorithm.{describe}
use Rattle.layout.specs.Write.{is_inside, is_sound, is_record, is_number, body_size, Count, bytes, refused, measured, fitted, written}
use Rattle.layout.specs.declared.Layout.{Layout}
use Rattle.layout.specs.Table.{row_of, shape_of, bit_of, is_unknown}
use Rattle.layout.specs.Profile.{asks_of, is_final, shape_in, knows, allows}
use Rattle.layout.specs.declared.Shape.{Shape}
use Rattle.layout.specs.declared.Profile.{Profile}
use Rattle.layout.specs.declared.Profile.TheVariants.{Usual, Strict}
use Rattle.layout.proofs.Profiles.{strict_shape, usual_shape, unknown_shape}
use Rattle.record.specs.Record.{kind_of, critical_of, kind, critical, size, there, short, uneven, not_number, not_halves, not_utf8, first_of, not_name, fault_of, fault_by, fault, read_from, read_at, look_from, look_at}
use Rattle.record.specs.Laid.{layout_of}
use Rattle.record.specs.declared.NtsRecord.{NtsRecord}
use Rattle.record.specs.declared.NtsRecord.TheVariants as item
use Rattle.walk.specs.Walk.{act_in, has, meet, judge, step, walk, behind, walked, Outcome, stopped, ended}
use Rattle.walk.specs.Judge.{finish, read_as}
use Rattle.walk.specs.Judge as refusing
use Rattle.walk.specs.Found.{way_ended}
use Rattle.walk.specs.Finding.{found_by, same_found}
use Rattle.walk.specs.Table.{act_by}
use Rattle.walk.specs.Rules.{tell_act, rule_act, act_at, once_at, reader_of}
use Rattle.walk.proofs.Numbered.{Barred, record_few, walk_numbered}
use Rattle.places.specs.Places.{places_in, too_many, filling_of, first}
use Rattle.request.specs.Request as requests
use Rattle.request.specs.Request.{request}
use Rattle.request.proofs.Numbered.{stop_numbered, request_numbered}
use Rattle.request.proofs.StrictNumbers.{strict_numbered}
use Rattle.request.proofs.Deciding.{decided_by, decided_own}
use Rattle.reply.specs.Reply as replies
use Rattle.reply.specs.Reply.{reply_of}
use Rattle.reply.proofs.Numbered.{reply_numbered}
use Rattle.negotiation.specs.Negotiation as choice
use Rattle.plan.specs.Tray.{Fields, broken, fields, fields_from, fields_in, cookies_in, names_in, deny_by, deny}
use Rattle.plan.specs.Plan as plan
use Rattle.plan.specs.Plan.{name_length, reply_length}
use Rattle.plan.specs.declared.Plan.{Plan}
use Rattle.messages.specs.Messages.{too_long, reply_checked, support_length, support_checked, all_utf8, request_length, request_checked}
use Rattle.messages.specs.declared.Asked.{Asked}
use Rattle.listing.specs.Listing.{listing}
use Rattle.promises.specs.Numbers.{In, All, Number, none, bears, Exactly, of_count, of_read, of_sight, of_outcome, of_answer, of_filling, of_choice, of_protocol, of_appended, record_numbers, or_not_allowed, walk_numbers, request_numbers, stop_numbers, decide_numbers, reply_numbers, fill_numbers, choice_numbers, protocol_numbers, length_numbers, writer_numbers, append_numbers, plan_numbers, reply_writer_numbers, room_numbers, Read, ReadReply, Decided, Filled, Offered, Cookie, Denied, Reply, Support, Request}
use Rattle.promises.proofs.Bearing.{Within, only_of, if_within, answer_only, with_room, room_alone, wider}

all_map : {P Q : ℕ → Type 0} (l : List ℕ) → ((n : ℕ) → P n → Q n) → All P l → All Q l
all_map [] f h = tt
all_map (n ∷ l) f h = (f n h.0, all_map l f h.1)

-- ---- bytes and messages for the examples

-- more bytes, or more cells, than a body can have; as bytes they are UTF-8
pub long : List ℕ
long = replicate 65536 0

pub long_length : length long ≡ 65536
unfolding long
long_length = length-replicate {A = ℕ} 65536 0

zeros_formed : (n : ℕ) → octets 0 (replicate n 0) ≡ true
unfolding octets rows fits char_size
zeros_formed zero = refl
zeros_formed (suc n) = zeros_formed n

long_formed : well_formed long ≡ true
unfolding long well_formed
long_formed = zeros_formed 65536

-- an error record whose size is not 2, an unknown record with its bit set, and an end record
abbrev odd_error : List ℕ
odd_error = 128 ∷ 2 ∷ 0 ∷ 3 ∷ 0 ∷ 1 ∷ []

abbrev unknown_set : List ℕ
unknown_set = 128 ∷ 11 ∷ 0 ∷ 0 ∷ []

abbrev end : List ℕ
end = 128 ∷ 0 ∷ 0 ∷ 0 ∷ []

-- protocol 0 and algorithm n, each alone in its list
abbrev lists : ℕ → List ℕ → List ℕ
lists n s = 128 ∷ 1 ∷ 0 ∷ 2 ∷ 0 ∷ 0 ∷ 128 ∷ 4 ∷ 0 ∷ 2 ∷ 0 ∷ n ∷ s

-- a request with keys of no bytes and algorithm n
abbrev fixed : ℕ → List ℕ
fixed n = 0 ∷ 14 ∷ 0 ∷ 0 ∷ 128 ∷ 12 ∷ 0 ∷ 0 ∷ lists n end

-- under the limit of 64 bytes and with room for none
abbrev asked : List ℕ → Read
asked m = record { message = m; limit = 64; room = 0 }

-- ---- of each profile

-- an answer of f in each profile
abbrev Bears : {X : Type 0} → (Profile → X → Number) → Profile → ℕ → Type 0
Bears {X} f P n = (x : X) × (f P x ≡ bears n)

-- one input for both
both : {X : Type 0} (f : Profile → X → Number) (n : ℕ) (x : X) → f Usual x ≡ bears n → f Strict x ≡ bears n → (P : Profile) → Bears f P n
both f n x u s Usual = (x, u)
both f n x u s Strict = (x, s)

-- 18 too, in the strict profile
or_each : {X : Type 0} (f : Profile → X → Number) (l : List ℕ) → ((P : Profile) → All (Bears f P) l) → (x : X) → f Strict x ≡ bears 18 → (P : Profile) → All (Bears f P) (or_not_allowed P l)
or_each f l h x e Usual = h Usual
or_each f l h x e Strict = ((x, e), h Strict)

in_or : (P : Profile) (l : List ℕ) (n : ℕ) → In n l → In n (or_not_allowed P l)
in_or Usual l n h = h
in_or Strict l n h = on (eqb 18 n) (λ e. rw e) (λ e. rw e h)

in_barred : (P : Profile) (l : List ℕ) → Barred (λ n. In n (or_not_allowed P l)) P
in_barred Usual l = tt
in_barred Strict l = refl

-- ---- one record

-- an answer that is refused by its fault alone
faulted : {A : Type 0} (g : A → Number) (f : ℕ) → f ≤ 2 → (a b : A) → g a ≡ none → g b ≡ bears f → Within record_numbers (g (cond (eqb f 0) a b))
faulted g zero l a b p q = rw p tt
faulted g (suc zero) l a b p q = rw q refl
faulted g (suc (suc zero)) l a b p q = rw q refl
faulted g (suc (suc (suc f))) l a b p q = absurd (omega arith)

pub record_exactly : Exactly (λ (x : List ℕ × ℕ). of_read (read_at x.0 x.1)) record_numbers
unfolding number_at kind_of critical_of kind critical size there shape_of row_of not_number fault_of fault_by read_from read_at
record_exactly = record {
  only = λ x. only_of record_numbers (of_read (read_at x.0 x.1)) (faulted of_read (fault (drop x.1 x.0)) (record_few (drop x.1 x.0)) _ _ refl refl);
  each = ((([], 0), refl), (((odd_error, 0), refl), tt));
}

-- a fault is 1 or 2 in every profile: what is asked of a kind's body is 01's, or, of one that the profile does not know, that it is all there
few_in : (P : Profile) (s : List ℕ) → fault_by (shape_in P) s ≤ 2
unfolding fault_by fault_of short
few_in P s = on (knows P (kind s)) known_few unknown_few
  where
    by_shape : Shape → ℕ
    by_shape x = cond (ltb (length s) 4) 1 (fault_of x (size s) (there s))

    at_most : (a b : Bool) → cond a 1 (cond b 1 0) ≤ 2
    at_most true b = omega arith
    at_most false true = omega arith
    at_most false false = omega arith

    same : (X : Profile) → knows X (kind s) ≡ true → shape_in X (kind s) ≡ shape_of (kind s)
    same Usual e = sym (usual_shape (kind s))
    same Strict e = strict_shape (kind s) e

    known_few : knows P (kind s) ≡ true → fault_by (shape_in P) s ≤ 2
    known_few e = subst (λ (n : ℕ). n ≤ 2) (sym (ap by_shape (same P e))) (record_few s)

    unknown_few : knows P (kind s) ≡ false → fault_by (shape_in P) s ≤ 2
    unknown_few e = subst (λ (n : ℕ). n ≤ 2) (sym (ap by_shape (unknown_shape P (kind s) e))) (at_most (ltb (length s) 4) (ltb (length (there s)) (size s)))

abbrev look_bears : Profile → List ℕ × ℕ → Number
look_bears P x = of_sight (look_at (shape_in P) x.0 x.1)

-- a look refuses with the numbers of the reader
pub look_exactly : (P : Profile) → Exactly (λ (x : List ℕ × ℕ). of_sight (look_at (shape_in P) x.0 x.1)) record_numbers
unfolding number_at kind_of critical_of kind critical size there shape_of row_of not_number fault_of fault_by asks_of shape_in look_from look_at
look_exactly P = record {
  only = λ x. only_of record_numbers (look_bears P x) (faulted of_sight (fault_by (shape_in P) (drop x.1 x.0)) (few_in P (drop x.1 x.0)) _ _ refl refl);
  each = (both look_bears 1 ([], 0) refl refl P, (both look_bears 2 (odd_error, 0) refl refl P, tt));
}

-- ---- whole messages

-- a list of two protocols, which a reply may not have; an error and a warning
abbrev two_listed : List ℕ
two_listed = 128 ∷ 1 ∷ 0 ∷ 4 ∷ 0 ∷ 0 ∷ 0 ∷ 0 ∷ []

abbrev an_error : List ℕ
an_error = 128 ∷ 2 ∷ 0 ∷ 2 ∷ 0 ∷ 1 ∷ []

abbrev a_warning : List ℕ
a_warning = 128 ∷ 3 ∷ 0 ∷ 2 ∷ 0 ∷ 1 ∷ []

-- 02, order 5: kinds 0, 1, 2 and 3 need their critical bit
abbrev bit_clear : List ℕ
bit_clear = 0 ∷ 1 ∷ 0 ∷ 0 ∷ []

abbrev walk_bears : Profile → List ℕ × List ℕ → Number
walk_bears P x = of_outcome (walked (reader_of (record { profile = P; entries = x.0 })) x.1)

walk_each : (P : Profile) → All (Bears walk_bears P) (1 ∷ 2 ∷ 3 ∷ 4 ∷ 11 ∷ 12 ∷ [])
unfolding number_at well_formed octets is_ascii kind_of critical_of kind critical size there shape_of row_of short uneven not_number not_halves not_utf8 first_of not_name fault_of fault_by asks_of is_final shape_in knows allows act_in has meet judge step walk behind walked tell_act rule_act act_at once_at
walk_each P = (
  both walk_bears 1 (replies.rules, []) refl refl P,
  (
    both walk_bears 2 (replies.rules, odd_error) refl refl P,
    (
      both walk_bears 3 (replies.rules, unknown_set) refl refl P,
      (
        both walk_bears 4 (replies.rules, two_listed) refl refl P,
        (both walk_bears 11 (replies.rules, an_error) refl refl P, (both walk_bears 12 (replies.rules, a_warning) refl refl P, tt)),
      ),
    ),
  ),
)

-- by every table of rules
pub walk_exactly : (P : Profile) → Exactly (λ (x : List ℕ × List ℕ). of_outcome (walked (reader_of (record { profile = P; entries = x.0 })) x.1)) (walk_numbers P)
unfolding number_at well_formed octets is_ascii kind_of critical_of kind critical size there shape_of row_of short uneven not_number not_halves not_utf8 first_of not_name fault_of fault_by asks_of is_final shape_in knows allows act_in has meet judge step walk behind walked tell_act rule_act act_at once_at
walk_exactly P = record {
  only = λ x. go x.0 x.1 (walked (reader_of (record { profile = P; entries = x.0 })) x.1) refl;
  each = or_each walk_bears (1 ∷ 2 ∷ 3 ∷ 4 ∷ 11 ∷ 12 ∷ []) walk_each (replies.rules, bit_clear) refl P;
}
  where
    may : (n : ℕ) → In n (1 ∷ 2 ∷ 3 ∷ 4 ∷ 11 ∷ 12 ∷ []) → In n (walk_numbers P)
    may n h = in_or P (1 ∷ 2 ∷ 3 ∷ 4 ∷ 11 ∷ 12 ∷ []) n h

    go : (entries s : List ℕ) (o : Outcome) → walked (reader_of (record { profile = P; entries = entries })) s ≡ o → (n : ℕ) → of_outcome o ≡ bears n → In n (walk_numbers P)
    go entries s (stopped r) e =
        only_of (walk_numbers P) (bears r.number)
        (walk_numbered (λ n. In n (walk_numbers P)) (may 1 refl, may 2 refl, may 3 refl, may 4 refl, may 11 refl, may 12 refl) (record { profile = P; entries = entries }) (in_barred P (1 ∷ 2 ∷ 3 ∷ 4 ∷ 11 ∷ 12 ∷ [])) s r e).one
    go entries s (ended at next st) e = only_of (walk_numbers P) none tt

-- of order 2's walk, in the usual profile
pub stop_exactly : Exactly (λ (s : List ℕ). of_outcome (walked (requests.reader Usual) s)) stop_numbers
unfolding number_at well_formed octets is_ascii kind_of critical_of kind critical size there shape_of row_of short uneven not_number not_halves not_utf8 first_of not_name fault_of fault_by asks_of is_final shape_in knows allows act_in has meet judge step walk behind walked act_by requests.act requests.once
stop_exactly = record {
  only = λ s. go s (walked (requests.reader Usual) s) refl;
  each = (([], refl), ((odd_error, refl), ((unknown_set, refl), ((an_error, refl), tt))));
}
  where
    go : (s : List ℕ) (o : Outcome) → walked (requests.reader Usual) s ≡ o → (n : ℕ) → of_outcome o ≡ bears n → In n stop_numbers
    go s (stopped r) e = only_of stop_numbers (bears r.number) (stop_numbered (λ n. In n stop_numbers) (refl, refl, refl, refl) Usual tt s r e).one
    go s (ended at next st) e = only_of stop_numbers none tt

pub request_exactly : (P : Profile) → Exactly (λ (x : Read). of_answer (request P x.message x.limit x.room)) (request_numbers P)
unfolding number_at well_formed octets is_ascii kind_of critical_of kind critical size there shape_of row_of short uneven not_number not_halves not_utf8 first_of not_name fault_of fault_by asks_of is_final shape_in knows allows act_in has meet judge step walk behind walked finish read_as act_by requests.act requests.once requests.keyed requests.fixed_by requests.decide request describe
request_exactly Usual = record {
  only = λ x. answer_only (request_numbers Usual) (request Usual x.message x.limit x.room)
      (λ r e. (request_numbered (λ n. In n (request_numbers Usual)) (refl, refl, refl, refl, refl, refl, refl) Usual tt x.message x.limit x.room r e).one);
  each = (
    (asked [], refl),
    (
      (asked odd_error, refl),
      (
        (asked unknown_set, refl),
        (
          (asked end, refl),
          (
            (asked (fixed 16), refl),
            (
              (asked (fixed 15), refl),
              ((asked (0 ∷ 13 ∷ 0 ∷ 0 ∷ lists 15 end), refl), tt),
            ),
          ),
        ),
      ),
    ),
  );
}
-- keys and denied names are unknown to it
request_exactly Strict = record {
  only = λ x. answer_only (request_numbers Strict) (request Strict x.message x.limit x.room)
      (λ r e. strict_numbered (λ n. In n (request_numbers Strict)) (refl, refl, refl, refl) refl x.message x.limit x.room r e);
  each = ((asked bit_clear, refl), ((asked [], refl), ((asked odd_error, refl), ((asked unknown_set, refl), ((asked end, refl), tt)))));
}

-- a message, its own finding and the same room: so each number that the reader tells in the usual profile is told from a finding
from_own : (x : Read) (n : ℕ) → of_answer (request Usual x.message x.limit x.room) ≡ bears n → (y : Decided) × (of_answer (requests.decided y.found y.message y.room) ≡ bears n)
from_own x n p = (record { found = found_by (requests.reader Usual) x.message x.limit; message = x.message; room = x.room }, ap of_answer (decided_own x.message x.limit x.room) ∙ p)

pub decide_exactly : Exactly (λ (x : Decided). of_answer (requests.decided x.found x.message x.room)) decide_numbers
unfolding requests.decided found_by same_found walk behind walked
decide_exactly = record {
  only = λ x. answer_only decide_numbers (requests.decided x.found x.message x.room)
      (decided_by x.found x.message x.room (λ a. (r : Refused) → a ≡ refusing.refused r → In r.number decide_numbers)
      (λ r e. (request_numbered (λ n. In n decide_numbers) (refl, refl, refl, refl, refl, refl, refl) Usual tt x.message x.found.limit x.room r e).one)
      (λ r e. let z : 9 ≡ r.number = cc in rw (← z)));
  each = (
    (record { found = record { limit = 0; cells = replicate 45 0; way = way_ended 0 }; message = []; room = 0 }, refl),
    all_map {P = λ (n : ℕ). (x : Read) × (of_answer (request Usual x.message x.limit x.room) ≡ bears n)} (request_numbers Usual) (λ n p. from_own p.0 n p.1) (request_exactly Usual).each,
  );
}

-- asked by one who offered protocol 0 and algorithm 15, with no room
abbrev replied : List ℕ → ReadReply
replied m = record { message = m; limit = 64; terms = replies.offering (0 ∷ []) (15 ∷ []) 0 }

abbrev reply_bears : Profile → ReadReply → Number
reply_bears P x = of_answer (reply_of P x.message x.limit x.terms)

-- the numbers of every profile
abbrev reply_both : List ℕ
reply_both = 1 ∷ 2 ∷ 3 ∷ 4 ∷ 7 ∷ 11 ∷ 12 ∷ 13 ∷ 14 ∷ 15 ∷ 17 ∷ []

reply_each : (P : Profile) → All (Bears reply_bears P) reply_both
unfolding number_at well_formed octets is_ascii kind_of critical_of kind critical size there shape_of row_of short uneven not_number not_halves not_utf8 first_of not_name fault_of fault_by asks_of is_final shape_in knows allows act_in has meet judge step walk behind walked finish read_as act_by replies.act replies.once replies.decide reply_of
reply_each P = (
  both reply_bears 1 (replied []) refl refl P,
  (
    both reply_bears 2 (replied odd_error) refl refl P,
    (
      both reply_bears 3 (replied unknown_set) refl refl P,
      (
        both reply_bears 4 (replied end) refl refl P,
        (
          both reply_bears 7 (replied (0 ∷ 5 ∷ 0 ∷ 0 ∷ lists 15 end)) refl refl P,
          (
            both reply_bears 11 (replied an_error) refl refl P,
            (
              both reply_bears 12 (replied a_warning) refl refl P,
              (
                both reply_bears 13 (replied (128 ∷ 1 ∷ 0 ∷ 0 ∷ end)) refl refl P,
                (
                  both reply_bears 14 (replied (128 ∷ 1 ∷ 0 ∷ 2 ∷ 0 ∷ 0 ∷ 128 ∷ 4 ∷ 0 ∷ 0 ∷ end)) refl refl P,
                  (both reply_bears 15 (replied (lists 15 end)) refl refl P, (both reply_bears 17 (replied (lists 17 end)) refl refl P, tt)),
                ),
              ),
            ),
          ),
        ),
      ),
    ),
  ),
)

pub reply_exactly : (P : Profile) → Exactly (λ (x : ReadReply). of_answer (reply_of P x.message x.limit x.terms)) (reply_numbers P)
unfolding number_at well_formed octets is_ascii kind_of critical_of kind critical size there shape_of row_of short uneven not_number not_halves not_utf8 first_of not_name fault_of fault_by asks_of is_final shape_in knows allows act_in has meet judge step walk behind walked finish read_as act_by replies.act replies.once replies.decide reply_of
reply_exactly P = record {
  only = λ x. answer_only (reply_numbers P) (reply_of P x.message x.limit x.terms)
      (λ r e. (reply_numbered (λ n. In n (reply_numbers P)) (may 1 refl, may 2 refl, may 3 refl, may 4 refl, may 7 refl, may 11 refl, may 12 refl, may 13 refl, may 14 refl, may 15 refl, may 17 refl) P (in_barred P reply_both) x.message x.limit x.terms r e).one);
  each = or_each reply_bears reply_both reply_each (replied bit_clear) refl P;
}
  where
    may : (n : ℕ) → In n reply_both → In n (reply_numbers P)
    may n h = in_or P reply_both n h

-- ---- a table

pub fill_exactly : Exactly (λ (x : Filled). of_filling (filling_of x.kind x.count x.covered x.room)) fill_numbers
unfolding filling_of too_many
fill_exactly = record {
  only = λ x. only_of fill_numbers (of_filling (filling_of x.kind x.count x.covered x.room))
      (if_within of_filling fill_numbers (too_many x.count x.covered x.room) _ _ refl
      (if_within of_filling fill_numbers (ltb x.count (length (places_in x.kind x.covered))) (first x.count) _ tt tt));
  each = ((record { kind = 0; count = 1; covered = []; room = 0 }, refl), tt);
}

-- ---- a choice

pub choose_exactly : Exactly (λ (x : Offered). of_choice (choice.choose x.protocols x.algorithms x.own_protocols x.own_algorithms)) choice_numbers
unfolding choice.is_odd choice.choose number_at
choose_exactly = record {
  only = λ x. only_of choice_numbers (of_choice (choice.choose x.protocols x.algorithms x.own_protocols x.own_algorithms))
      (if_within of_choice choice_numbers (choice.is_odd x.protocols || choice.is_odd x.algorithms) _ _ refl
      (go (choice.first_common (choice.numbers_of x.protocols) x.own_protocols) (choice.first_common (choice.numbers_of x.algorithms) x.own_algorithms)));
  each = (
    (record { protocols = 0 ∷ []; algorithms = []; own_protocols = []; own_algorithms = [] }, refl),
    (
      (record { protocols = []; algorithms = []; own_protocols = []; own_algorithms = [] }, refl),
      ((record { protocols = 0 ∷ 0 ∷ []; algorithms = []; own_protocols = 0 ∷ []; own_algorithms = [] }, refl), tt),
    ),
  );
}
  where
    go : (p a : choice.Common) → Within choice_numbers (of_choice (choice.with_protocol p a))
    go choice.none a = refl
    go (choice.common p) choice.none = refl
    go (choice.common p) (choice.common a) = tt

pub choose_protocol_exactly : Exactly (λ (x : List ℕ × List ℕ). of_protocol (choice.choose_protocol x.0 x.1)) protocol_numbers
unfolding choice.is_odd choice.choose_protocol
choose_protocol_exactly = record {
  only = λ x. only_of protocol_numbers (of_protocol (choice.choose_protocol x.0 x.1)) (if_within of_protocol protocol_numbers (choice.is_odd x.0) _ _ refl (go (choice.first_common (choice.numbers_of x.0) x.1)));
  each = (((0 ∷ [], []), refl), ((([], []), refl), tt));
}
  where
    go : (p : choice.Common) → Within protocol_numbers (of_protocol (choice.protocol_from p))
    go choice.none = refl
    go (choice.common p) = tt

-- ---- a record, or any layout, to write

pub measured_within : (l : Layout) (s : List ℕ) → Within length_numbers (of_count (measured l s))
unfolding measured
measured_within l s =
    if_within of_count length_numbers (is_record l s) _ _ (if_within of_count length_numbers (ltb 65535 (body_size l)) (refused 8 nothing) (bytes (4 + body_size l)) refl tt) refl

pub length_exactly : Exactly (λ (x : NtsRecord × List ℕ). of_count (measured (layout_of x.0) x.1)) length_numbers
unfolding row_of shape_of bit_of is_inside is_unknown is_sound is_record is_number body_size measured
length_exactly = record {
  only = λ x. only_of length_numbers (of_count (measured (layout_of x.0) x.1)) (measured_within (layout_of x.0) x.1);
  each = (((item.NewCookie (record { start = 0; len = 65536 }), long), rw long_length), (((item.NewCookie (record { start = 0; len = 1 }), []), refl), tt));
}

pub layout_length_exactly : Exactly (λ (x : Layout × List ℕ). of_count (measured x.0 x.1)) length_numbers
layout_length_exactly =
    wider (λ (x : Layout × List ℕ). of_count (measured x.0 x.1)) (λ (y : NtsRecord × List ℕ). (layout_of y.0, y.1)) length_numbers
    (λ x. only_of length_numbers (of_count (measured x.0 x.1)) (measured_within x.0 x.1)) length_exactly

pub serialize_exactly : Exactly (λ (x : (NtsRecord × List ℕ) × ℕ). of_count (written (layout_of x.0.0) x.0.1 x.1)) writer_numbers
unfolding row_of shape_of bit_of is_inside is_unknown is_sound is_record is_number body_size measured written
serialize_exactly = with_room _ length_numbers length_exactly (item.EndOfMessage, []) 4 (omega arith) refl

pub layout_write_exactly : Exactly (λ (x : (Layout × List ℕ) × ℕ). of_count (written x.0.0 x.0.1 x.1)) writer_numbers
unfolding row_of shape_of bit_of is_inside is_unknown is_sound is_record is_number body_size measured written
layout_write_exactly = with_room _ length_numbers layout_length_exactly (layout_of item.EndOfMessage, []) 4 (omega arith) refl

-- ---- a plan and a tray

-- a plan for protocol 0 and algorithm 15 of which so many bytes are used
abbrev planned : ℕ → Plan
planned n = plan.with_used (plan.started (record { 0 = 0 }) (record { 0 = 15 })) n

-- a tray of eight cookies without a byte
abbrev pub eight : List ℕ
eight = 1 ∷ 0 ∷ 0 ∷ 1 ∷ 0 ∷ 0 ∷ 1 ∷ 0 ∷ 0 ∷ 1 ∷ 0 ∷ 0 ∷ 1 ∷ 0 ∷ 0 ∷ 1 ∷ 0 ∷ 0 ∷ 1 ∷ 0 ∷ 0 ∷ 1 ∷ 0 ∷ 0 ∷ []

pub append_within : (x : Plan) (cookie tray : List ℕ) → Within append_numbers (of_appended (plan.append x cookie tray))
unfolding plan.append
append_within x cookie tray = go (cookies_in x.used tray)
  where
    go : (l : Fields) → Within append_numbers (of_appended (plan.append_by x (length tray) (length cookie) l))
    go broken = refl
    go (fields l) =
        if_within of_appended append_numbers (ltb 65535 (length cookie)) _ _ refl
        (if_within of_appended append_numbers (leb 8 (length l)) _ _ refl
        (if_within of_appended append_numbers (ltb (length tray) (x.used + (3 + length cookie))) _ _ refl tt))

pub append_exactly : Exactly (λ (x : Cookie). of_appended (plan.append x.plan x.cookie x.tray)) append_numbers
unfolding number_at fields_from fields_in cookies_in plan.append
append_exactly = record {
  only = λ x. only_of append_numbers (of_appended (plan.append x.plan x.cookie x.tray)) (append_within x.plan x.cookie x.tray);
  each = (
    (record { plan = planned 24; cookie = []; tray = eight }, refl),
    (
      (record { plan = planned 0; cookie = long; tray = [] }, rw long_length),
      (
        (record { plan = planned 1; cookie = []; tray = [] }, refl),
        ((record { plan = planned 0; cookie = []; tray = [] }, refl), tt),
      ),
    ),
  );
}

pub plan_length_within : (x : Plan) (tray : List ℕ) → Within plan_numbers (of_count (plan.plan_length x tray))
unfolding plan.plan_length
plan_length_within x tray = go (cookies_in x.used tray)
  where
    go : (l : Fields) → Within plan_numbers (of_count (plan.length_by x l))
    go broken = refl
    go (fields l) = tt

pub plan_length_exactly : Exactly (λ (x : Plan × List ℕ). of_count (plan.plan_length x.0 x.1)) plan_numbers
unfolding fields_from fields_in cookies_in plan.plan_length
plan_length_exactly = record {
  only = λ x. only_of plan_numbers (of_count (plan.plan_length x.0 x.1)) (plan_length_within x.0 x.1);
  each = (((planned 1, []), refl), tt);
}

pub deny_exactly : Exactly (λ (x : Denied). of_count (deny x.used x.name x.tray)) writer_numbers
unfolding number_at well_formed octets fields_from fields_in names_in deny
deny_exactly = record {
  only = λ x. only_of writer_numbers (of_count (deny x.used x.name x.tray)) (go x (names_in x.used x.tray));
  each = (
    (record { used = 0; name = long; tray = [] }, rw (long_formed, long_length)),
    (
      (record { used = 1; name = []; tray = [] }, refl),
      ((record { used = 0; name = []; tray = [] }, refl), tt),
    ),
  );
}
  where
    go : (x : Denied) (l : Fields) → Within writer_numbers (of_count (deny_by (length x.tray) x.used x.name l))
    go x broken = refl
    go x (fields l) =
        if_within of_count writer_numbers (well_formed x.name) _ _
        (if_within of_count writer_numbers (ltb 65535 (length x.name)) _ _ refl
        (if_within of_count writer_numbers (ltb (length x.tray) (x.used + (3 + length x.name))) (refused 10 nothing) (bytes (x.used + (3 + length x.name))) refl tt))
        refl

-- ---- whole messages to write

-- of a length that is known: empty 1 and 0; 1, empty 4 and 0; 2 and 0
pub fixed_exactly : (k : ℕ) → 0 < k → Exactly (λ (room : ℕ). of_count (fitted room (bytes k))) room_numbers
fixed_exactly k h = room_alone (λ room. k) (λ room. room) 0 h

pub list_exactly : Exactly (λ (x : Read × ℕ). of_count (fitted x.1 (bytes (length (listing x.0.message x.0.limit x.0.room))))) room_numbers
unfolding listing
list_exactly = room_alone (λ (x : Read × ℕ). length (listing x.0.message x.0.limit x.0.room)) (λ x. x.1) (asked [], 0) (omega arith)

pub reply_within : (k : List ℕ) → In 9 k → In 15 k → (x : Plan) (server : List ℕ) (l : Fields) → Within k (of_count (reply_checked x server l))
reply_within k nine fifteen x server broken = nine
reply_within k nine fifteen x server (fields l) =
    if_within of_count k (eqb (length server) (name_length x.name) && well_formed server) _ _
    (if_within of_count k (eqb (length l) 0) (refused 15 nothing) (bytes (reply_length x l)) fifteen tt) nine

abbrev reply_count : Reply → Count
reply_count x = reply_checked x.plan x.server (cookies_in x.plan.used x.tray)

pub write_reply_exactly : Exactly (λ (x : Reply × ℕ). of_count (fitted x.1 (reply_count x.0))) reply_writer_numbers
unfolding number_at well_formed octets fields_from fields_in cookies_in reply_length
write_reply_exactly = with_room reply_count (9 ∷ 15 ∷ []) checked (record { plan = planned 3; tray = 1 ∷ 0 ∷ 0 ∷ []; server = [] }) 20 (omega arith) refl
  where
    checked : Exactly (λ (x : Reply). of_count (reply_count x)) (9 ∷ 15 ∷ [])
    checked = record {
      only = λ x. only_of (9 ∷ 15 ∷ []) (of_count (reply_count x)) (reply_within (9 ∷ 15 ∷ []) refl refl x.plan x.server (cookies_in x.plan.used x.tray));
      each = ((record { plan = planned 1; tray = []; server = [] }, refl), ((record { plan = planned 0; tray = []; server = [] }, refl), tt));
    }

abbrev support_count : Support → Count
support_count x = support_checked x.asked x.pairs x.protocols

-- a support reply of nothing, and of protocols
abbrev nothing_asked : Asked
nothing_asked = record { algorithms = false; protocols = false; keep_alive = false }

abbrev protocols_asked : Asked
protocols_asked = record { algorithms = false; protocols = true; keep_alive = false }

pub support_within : (x : Asked) (pairs numbers : List ℕ) → Within length_numbers (of_count (support_checked x pairs numbers))
unfolding support_checked
support_within x pairs numbers =
    if_within of_count length_numbers (eqb (length pairs % 2) 0) _ _
    (if_within of_count length_numbers ((x.algorithms && too_long (2 * length pairs)) || (x.protocols && too_long (2 * length numbers))) (refused 8 nothing) (bytes (support_length x pairs numbers)) refl tt)
    refl

pub support_length_exactly : Exactly (λ (x : Support). of_count (support_count x)) length_numbers
unfolding support_checked
support_length_exactly = record {
  only = λ x. only_of length_numbers (of_count (support_count x)) (support_within x.asked x.pairs x.protocols);
  each = (
    (record { asked = protocols_asked; pairs = []; protocols = long }, rw long_length),
    ((record { asked = nothing_asked; pairs = 0 ∷ []; protocols = [] }, refl), tt),
  );
}

pub write_support_exactly : Exactly (λ (x : Support × ℕ). of_count (fitted x.1 (support_count x.0))) writer_numbers
unfolding support_checked support_length
write_support_exactly =
    with_room support_count length_numbers support_length_exactly (record { asked = nothing_asked; pairs = []; protocols = [] }) 4 (omega arith) refl

abbrev request_count : Request → Count
request_count x = request_checked x.protocols x.algorithms (names_in x.used x.tray)

request_within : (protocols algorithms : List ℕ) (l : Fields) → Within length_numbers (of_count (request_checked protocols algorithms l))
request_within protocols algorithms broken = refl
request_within protocols algorithms (fields l) =
    if_within of_count length_numbers (all_utf8 l) _ _
    (if_within of_count length_numbers (too_long (2 * length protocols) || too_long (2 * length algorithms)) (refused 8 nothing) (bytes (request_length protocols algorithms l)) refl tt)
    refl

pub request_length_exactly : Exactly (λ (x : Request). of_count (request_count x)) length_numbers
unfolding fields_from fields_in names_in
request_length_exactly = record {
  only = λ x. only_of length_numbers (of_count (request_count x)) (request_within x.protocols x.algorithms (names_in x.used x.tray));
  each = (
    (record { protocols = long; algorithms = []; tray = []; used = 0 }, rw long_length),
    ((record { protocols = []; algorithms = []; tray = []; used = 1 }, refl), tt),
  );
}

pub write_request_exactly : Exactly (λ (x : Request × ℕ). of_count (fitted x.1 (request_count x.0))) writer_numbers
unfolding fields_from fields_in names_in request_length
write_request_exactly = with_room request_count length_numbers request_length_exactly (record { protocols = []; algorithms = []; tray = []; used = 0 }) 12 (omega arith) refl
