-- What was judged and not refused: what the writers then rely on; how long the messages are; and what a call that wrote a message left.
-- Assumes nothing.
use mathlib.Core.Path.{◌≡◌, refl, sym, ap, ◌∙◌}
use mathlib.Core.List.{List, [], ◌∷◌, ◌++◌, map}
use mathlib.Core.Bool.{Bool, true, false, cond, ◌&&◌, ◌||◌}
use Prim.Native.Nat.{ℕ, ◌+◌, ◌*◌, ◌%◌, ◌≤◌}
use native.Mathlib.Omega.{arith}
use borrow.Author.Tests.{eqb-true, eqb-false, ltb-false}
use lib.Dec.{eqb, ltb}
use lib.ListN.{length, take, drop, length-append}
use lib.Seq.{take_at}
use Rattle.wire.specs.Over.{over, bytes_of}
use Rattle.wire.proofs.Over.{length_over}
use Rattle.utf8.specs.Utf8.{well_formed}
use Rattle.nts.specs.Refusal.{Beside, nothing}
use Rattle.layout.specs.Write.{Count, bytes, refused, fitted, left_by, Wrote}
use Rattle.layout.specs.declared.ByteCount.TheVariants as count
use Rattle.walk.specs.Message.{flat}
use Rattle.walk.proofs.Reorder.{flat_append}
use Rattle.plan.specs.Tray.{Fields, broken, fields, bytes_in}
use Rattle.plan.specs.Plan.{name_length, name_record, keep_alive_record, reply_length}
use Rattle.plan.specs.Plan as plans
use Rattle.plan.specs.declared.Plan.{Plan}
use Rattle.plan.specs.declared.NameLength.{NameLength}
use Rattle.plan.specs.declared.NameLength.TheVariants as name
use Rattle.plan.specs.declared.Port.{Port}
use Rattle.plan.specs.declared.Port.TheVariants as port
use Rattle.messages.specs.declared.Asked.{Asked}
use Rattle.messages.specs.Messages.{record_with, cell_bytes, if_asked, end_record, message_of, too_long, server_record, port_record, reply_records, reply_checked, no_protocol_records, no_algorithm_records, error_records, support_length, support_checked, request_records, all_utf8, request_length, request_checked}
use Rattle.messages.proofs.Records.{length_written}

never : {A : Type 0} {n k : ℕ} {b : Beside} → refused k b ≡ bytes n → A
never e = let z : ◌≡◌ {A = ℕ} 0 1 = cc in absurd (omega arith)

both : (a b : Bool) → (a && b) ≡ true → (a ≡ true) × (b ≡ true)
both true b e = (refl, e)
both false b e = let z : ◌≡◌ {A = ℕ} 0 1 = cc in absurd (omega arith)

neither : (a b : Bool) → (a || b) ≡ false → (a ≡ false) × (b ≡ false)
neither true b e = let z : ◌≡◌ {A = ℕ} 0 1 = cc in absurd (omega arith)
neither false b e = (refl, e)

-- ---- a reply

pub record Reply (x : Plan) (server : List ℕ) (f : Fields) (n : ℕ) : Type 0 where
  pub bodies : List (List ℕ)
  pub are : f ≡ fields bodies
  pub named : length server ≡ name_length x.name
  pub utf8 : well_formed server ≡ true
  pub some : 1 ≤ length bodies
  pub long : n ≡ reply_length x bodies

pub reply_cleared : (x : Plan) (server : List ℕ) (f : Fields) (n : ℕ) → reply_checked x server f ≡ bytes n → Reply x server f n
reply_cleared x server broken n e = never e
reply_cleared x server (fields l) n e = by_name (eqb (length server) (name_length x.name) && well_formed server) refl e
  where
    by_cookie : (t : Bool) → eqb (length l) 0 ≡ t → (eqb (length server) (name_length x.name) && well_formed server) ≡ true → cond t (refused 15 nothing) (bytes (reply_length x l)) ≡ bytes n → Reply x server (fields l) n
    by_cookie true g h i = never i
    by_cookie false g h i =
        let w = both (eqb (length server) (name_length x.name)) (well_formed server) h in
        let z = eqb-false (length l) 0 g in
        record { bodies = l; are = refl; named = eqb-true (length server) (name_length x.name) w.0; utf8 = w.1; some = omega (arith, z); long = cc }

    by_name : (t : Bool) → (eqb (length server) (name_length x.name) && well_formed server) ≡ t → cond t (cond (eqb (length l) 0) (refused 15 nothing) (bytes (reply_length x l))) (refused 9 nothing) ≡ bytes n → Reply x server (fields l) n
    by_name true h i = by_cookie (eqb (length l) 0) refl h i
    by_name false h i = never i

-- ---- a support reply

pub record Support (x : Asked) (pairs numbers : List ℕ) (n : ℕ) : Type 0 where
  pub short : (x.algorithms && too_long (2 * length pairs)) ≡ false
  pub short_2 : (x.protocols && too_long (2 * length numbers)) ≡ false
  pub long : n ≡ support_length x pairs numbers

pub support_cleared : (x : Asked) (pairs numbers : List ℕ) (n : ℕ) → support_checked x pairs numbers ≡ bytes n → Support x pairs numbers n
unfolding support_checked
support_cleared x pairs numbers n e = by_pairs (eqb (length pairs % 2) 0) e
  where
    by_length : (t : Bool) → ((x.algorithms && too_long (2 * length pairs)) || (x.protocols && too_long (2 * length numbers))) ≡ t → cond t (refused 8 nothing) (bytes (support_length x pairs numbers)) ≡ bytes n → Support x pairs numbers n
    by_length true h i = never i
    by_length false h i = let w = neither (x.algorithms && too_long (2 * length pairs)) (x.protocols && too_long (2 * length numbers)) h in record { short = w.0; short_2 = w.1; long = cc }

    by_pairs : (t : Bool) → cond t (cond ((x.algorithms && too_long (2 * length pairs)) || (x.protocols && too_long (2 * length numbers))) (refused 8 nothing) (bytes (support_length x pairs numbers))) (refused 9 nothing) ≡ bytes n → Support x pairs numbers n
    by_pairs true i = by_length ((x.algorithms && too_long (2 * length pairs)) || (x.protocols && too_long (2 * length numbers))) refl i
    by_pairs false i = never i

-- ---- a request

pub record Request (protocols algorithms : List ℕ) (f : Fields) (n : ℕ) : Type 0 where
  pub bodies : List (List ℕ)
  pub are : f ≡ fields bodies
  pub utf8 : all_utf8 bodies ≡ true
  pub short : 2 * length protocols ≤ 65535
  pub short_2 : 2 * length algorithms ≤ 65535
  pub long : n ≡ request_length protocols algorithms bodies

pub request_cleared : (protocols algorithms : List ℕ) (f : Fields) (n : ℕ) → request_checked protocols algorithms f ≡ bytes n → Request protocols algorithms f n
request_cleared protocols algorithms broken n e = never e
request_cleared protocols algorithms (fields l) n e = by_names (all_utf8 l) refl e
  where
    by_length : (t : Bool) → all_utf8 l ≡ true → (too_long (2 * length protocols) || too_long (2 * length algorithms)) ≡ t → cond t (refused 8 nothing) (bytes (request_length protocols algorithms l)) ≡ bytes n → Request protocols algorithms (fields l) n
    by_length true u h i = never i
    by_length false u h i =
        let w = neither (too_long (2 * length protocols)) (too_long (2 * length algorithms)) h in
        record { bodies = l; are = refl; utf8 = u; short = ltb-false 65535 (2 * length protocols) w.0; short_2 = ltb-false 65535 (2 * length algorithms) w.1; long = cc }

    by_names : (t : Bool) → all_utf8 l ≡ t → cond t (cond (too_long (2 * length protocols) || too_long (2 * length algorithms)) (refused 8 nothing) (bytes (request_length protocols algorithms l))) (refused 9 nothing) ≡ bytes n → Request protocols algorithms (fields l) n
    by_names true u i = by_length (too_long (2 * length protocols) || too_long (2 * length algorithms)) u refl i
    by_names false u i = never i

-- ---- how long a message is

-- records and then others
length_both : (xs ys : List (List ℕ)) → length (flat (xs ++ ys)) ≡ length (flat xs) + length (flat ys)
length_both xs ys = ap length (flat_append xs ys) ∙ length-append (flat xs) (flat ys)

-- one record more in front, one alone, and one for each body
length_front : (k : ℕ) (b : List ℕ) (cs : List (List ℕ)) → length (flat (record_with k b ∷ cs)) ≡ 4 + length b + length (flat cs)
length_front k b cs = omega (arith, length-append (record_with k b) (flat cs), length_written k b)

length_one : (k : ℕ) (b : List ℕ) → length (flat (record_with k b ∷ [])) ≡ 4 + length b
length_one k b = omega (arith, length_front k b [])

length_each : (k : ℕ) (l : List (List ℕ)) → length (flat (map (record_with k) l)) ≡ 4 * length l + bytes_in l
length_each k [] = refl
length_each k (b ∷ l) = omega (arith, length_front k b (map (record_with k) l), length_each k l)

-- the end record is the last
length_message : (cs : List (List ℕ)) → length (message_of cs) ≡ length (flat cs) + 4
length_message cs = omega (arith, length-append (flat cs) end_record, length_written 0 [])

-- bodies, and records that are there if planned
length_number : (n : ℕ) → length (bytes_of n) ≡ 2
unfolding bytes_of
length_number n = refl

pub length_cells : (l : List ℕ) → length (cell_bytes l) ≡ 2 * length l
length_cells [] = refl
length_cells (n ∷ l) = omega (arith, length-append (bytes_of n) (cell_bytes l), length_number n, length_cells l)

length_server : (y : NameLength) (server : List ℕ) → length server ≡ name_length y → length (flat (server_record y server)) ≡ name_record y
length_server name.None server e = refl
length_server (name.Bytes n) server e = length_one 6 server ∙ ap (λ (k : ℕ). 4 + k) e

length_port : (y : Port) → length (flat (port_record y)) ≡ plans.port_record y
length_port port.None = refl
length_port (port.Number n) = length_one 7 (bytes_of n) ∙ ap (λ (k : ℕ). 4 + k) (length_number n)

length_kept : (y : Bool) → length (flat (if_asked y (record_with 8 []))) ≡ keep_alive_record y
length_kept true = length_one 8 []
length_kept false = refl

-- a reply is as long as its plan says, if the name is
pub length_reply : (x : Plan) (server : List ℕ) (l : List (List ℕ)) → length server ≡ name_length x.name
    → length (message_of (reply_records x server l)) ≡ reply_length x l
unfolding reply_length
length_reply x server l e =
    let cookies = map (record_with 5) l in
    let kept = if_asked x.keep_alive (record_with 8 []) in
    let more = server_record x.name server ++ (port_record x.port ++ (kept ++ cookies)) in
    let a = bytes_of x.algorithm.0 in
    omega (
      arith,
      length_message (reply_records x server l),
      length_front 1 (bytes_of x.protocol.0) (record_with 4 a ∷ more),
      length_front 4 a more,
      length_number x.protocol.0,
      length_number x.algorithm.0,
      length_both (server_record x.name server) (port_record x.port ++ (kept ++ cookies)),
      length_both (port_record x.port) (kept ++ cookies),
      length_both kept cookies,
      length_server x.name server e,
      length_port x.port,
      length_kept x.keep_alive,
      length_each 5 l,
    )

-- a request, and the other replies, are as long as their writers answer
pub length_request : (protocols algorithms : List ℕ) (l : List (List ℕ))
    → length (message_of (request_records protocols algorithms l)) ≡ request_length protocols algorithms l
unfolding request_length
length_request protocols algorithms l =
    omega (
      arith,
      length_message (request_records protocols algorithms l),
      length_front 1 (cell_bytes protocols) (record_with 4 (cell_bytes algorithms) ∷ map (record_with 13) l),
      length_front 4 (cell_bytes algorithms) (map (record_with 13) l),
      length_cells protocols,
      length_cells algorithms,
      length_each 13 l,
    )

pub length_no_protocol : length (message_of no_protocol_records) ≡ 8
length_no_protocol = omega (arith, length_message no_protocol_records, length_one 1 [])

pub length_no_algorithm : (p : ℕ) → length (message_of (no_algorithm_records p)) ≡ 14
length_no_algorithm p =
    omega (
      arith,
      length_message (no_algorithm_records p),
      length_front 1 (bytes_of p) (record_with 4 [] ∷ []),
      length_number p,
      length_one 4 [],
    )

pub length_error : (c : ℕ) → length (message_of (error_records c)) ≡ 10
length_error c = omega (arith, length_message (error_records c), length_one 2 (bytes_of c), length_number c)

-- ---- a call that wrote

-- the message m is the first k bytes of the output o
pub record Stands (m : List ℕ) (k : ℕ) (o : List ℕ) : Type 0 where
  pub long : k ≡ length m
  pub inside : k ≤ length o
  pub front : take k o ≡ m

-- what was judged is the number answered; and if the message has so many bytes, it stands at the output's front
pub record Written (a : Count) (m : List ℕ) (k : ℕ) (o : List ℕ) : Type 0 where
  pub judged : a ≡ bytes k
  pub stands : length m ≡ k → Stands m k o

-- so it is of every call that wrote, whatever its judgement and its message
pub wrote_written : (a : Count) (m o o' : List ℕ) (k : ℕ) → Wrote (fitted (length o) a) m o (count.Bytes k) o' → Written a m k o'
unfolding fitted left_by over
wrote_written (refused j b) m o o' k w = never (sym w.says)
wrote_written (bytes n) m o o' k w = by_room (ltb (length o) n) refl w.says w.left
  where
    by_room : (t : Bool) → ltb (length o) n ≡ t → bytes k ≡ cond t (refused 10 nothing) (bytes n) → o' ≡ left_by (cond t (refused 10 nothing) (bytes n)) m o → Written (bytes n) m k o'
    by_room true g e l = never (sym e)
    by_room false g e l =
        let same : k ≡ n = cc in
        let room = ltb-false (length o) n g in
        record {
          judged = ap bytes (sym same);
          stands = λ h. record {
            long = sym h;
            inside = omega (arith, ap length l, length_over m o (omega arith));
            front = ap (take k) l ∙ take_at m (drop (length m) o) k h;
          };
        }
