-- One record, read from the bytes at which it begins: RFC 8915, section 4 (header) and sections 4.1.1 to 4.1.8 (kinds 0 to 7); 01, "The
-- record" (kinds 8 to 14 and unknown ones, and the faults). The place comes in only where an answer is made.
use Rattle.std.specs.Prelude.{ℕ, ◌+◌, ◌*◌, ◌/◌, ◌%◌, List, Bool, cond, length, take, drop, leb, ltb, eqb}
use Rattle.wire.specs.Bytes.{number_at}
use Rattle.utf8.specs.Utf8.{well_formed}
use Rattle.nts.specs.Refusal.{Refused, nothing}
use Rattle.layout.specs.Table.{shape_of}
use Rattle.layout.specs.declared.Shape.{Shape}
use Rattle.layout.specs.declared.Shape.TheVariants.{Skipped, Numbers, Number, Bytes, Name, Pairs, Halves, Unknown}

-- ---- the header: two bytes of type word, two of body size

-- the word's low fifteen bits
unfoldable pub kind_of : ℕ → ℕ
kind_of word = word % 0x8000

-- its top bit
unfoldable pub critical_of : ℕ → Bool
critical_of word = leb 0x8000 word

-- of the record at the list's front
unfoldable pub kind : List ℕ → ℕ
kind s = kind_of (number_at s 0)

unfoldable pub critical : List ℕ → Bool
critical s = critical_of (number_at s 0)

unfoldable pub size : List ℕ → ℕ
size s = number_at s 2

-- what is there of its body
unfoldable pub there : List ℕ → List ℕ
there s = take (size s) (drop 4 s)

-- ---- the body

-- the fault of a body that is n bytes long by its header and of which m bytes are there; 0: none.
-- 1 if it is not all there
unfoldable pub short : ℕ → ℕ → ℕ
short n m = cond (ltb m n) 1 0

-- entries of u bytes each: 1 if the size is no whole number of them, or the body is short
unfoldable pub uneven : ℕ → ℕ → ℕ → ℕ
uneven u n m = cond (eqb (n % u) 0) (short n m) 1

-- one number: 1 if fewer than two bytes are there; otherwise 2 if the size is not 2
unfoldable pub not_number : ℕ → ℕ → ℕ
not_number n m = cond (ltb m 2) 1 (cond (eqb n 2) 0 2)

-- two halves: 1 if twice half the size, rounded down, is not there; otherwise 2 if the size is odd
unfoldable pub not_halves : ℕ → ℕ → ℕ
not_halves n m = cond (ltb m (2 * (n / 2))) 1 (cond (eqb (n % 2) 0) 0 2)

-- 2 if what is there is not UTF-8
unfoldable pub not_utf8 : List ℕ → ℕ
not_utf8 b = cond (well_formed b) 0 2

-- a fault, then the next
unfoldable pub first_of : ℕ → ℕ → ℕ
first_of f g = cond (eqb f 0) g f

-- a name of which b is there: 2 if that is not UTF-8, then 1 if it is short
unfoldable pub not_name : ℕ → List ℕ → ℕ
not_name n b = first_of (not_utf8 b) (short n (length b))

-- each by what the body holds
unfoldable pub fault_of : Shape → ℕ → List ℕ → ℕ
fault_of Skipped n b = short n (length b)
fault_of Numbers n b = uneven 2 n (length b)
fault_of Number n b = not_number n (length b)
fault_of Bytes n b = short n (length b)
fault_of Name n b = not_name n b
fault_of Pairs n b = uneven 4 n (length b)
fault_of Halves n b = not_halves n (length b)
fault_of Unknown n b = short n (length b)

-- the fault of the record at the list's front, by what each kind's body holds; a header that is not all there: 1
unfoldable pub fault_by : (ℕ → Shape) → List ℕ → ℕ
fault_by shape s = cond (ltb (length s) 4) 1 (fault_of (shape (kind s)) (size s) (there s))

abbrev pub fault : List ℕ → ℕ
fault s = fault_by shape_of s

-- ---- what is read

-- what a body holds that has no fault. A part is told by its start in the message and its length
pub data Value : Type 0 where
  skipped : Value
  number : ℕ → Value
  part : ℕ → ℕ → Value
  halves : ℕ → ℕ → ℕ → ℕ → Value
  unknown : Bool → ℕ → ℕ → Value

-- the body b of n bytes that begins at `start`; an unknown record keeps the bit for itself, since it is written as given
unfoldable pub value_of : Shape → Bool → ℕ → ℕ → List ℕ → Value
value_of Skipped bit start n b = skipped
value_of Number bit start n b = number (number_at b 0)
value_of Numbers bit start n b = part start n
value_of Bytes bit start n b = part start n
value_of Name bit start n b = part start n
value_of Pairs bit start n b = part start n
value_of Halves bit start n b = halves start (n / 2) (start + n / 2) (n / 2)
value_of Unknown bit start n b = unknown bit start n

pub record Seen : Type 0 where
  pub kind : ℕ
  pub value : Value

-- what a reader of one record answers: the record, its bit as received, whatever its kind, and the place after it
pub data Told : Type 0 where
  read : Seen → Bool → ℕ → Told
  refused : Refused → Told

-- a record of a kind, with its bit, its body's start and size, and its body
unfoldable pub seen_of : ℕ → Bool → ℕ → ℕ → List ℕ → Seen
seen_of k bit start n b = record { kind = k; value = value_of (shape_of k) bit start n b }

-- the record at the front of s, which begins at `at`, its bit, and the place after it: it takes exactly 4 + size bytes
unfoldable pub read_from : ℕ → List ℕ → Told
read_from at s =
    cond (eqb (fault s) 0)
    (read (seen_of (kind s) (critical s) (at + 4) (size s) (there s)) (critical s) (at + 4 + size s))
    (refused (record { number = fault s; beside = nothing; place = at }))

-- the record at a place of a message; past its end nothing is there
unfoldable pub read_at : List ℕ → ℕ → Told
read_at s at = read_from at (drop at s)

-- ---- what a walk asks of a record

-- refused as above, by what each kind's body holds, or its kind, its bit and its size
pub data Sight : Type 0 where
  whole : ℕ → Bool → ℕ → Sight
  broken : Refused → Sight

unfoldable pub look_from : (ℕ → Shape) → ℕ → List ℕ → Sight
look_from shape at s =
    cond (eqb (fault_by shape s) 0)
    (whole (kind s) (critical s) (size s))
    (broken (record { number = fault_by shape s; beside = nothing; place = at }))

unfoldable pub look_at : (ℕ → Shape) → List ℕ → ℕ → Sight
look_at shape s at = look_from shape at (drop at s)
