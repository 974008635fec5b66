-- A record laid out, to be written: 01, "The record" (the header, and what a body holds) and "Numbers a call can refuse with" (8, 9, 10 and the
-- order of a writer's checks).
use Rattle.std.specs.Prelude.{ℕ, ◌+◌, ◌%◌, ◌≡◌, List, ◌++◌, Bool, true, false, cond, ◌&&◌, length, leb, ltb, eqb}
use Rattle.wire.specs.Bytes.{part_at}
use Rattle.wire.specs.Over.{over, bytes_of}
use Rattle.utf8.specs.Utf8.{well_formed}
use Rattle.nts.specs.Refusal.{number_of, Beside, nothing, beside_of}
use Rattle.layout.specs.Table.{is_unknown}
use Rattle.layout.specs.declared.Part.{Part}
use Rattle.layout.specs.declared.Shape.{Shape}
use Rattle.layout.specs.declared.Shape.TheVariants.{Skipped, Numbers, Number, Bytes, Name, Pairs, Halves, Unknown}
use Rattle.layout.specs.declared.Layout.{Layout}
use Rattle.layout.specs.declared.ByteCount.{ByteCount}
use Rattle.layout.specs.declared.ByteCount.TheVariants as count

-- ---- refusal 9: what is no record

-- a part lies inside n bytes
unfoldable pub is_inside : Part → ℕ → Bool
is_inside p n = leb (p.start + p.len) n

-- what a body must be, by what it holds
unfoldable pub is_sound : Shape → ℕ → Part → Part → List ℕ → Bool
is_sound Skipped k a b s = true
is_sound Numbers k a b s = eqb (a.len % 2) 0
is_sound Number k a b s = true
is_sound Bytes k a b s = true
is_sound Name k a b s = well_formed (part_at s a.start a.len)
is_sound Pairs k a b s = eqb (a.len % 4) 0
is_sound Halves k a b s = eqb a.len b.len
is_sound Unknown k a b s = is_unknown k

unfoldable pub is_record : Layout → List ℕ → Bool
is_record l s =
    leb l.kind 32767
    && (is_inside l.first (length s)
    && (is_inside l.second (length s)
    && is_sound l.shape l.kind l.first l.second s))

-- ---- what is written

unfoldable pub is_number : Shape → Bool
is_number Skipped = false
is_number Numbers = false
is_number Number = true
is_number Bytes = false
is_number Name = false
is_number Pairs = false
is_number Halves = false
is_number Unknown = false

unfoldable pub body_size : Layout → ℕ
body_size l = cond (is_number l.shape) 2 (l.first.len + l.second.len)

unfoldable pub body_of : Layout → List ℕ → List ℕ
body_of l s =
    cond (is_number l.shape)
    (bytes_of l.number)
    (part_at s l.first.start l.first.len ++ part_at s l.second.start l.second.len)

-- the type word: the top bit is the critical bit
unfoldable pub word_of : ℕ → Bool → ℕ
word_of k bit = cond bit (k + 0x8000) k

unfoldable pub header : ℕ → ℕ → List ℕ
header w n = bytes_of w ++ bytes_of n

unfoldable pub record_bytes : Layout → List ℕ → List ℕ
record_bytes l s = header (word_of l.kind l.critical) (body_size l) ++ body_of l s

-- ---- what a writer answers

pub data Count : Type 0 where
  bytes : ℕ → Count
  refused : ℕ → Beside → Count

-- what each case of the answer says
abbrev pub told_count : ByteCount → Count
told_count (count.Bytes n) = bytes n
told_count (count.Refused e) = refused (number_of e) (beside_of e)

-- the exact length, 4 + size, after 9 and then 8
unfoldable pub measured : Layout → List ℕ → Count
measured l s =
    cond (is_record l s)
    (cond (ltb 65535 (body_size l)) (refused 8 nothing) (bytes (4 + body_size l)))
    (refused 9 nothing)

-- then 10, where the output's room is less
unfoldable pub fitted : ℕ → Count → Count
fitted room (bytes n) = cond (ltb room n) (refused 10 nothing) (bytes n)
fitted room (refused k c) = refused k c

unfoldable pub written : Layout → List ℕ → ℕ → Count
written l s room = fitted room (measured l s)

-- the output afterwards: the record at its front, or as it was
unfoldable pub left_by : Count → List ℕ → List ℕ → List ℕ
left_by (bytes n) b o = over b o
left_by (refused k c) b o = o

-- a writer's contract: it answers a, and leaves what belongs to a
pub record Wrote (a : Count) (b o : List ℕ) (r : ByteCount) (o' : List ℕ) : Type 0 where
  pub says : told_count r ≡ a
  pub left : o' ≡ left_by a b o
