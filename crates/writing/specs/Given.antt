-- A record to write as seven cells, what a support reply is to hold as one number, and a denied name appended: 01, "The record" and "Choosing and replying".
use Rattle.std.specs.Prelude.{ℕ, ◌/◌, ◌%◌, ◌≡◌, List, [], Bool, cond, ◌&&◌, leb, eqb}
use Rattle.nts.specs.Refusal.{nothing}
use Rattle.layout.specs.Write.{Count, refused, measured, record_bytes}
use Rattle.layout.specs.declared.Part.{Part}
use Rattle.record.specs.Laid.{layout_of}
use Rattle.record.specs.declared.NtsRecord.{NtsRecord}
use Rattle.record.specs.declared.NtsRecord.TheVariants as r
use Rattle.messages.specs.Messages.{support_checked}
use Rattle.messages.specs.declared.Asked.{Asked}
use Rattle.plan.specs.Tray.{deny, grown_tray}
use Rattle.cells.specs.Cells.{Gives, cell, counted}

-- ---- a record: kind, a bit, a number, and two parts of the lent bytes, as the reader of one record gives them. The bit is 0 or 1; which of them counts for an
-- unknown kind alone, since a known one is written with the table's

pub data Held : Type 0 where
  no_record : Held
  held : NtsRecord → Held

unfoldable pub is_record : List ℕ → Bool
is_record c = leb (cell c 0) 65535 && leb (cell c 1) 1 && leb (cell c 2) 65535

-- by kind; what a kind does not have is not looked at
unfoldable pub item_of : ℕ → Bool → ℕ → Part → Part → NtsRecord
item_of k bit n a b =
    cond (eqb k 0) r.EndOfMessage
    (cond (eqb k 1) (r.NextProtocol a)
    (cond (eqb k 2) (r.Error (record { 0 = n }))
    (cond (eqb k 3) (r.Warning (record { 0 = n }))
    (cond (eqb k 4) (r.AeadAlgorithm a)
    (cond (eqb k 5) (r.NewCookie a)
    (cond (eqb k 6) (r.Server a)
    (cond (eqb k 7) (r.Port n)
    (cond (eqb k 8) r.KeepAlive
    (cond (eqb k 9) (r.SupportedNextProtocolList a)
    (cond (eqb k 10) (r.SupportedAlgorithmList a)
    (cond (eqb k 12) (r.FixedKeyRequest a b)
    (cond (eqb k 13) (r.NtpServerDeny a)
    (cond (eqb k 14) (r.Authentication a)
    (r.Unknown k bit a))))))))))))))

abbrev pub part_in : List ℕ → ℕ → ℕ → Part
part_in c i j = record { start = cell c i; len = cell c j }

unfoldable pub record_in : List ℕ → Held
record_in c =
    cond (is_record c) (held (item_of (cell c 0) (eqb (cell c 1) 1) (cell c 2) (part_in c 3 4) (part_in c 5 6))) no_record

-- its length, and what is written: 9 for cells that hold no record
abbrev pub held_length : Held → List ℕ → Count
held_length no_record s = refused 9 nothing
held_length (held x) s = measured (layout_of x) s

abbrev pub held_bytes : Held → List ℕ → List ℕ
held_bytes no_record s = []
held_bytes (held x) s = record_bytes (layout_of x) s

-- ---- a support reply: 1 for algorithms, 2 for protocols, 4 for keep-alive, and their sums; 9 for another number

abbrev pub asked_of : ℕ → Asked
asked_of n = record { algorithms = eqb (n % 2) 1; protocols = eqb (n / 2 % 2) 1; keep_alive = eqb (n / 4) 1 }

unfoldable pub support_count : ℕ → List ℕ → List ℕ → Count
support_count n pairs protocols = cond (leb n 7) (support_checked (asked_of n) pairs protocols) (refused 9 nothing)

-- ---- a denied name appended to a tray, of which one cell holds the used length

pub record DeniesTo (lent name tray : List ℕ) (r : ℕ) (after tray' : List ℕ) : Type 0 where
  pub gives : Gives (counted (deny (cell lent 0) name tray)) lent r after
  pub left : tray' ≡ grown_tray (deny (cell lent 0) name tray) 2 (cell lent 0) name tray
