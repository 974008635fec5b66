-- A record laid out: 01, "The record". What each case of a record is, by kind and value, Told.antt says; the columns "Body" and "Bit written" are the
-- table's (layout/specs/Table.antt).
use Rattle.std.specs.Prelude.{ℕ, false}
use Rattle.layout.specs.Table.{shape_of, bit_of}
use Rattle.layout.specs.declared.Part.{Part}
use Rattle.layout.specs.declared.Shape.TheVariants.{Unknown}
use Rattle.layout.specs.declared.Layout.{Layout}
use Rattle.record.specs.Record.{Value, skipped, number, part, halves, unknown}
use Rattle.record.specs.Told.{kind_of_record, value_of_record}
use Rattle.record.specs.declared.NtsRecord.{NtsRecord}

abbrev pub none : Part
none = record { start = 0; len = 0 }

-- of a known kind, what the body holds and the bit are the table's
abbrev pub laid : ℕ → ℕ → Part → Part → Layout
laid k n a b = record { kind = k; critical = bit_of k false; shape = shape_of k; number = n; first = a; second = b }

abbrev pub layout_by : ℕ → Value → Layout
layout_by k skipped = laid k 0 none none
layout_by k (number n) = laid k n none none
layout_by k (part a n) = laid k 0 (record { start = a; len = n }) none
layout_by k (halves a n b m) = laid k 0 (record { start = a; len = n }) (record { start = b; len = m })
-- an unknown record is one whatever its number: that no known kind has it is refusal 9's (layout/specs/Write.antt)
layout_by k (unknown bit a n) = record { kind = k; critical = bit; shape = Unknown; number = 0; first = record { start = a; len = n }; second = none }

abbrev pub layout_of : NtsRecord → Layout
layout_of x = layout_by (kind_of_record x) (value_of_record x)
