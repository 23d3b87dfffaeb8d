use Rattle.std.proofs.Common.{◌≡◌, ◌-◌, ◌++◌, length, take}
use Rattle.tariff.specs.Readings.{text, mapped}
use Rattle.tariff_format.specs.Lines.{lines_at}
use Rattle.tariff_reader.proofs.section.fill.Given as goal

-- the records filled so far, and what is left to read, are what the whole gives
abbrev pub invariant-loop-index : goal.invariant-loop-index
invariant-loop-index g l =
    let read_line = g.L.Line.reading l.width (text l.initial.reader) in
    (text l.reader ≡ text l.initial.reader)
    × (lines_at read_line (length l.initial.records) 0 l.initial.reader.place
    ≡ mapped (λ ls. take l.index l.records ++ ls) (lines_at read_line (length l.initial.records - l.index) l.index l.reader.place))
