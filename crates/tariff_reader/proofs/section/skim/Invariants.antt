use Rattle.std.proofs.Common.{◌≡◌, ◌-◌}
use Rattle.tariff.specs.Readings.{text, mapped}
use Rattle.tariff_format.specs.Lines.{lines_at}
use Rattle.tariff_reader.proofs.section.skim.Given as goal

-- what is left to read ends as the whole does
abbrev pub invariant-loop-index : goal.invariant-loop-index
invariant-loop-index g l =
    let read_line = g.L.Line.reading l.width (text l.initial.reader) in
    (text l.reader ≡ text l.initial.reader)
    × (mapped (λ _. tt {0}) (lines_at read_line l.count 0 l.initial.reader.place) ≡ mapped (λ _. tt {0}) (lines_at read_line (l.count - l.index) l.index l.reader.place))
