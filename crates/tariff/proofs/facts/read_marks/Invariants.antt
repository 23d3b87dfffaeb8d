use Rattle.std.proofs.Common.{◌≡◌, ◌-◌}
use Rattle.marks.specs.MarkSets.{marks_of}
use Rattle.tariff.specs.Facts.{adding}
use Rattle.tariff.specs.Lists.{marks_at}
use Rattle.tariff.specs.Readings.{text, mapped}
use Rattle.tariff.proofs.facts.read_marks.Given as goal

-- what is left to read gives, added to the set so far, what the whole gives
abbrev pub invariant-loop : goal.invariant-loop
invariant-loop l =
    (text l.reader ≡ text l.initial.reader) × (l.set.width ≡ l.initial.set.width)
    × (mapped (adding (marks_of l.initial.set)) (marks_at l.initial.set.width (text l.initial.reader) l.count 0 l.initial.reader.place)
    ≡ mapped (adding (marks_of l.set)) (marks_at l.initial.set.width (text l.initial.reader) (l.count - l.counter) l.least l.reader.place))
