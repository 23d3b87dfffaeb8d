use Rattle.std.proofs.Common.{◌≡◌, ◌-◌, ◌++◌, length, take}
use Rattle.tariff.specs.Lists.{marks_at}
use Rattle.tariff.specs.Readings.{text, mapped}
use Rattle.tariff_reader.proofs.list.read_marks.Given as goal

-- the places filled so far, and what is left to read, are what the whole gives
abbrev pub invariant-loop-place : goal.invariant-loop-place
invariant-loop-place l =
    (text l.reader ≡ text l.initial.reader)
    × (marks_at l.width (text l.initial.reader) (length l.initial.places) 0 l.initial.reader.place
    ≡ mapped (λ ms. take l.place-index l.places ++ ms) (marks_at l.width (text l.initial.reader) (length l.initial.places - l.place-index) l.least l.reader.place))
