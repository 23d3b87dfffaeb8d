-- Both methods go on until they stop.
use Rattle.std.proofs.Common.{ℕ, ◌+◌, ◌-◌, List}
use Rattle.marks.specs.declared.set.MarkSet.{MarkSet}
use Rattle.marks.specs.MarkSets.{marks_of}
use Rattle.marks.specs.Sets.{Marks, size}
use Rattle.readings.specs.Books.{Book, Lawful}
use Rattle.readings.specs.declared.method.Method.{Method}
use Rattle.readings.specs.declared.method.Method.TheVariants.{First, Second}
use Rattle.lines.specs.declared.fare.FareLine.{FareLine}
use Rattle.settling.specs.Calls.{GoesWith}
use Rattle.settling.specs.Growth.{rules_of}
use Rattle.settling.specs.Rounding.{way_of}
use Rattle.settling.proofs.Fares.{fits}
use Rattle.settling.proofs.FirstGoing.{first_way}
use Rattle.settling.proofs.Rounding.{GoingWay}
use Rattle.settling.proofs.SecondGoing.{second_way}

-- what is left to do: the marks still in U and those not yet in T, or the marks not yet in T and those not yet in F
abbrev pub left_of : Method → ℕ → Marks → Marks → ℕ
left_of First w T U = size w U + (w - size w T)
left_of Second w T F = (w - size w T) + (w - size w F)

pub going_way : (k : Method) (B : Book) → Lawful B → (lines : List FareLine) (facts : MarkSet) → GoesWith B lines facts → GoingWay (way_of k B lines facts) B.width (left_of k B.width)
going_way First B law lines facts goes = first_way B (rules_of lines) (marks_of facts) (fits B law lines facts goes)
going_way Second B law lines facts goes = second_way B (rules_of lines) (marks_of facts)
