-- What settling answers, with the verdict.
use Rattle.std.specs.Prelude.{List}
use Rattle.marks.specs.declared.set.MarkSet.{MarkSet}
use Rattle.marks.specs.MarkSets.{marks_of}
use Rattle.readings.specs.Books.{Book}
use Rattle.readings.specs.Says.{the_verdict}
use Rattle.readings.specs.declared.method.Method.{Method}
use Rattle.lines.specs.declared.fare.FareLine.{FareLine}
use Rattle.settling.specs.Growth.{rules_of}
use Rattle.settling.specs.Rounding.{Settles}
use Rattle.settling.specs.declared.settle.Judged.{Judged}

-- the least reading, found by that method in its rounds, and the verdict that the rules give on it
pub record Judges (B : Book) (lines : List FareLine) (facts : MarkSet) (method : Method) (j : Judged) : Type 0 where
  pub settled : Settles B lines facts method j.settled
  pub verdict : (the_verdict j.verdict).says B (rules_of lines) (marks_of facts) (marks_of j.settled.reading.lower) (marks_of j.settled.reading.upper)
