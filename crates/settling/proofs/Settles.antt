-- What a method answers, from where it stopped.
use Rattle.std.proofs.Common.{◌≡◌, List, sym, subst}
use Rattle.marks.specs.MarkSets.{marks_of, IsSet}
use Rattle.marks.specs.Sets.{Marks}
use Rattle.marks.specs.declared.set.MarkSet.{MarkSet}
use Rattle.readings.specs.Books.{Book, Lawful}
use Rattle.readings.specs.Says.{Rounds}
use Rattle.readings.specs.declared.method.Method.{Method}
use Rattle.readings.proofs.Stopping.{stop, stops_bound, ends_at_least}
use Rattle.lines.specs.declared.fare.FareLine.{FareLine}
use Rattle.settling.specs.Calls.{GoesWith}
use Rattle.settling.specs.Growth.{rules_of}
use Rattle.settling.specs.Rounding.{Settles}
use Rattle.settling.specs.declared.settled.Settled.{Settled}
use Rattle.settling.proofs.Fares.{fits}

pub settles_by : (B : Book) → Lawful B → (lines : List FareLine) (facts : MarkSet) → GoesWith B lines facts → (k : Method) (s : Settled) (U : Marks)
    → s.reading.lower.width ≡ B.width → IsSet s.reading.upper B.width U → Rounds B (rules_of lines) (marks_of facts) k s.rounds (marks_of s.reading.lower) U → Settles B lines facts k s
settles_by B law lines facts goes k s U lower upper r =
    let fit = fits B law lines facts goes in
    let rounds : Rounds B (rules_of lines) (marks_of facts) k s.rounds (marks_of s.reading.lower) (marks_of s.reading.upper) =
    subst (λ (X : Marks). Rounds B (rules_of lines) (marks_of facts) k s.rounds (marks_of s.reading.lower) X) (sym upper.marks) r in
    record {
      lower = lower;
      upper = upper.width;
      reading = ends_at_least fit k rounds;
      rounds = rounds;
      few = stops_bound fit k rounds;
      either = λ j. stop fit k j rounds;
    }
