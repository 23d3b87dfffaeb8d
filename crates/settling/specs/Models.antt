-- What the call for rules without a book answers.
use Rattle.std.specs.Prelude.{◌≡◌, List}
use Rattle.marks.specs.declared.set.MarkSet.{MarkSet}
use Rattle.marks.specs.MarkSets.{marks_of}
use Rattle.readings.specs.WellFounded.{WellFoundedModel}
use Rattle.lines.specs.declared.fare.FareLine.{FareLine}
use Rattle.settling.specs.Growth.{rules_of}
use Rattle.settling.specs.declared.founded.Model.{Model}

-- the two sets are the well-founded model, by unfounded sets, of the fare lines and facts
pub record IsModel (lines : List FareLine) (facts : MarkSet) (m : Model) : Type 0 where
  pub holds : m.holds.width ≡ facts.width
  pub fails : m.fails.width ≡ facts.width
  pub model : WellFoundedModel facts.width (rules_of lines) (marks_of facts) (marks_of m.holds) (marks_of m.fails)
