use Rattle.std.proofs.Common.{refl, ◌∙◌}
use Rattle.marks.specs.MarkSets.{marks_of}
use Rattle.marks.proofs.Sets.{equal_within}
use Rattle.readings.proofs.Sets.{less_left}
use Rattle.lines.proofs.Growths.{subtracted, none_left}
use Rattle.lines.proofs.growth.Growth.of.Goals as goal

pub invariant_of-result : goal.invariant_of-result
invariant_of-result c =
    let S = marks_of c.args.set in
    let is = subtracted c.args.set c.subtract.result c.subtract.ensures refl in
    record { one_width = is.width; inside = λ m t. less_left S S m (equal_within is.marks m t) }

pub returns-clause-fresh : goal.returns-clause-fresh
returns-clause-fresh c = (subtracted c.args.set c.subtract.result c.subtract.ensures refl).marks ∙ none_left (marks_of c.args.set)
