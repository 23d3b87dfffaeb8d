use Rattle.readings.proofs.Statements.{computed_right}
use Rattle.readings.proofs.theorems.computed_right.Goals as goal

pub returns : goal.returns
returns c = λ B lines facts. computed_right
