use Rattle.readings.proofs.Statements.{relations_decide}
use Rattle.readings.proofs.theorems.relations_decide.Goals as goal

pub returns : goal.returns
returns c = λ B lines facts. relations_decide
