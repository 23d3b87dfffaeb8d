use Rattle.readings.proofs.Stopping.{one_least_reading}
use Rattle.readings.proofs.theorems.one_least_reading.Goals as goal

pub returns : goal.returns
returns c = λ B lines facts. one_least_reading
