use Rattle.readings.proofs.BrokenSheets.{broken_is_a_clash}
use Rattle.readings.proofs.theorems.broken_is_a_clash.Goals as goal

pub returns : goal.returns
returns c = λ B lines facts fit. broken_is_a_clash fit
