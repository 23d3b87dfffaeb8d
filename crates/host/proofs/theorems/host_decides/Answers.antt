use Rattle.host.proofs.Deciding.{host_decides}
use Rattle.host.proofs.theorems.host_decides.Goals as goal

pub returns : goal.returns
returns c = host_decides
