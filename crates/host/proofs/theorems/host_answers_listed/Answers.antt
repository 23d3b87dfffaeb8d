use Rattle.host.proofs.Listing.{host_answers_listed}
use Rattle.host.proofs.theorems.host_answers_listed.Goals as goal

pub returns : goal.returns
returns c = host_answers_listed
