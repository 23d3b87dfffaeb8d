use Rattle.settling.proofs.Starting.{guarded_within}
use Rattle.settling.proofs.trip.Trip.full_around.Goals as goal

pub full_from-requires-clause-within : goal.full_from-requires-clause-within
full_from-requires-clause-within g c = guarded_within c.requires.yield
