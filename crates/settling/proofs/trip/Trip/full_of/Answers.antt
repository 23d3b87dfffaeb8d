use Rattle.marks.proofs.Sets.{equal_within}
use Rattle.settling.proofs.Answering.{given}
use Rattle.settling.proofs.trip.Trip.full_of.Goals as goal

pub full_from-requires-clause-within : goal.full_from-requires-clause-within
full_from-requires-clause-within g c = λ Z zw zc zh m t. absurd (equal_within (given c.in_ok-none.ensures).marks m t)
