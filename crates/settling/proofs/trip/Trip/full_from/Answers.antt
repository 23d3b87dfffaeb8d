use Rattle.settling.proofs.Answering.{given, gives_map}
use Rattle.settling.proofs.Yielding.{full_grown}
use Rattle.settling.proofs.trip.Trip.full_from.Goals as goal

pub returns : goal.returns
returns g c =
    let none = c.in_ok-none.none in
    let is = (given c.in_ok-none.ensures).marks in
    gives_map c.grown.result (λ x grown. full_grown _ _ (record { exceptions = _; denied = none; refuted = none }) grown c.requires.within is is) c.grown.ensures
