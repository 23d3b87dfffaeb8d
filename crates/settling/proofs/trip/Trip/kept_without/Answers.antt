use Rattle.settling.proofs.Answering.{given, gives_map}
use Rattle.settling.proofs.Yielding.{kept_grown}
use Rattle.settling.proofs.trip.Trip.kept_without.Goals as goal

pub returns : goal.returns
returns g c =
    let none = (given c.in_ok-none.ensures).marks in
    gives_map c.grown.result (λ x grown. kept_grown _ _ _ grown none c.requires) c.grown.ensures
