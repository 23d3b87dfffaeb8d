use Rattle.std.proofs.Common.{◌∙◌}
use Rattle.settling.proofs.Answering.{given, gives_map}
use Rattle.settling.proofs.Denying.{no_heads}
use Rattle.settling.proofs.Starting.{kept_guarded}
use Rattle.settling.proofs.trip.Trip.guarded_of.Goals as goal

pub denied_heads-requires-clause-known : goal.denied_heads-requires-clause-known
denied_heads-requires-clause-known g c =
    let none = given c.in_ok-none.ensures in no_heads c.in_ok-none.none (none.width ∙ c.width.ensures) none.marks

pub returns : goal.returns
returns g c =
    gives_map c.kept_without.result (λ x is. record { width = is.width; yield = kept_guarded (given c.in_ok-none.ensures).marks is.kept })
    c.kept_without.ensures
