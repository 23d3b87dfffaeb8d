use Rattle.marks.specs.MarkSets.{marks_of}
use Rattle.settling.proofs.Answering.{given, gives_map}
use Rattle.settling.proofs.Starting.{kept_guarded, within_kept}
use Rattle.settling.proofs.trip.Trip.guarded_from.Goals as goal

pub kept_from-requires-clause-within : goal.kept_from-requires-clause-within
kept_from-requires-clause-within g c = λ quiet. within_kept (given c.in_ok-none.ensures).marks (marks_of c.args.at.now) (c.requires.within quiet)

pub returns-clause-guarded : goal.returns-clause-guarded
returns-clause-guarded g c =
    gives_map c.kept_from.result (λ x is. record { width = is.width; yield = kept_guarded (given c.in_ok-none.ensures).marks is.kept })
    c.kept_from.ensures.kept
