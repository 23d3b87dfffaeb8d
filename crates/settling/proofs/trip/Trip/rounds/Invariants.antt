use Rattle.marks.specs.MarkSets.{marks_of}
use Rattle.settling.specs.Denials.{OnlyDenied}
use Rattle.settling.specs.Rounding.{way_of}
use Rattle.settling.proofs.Rounding.{Going}
use Rattle.settling.proofs.Ways.{left_of}
use Rattle.settling.proofs.trip.Trip.rounds.Given as goal

abbrev pub invariant-loop-rounds : goal.invariant-loop-rounds
invariant-loop-rounds g l =
    let B = g.B.TermBook.book l.self.book.now in
    let k = g.W.Way.method in
    Going (way_of k B l.self.lines.now l.self.facts.now) B.width (left_of k B.width) l.rounds l.lower l.other
    × OnlyDenied B l.self.lines.now l.self.facts.now (marks_of l.lower) l.known

abbrev pub decreases-loop-rounds : goal.decreases-loop-rounds
decreases-loop-rounds g l =
    left_of g.W.Way.method (g.B.TermBook.book l.self.book.now).width (marks_of l.lower) (marks_of l.other)
