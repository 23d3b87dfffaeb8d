use Rattle.std.proofs.Common.{◌-◌}
use Rattle.marks.specs.MarkSets.{marks_of}
use Rattle.marks.specs.Sets.{size}
use Rattle.settling.specs.Growth.{LineLetInBy}
use Rattle.settling.proofs.Growing.{Growing}
use Rattle.settling.proofs.trip.Trip.grow.Given as goal

abbrev pub invariant-loop : goal.invariant-loop
invariant-loop g l = Growing (g.B.TermBook.book l.self.book.now) (LineLetInBy l.self.lines.now l.gate) l.fn.set l.lined l.set

abbrev pub decreases-loop : goal.decreases-loop
decreases-loop g l = let w = (g.B.TermBook.book l.self.book.now).width in w - size w (marks_of l.lined)
