use Rattle.std.proofs.Common.{◌-◌, ◌≤◌}
use Rattle.marks.specs.MarkSets.{marks_of, IsSet}
use Rattle.settling.specs.Denials.{denied_below, CleanAround}
use Rattle.settling.proofs.deny.denied_among.Given as goal

abbrev pub invariant-loop-m : goal.invariant-loop-m
invariant-loop-m g l =
    (l.from ≤ l.tried.width)
    × IsSet l.denied (g.B.TermBook.book l.book).width (denied_below (g.B.TermBook.book l.book) (marks_of l.at) (marks_of l.tried) l.from)
    × CleanAround (g.B.TermBook.book l.book) (marks_of l.at) l.group

abbrev pub decreases-loop-m : goal.decreases-loop-m
decreases-loop-m g l = l.tried.width - l.from
