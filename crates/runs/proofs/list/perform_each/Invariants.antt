use Rattle.runs.proofs.Listing.{SoFar}
use Rattle.runs.proofs.list.perform_each.Given as goal

abbrev pub invariant-loop-i : goal.invariant-loop-i
invariant-loop-i g l =
    SoFar (g.B.TermBook.book l.book) l.lines l.initial.sheet.facts.width l.calls l.initial.replies l.replies l.i l.sheet
