use Rattle.std.proofs.Common.{◌≡◌, take}
use Rattle.std.specs.List.{AllByRecursion}
use Rattle.marks.specs.MarkSets.{marks_of}
use Rattle.marks.specs.Sets.{◌⊆◌}
use Rattle.settling.specs.Denials.{HeadIn}
use Rattle.settling.proofs.trip.Trip.all_heads.Given as goal

abbrev pub invariant-loop-line : goal.invariant-loop-line
invariant-loop-line g l =
    (l.heads.width ≡ l.self.facts.now.width)
    × (marks_of l.self.facts.now ⊆ marks_of l.heads)
    × AllByRecursion (HeadIn l.self.facts.now.width (marks_of l.heads)) (take l.line-index l.self.lines.now)
