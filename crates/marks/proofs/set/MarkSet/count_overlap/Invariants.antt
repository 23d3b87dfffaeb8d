use Rattle.std.proofs.Common.{◌*◌}
use Rattle.marks.specs.Overlaps.{Overlaps}
use Rattle.marks.specs.Sets.{below}
use Rattle.marks.specs.Words.{held}
use Rattle.marks.proofs.set.MarkSet.count_overlap.Given as goal

abbrev pub invariant-loop-i : goal.invariant-loop-i
invariant-loop-i l = Overlaps (64 * l.i) (below l.self.width) (held l.self.words) (held l.other.words) l.total
