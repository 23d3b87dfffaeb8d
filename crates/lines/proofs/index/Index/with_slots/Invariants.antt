use Rattle.std.proofs.Common.{◌≡◌, ℕ, ◌<◌, get_or}
use Rattle.marks.specs.MarkSets.{marks_of}
use Rattle.marks.specs.Sets.{◌∈◌}
use Rattle.lines.proofs.index.Index.with_slots.Given as goal

abbrev pub invariant-loop-m : goal.invariant-loop-m
invariant-loop-m g l = (l.marked.width ≡ l.fn.first.width) × ((k : ℕ) → k < l.m → 0 < get_or l.self.last k 0 → k ∈ marks_of l.marked)
