use Rattle.std.proofs.Common.{ℕ, ◌-◌, ◌<◌, ◌≤◌}
use Rattle.marks.specs.Sets.{◌∈◌}
use Rattle.marks.specs.Words.{held}
use Rattle.marks.proofs.set.MarkSet.next_mark.Given as goal

abbrev pub invariant-loop-from : goal.invariant-loop-from
invariant-loop-from l = (l.at ≤ l.from) × ((k : ℕ) → l.at ≤ k → k < l.from → k ∈ held l.self.words → ⊥)

abbrev pub decreases-loop-from : goal.decreases-loop-from
decreases-loop-from l = l.self.width - l.from
