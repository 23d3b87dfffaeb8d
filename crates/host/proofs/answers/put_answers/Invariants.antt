use Rattle.std.proofs.Common.{◌-◌, ◌<◌}
use Rattle.marks.specs.MarkSets.{marks_of}
use Rattle.marks.specs.Sets.{◌∈◌}
use Rattle.host.specs.Steps.{Answered}
use Rattle.host.proofs.answers.put_answers.Given as goal

abbrev pub invariant-loop-m : goal.invariant-loop-m
invariant-loop-m l =
    Answered (λ m. (m < l.at) × (m ∈ marks_of l.marks)) (marks_of l.reading.lower) (marks_of l.reading.upper) l.initial.out l.out

abbrev pub decreases-loop-m : goal.decreases-loop-m
decreases-loop-m l = l.marks.width - l.at
