use Rattle.marks.specs.MarkSets.{marks_of}
use Rattle.marks.proofs.Sets.{equal_within}
use Rattle.std.proofs.Common.{inl, inr}
use Rattle.readings.proofs.Sets.{less_left}
use Rattle.lines.proofs.growth.Growth.past.Goals as goal

pub invariant_of-result : goal.invariant_of-result
invariant_of-result c =
    elim c.in_ok-subtract.ensures [
      | inl f ↦ absurd f.1.0
      | inr g ↦
          record {
            one_width = g.1.width;
            inside = λ m t. less_left (marks_of c.args.set) (marks_of c.args.done.now) m (equal_within g.1.marks m t);
          }
    ]
