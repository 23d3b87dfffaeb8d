use Rattle.std.proofs.Common.{◌∙◌, not, eqb}
use Rattle.marks.specs.MarkSets.{marks_of}
use Rattle.marks.proofs.Sets.{equal_within}
use Rattle.readings.proofs.Sets.{right}
use Rattle.lines.proofs.Growths.{removed}
use Rattle.lines.proofs.growth.Growth.take.Goals as goal

pub invariant_of-self : goal.invariant_of-self
invariant_of-self c =
    let old = c.args.self.now in
    let m = c.in_ok-m.m in
    let is = removed m c.remove.result c.remove.ensures c.in_ok-m.ensures.within in
    record {
      one_width = is.width ∙ old.one_width;
      inside = λ k t. old.inside k (right (not (eqb k m)) (marks_of old.fresh k) (equal_within is.marks k t));
    }
