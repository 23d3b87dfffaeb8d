use Rattle.std.proofs.Common.{sym, ◌∙◌, subst}
use Rattle.marks.specs.MarkSets.{marks_of}
use Rattle.marks.specs.Sets.{◌⊆◌}
use Rattle.marks.proofs.Sets.{equal_within}
use Rattle.std.proofs.Common.{Some, ℕ}
use Rattle.lines.specs.Passes.{with_head}
use Rattle.lines.proofs.Growths.{inserted, head_within_head}
use Rattle.lines.proofs.growth.Growth.add.Goals as goal

pub invariant_of-self : goal.invariant_of-self
invariant_of-self c =
    let old = c.args.self.now in
    let S = marks_of old.set in
    let F = marks_of old.fresh in
    let set = inserted c.args.m c.insert.result c.insert.ensures in
    let fresh = inserted c.args.m c.insert-2.result c.insert-2.ensures in
    record {
      one_width = fresh.width ∙ old.one_width ∙ sym set.width;
      inside = λ k t.
          equal_within (sym set.marks) k
          (head_within_head old.set.width c.args.m F S old.inside k
          (subst (λ (w : ℕ). with_head w (Some c.args.m) F ⊆ with_head old.set.width (Some c.args.m) F) (sym old.one_width) (λ j u. u) k (equal_within fresh.marks k t)));
    }
