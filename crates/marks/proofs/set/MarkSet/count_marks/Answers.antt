use Rattle.std.proofs.Common.{◌∙◌}
use Rattle.marks.specs.Words.{held}
use Rattle.marks.proofs.Sets.{past_width, fails}
use Rattle.marks.proofs.Sizes.{size_gap}
use Rattle.marks.proofs.set.MarkSet.count_marks.Goals as goal

pub returns : goal.returns
returns c =
    let s = c.args.self.now in
    c.count_held.ensures ∙ size_gap s.width 512 (held s.words) s.few (λ k h l t. fails (past_width s.width (held s.words) s.inside k h) t)
