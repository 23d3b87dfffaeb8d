use Rattle.std.proofs.Common.{ap, ◌∙◌, arith}
use Rattle.lines.specs.Slots.{narrow}
use Rattle.lines.proofs.Indexing.{narrow_below, narrow_past}
use Rattle.lines.proofs.Linking.{linked_more, linked_skip}
use Rattle.lines.proofs.index.Index.link.Goals as goal

pub returns-then-m-lt512 : goal.returns-then-m-lt512
returns-then-m-lt512 g c slots at l =
    let old = c.args.self.now in
    let m = c.in-Some.m in
    linked_more slots c.args.slot m old.last old.before (at ∙ narrow_below c.args.mark m c.in-Some.is c.if-m-lt512.true) (omega arith) (omega arith) l

pub returns-else-m-lt512 : goal.returns-else-m-lt512
returns-else-m-lt512 g c slots at l =
    linked_skip slots c.args.slot c.args.self.now.last c.args.self.now.before
    (at ∙ narrow_past c.args.mark c.in-Some.m c.in-Some.is c.if-m-lt512.false) l

pub returns-in_default : goal.returns-in_default
returns-in_default g c slots at l =
    linked_skip slots c.args.slot c.args.self.now.last c.args.self.now.before (at ∙ ap narrow c.in_default.is) l
