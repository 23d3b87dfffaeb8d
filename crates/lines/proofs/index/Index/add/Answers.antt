use Rattle.std.proofs.Common.{ℕ, ◌+◌, ◌*◌, sym, ap, ◌∙◌, subst, arith}
use Rattle.lines.specs.Slots.{narrow, Linked}
use Rattle.lines.proofs.index.Index.add.Goals as goal

pub loop-j-preserved : goal.loop-j-preserved
loop-j-preserved g c gate slots at l =
    let j = c.loop-j.j in
    let n = 8 * c.args.i + j in
    let here = at j c.loop-j-test.true ∙ ap narrow (sym (c.condition.ensures gate)) in
    subst (λ (k : ℕ). Linked slots k c.link.new.self.last c.link.new.self.before) (omega arith)
    (c.link.ensures slots here (c.loop-j.invariant gate slots at l))

pub returns : goal.returns
returns g c gate slots at l =
    subst (λ (k : ℕ). Linked slots k c.loop-j.self.last c.loop-j.self.before) (omega arith) (c.loop-j.invariant gate slots at l)
