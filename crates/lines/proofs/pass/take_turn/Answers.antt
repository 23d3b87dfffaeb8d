use Rattle.std.proofs.Common.{sym}
use Rattle.marks.proofs.Sets.{fails}
use Rattle.lines.proofs.Going.{passes_added}
use Rattle.lines.proofs.pass.take_turn.Goals as goal

pub returns-then-fired : goal.returns-then-fired
returns-then-fired g c =
    passes_added (g.L.Line.view c.args.gate.now c.args.line.now) c.args.growth.now c.add.new.self c.in-Some.m
    (sym (c.in-Some.ensures c.args.gate.now)) (fails (sym c.if-not-contains.ensures)) (sym c.if-fired.ensures) c.add.ensures
