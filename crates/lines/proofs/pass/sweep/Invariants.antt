use Rattle.std.proofs.Common.{length, map}
use Rattle.lines.proofs.Going.{Going}
use Rattle.lines.specs.Agendas.{named}
use Rattle.lines.proofs.pass.sweep.Given as goal

abbrev pub invariant-loop-i : goal.invariant-loop-i
invariant-loop-i g l =
    let vs = map (g.L.Line.view l.gate) l.lines in
    Going (named vs (g.A.Agenda.names l.initial.agenda)) (named vs (g.A.Agenda.names l.agenda)) l.initial.growth l.growth

abbrev pub decreases-loop-i : goal.decreases-loop-i
decreases-loop-i g l = length (g.A.Agenda.names l.agenda)
