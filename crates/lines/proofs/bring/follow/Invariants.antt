use Rattle.std.proofs.Common.{◌-◌, map}
use Rattle.marks.specs.Sets.{size}
use Rattle.lines.proofs.Following.{Following, done}
use Rattle.lines.proofs.bring.follow.Given as goal

abbrev pub invariant-loop-m : goal.invariant-loop-m
invariant-loop-m g l = Following l.index (map (g.L.Line.view l.gate) l.lines) l.initial.growth l.growth

abbrev pub decreases-loop-m : goal.decreases-loop-m
decreases-loop-m g l = let w = l.initial.growth.set.width in w - size w (done l.growth)
