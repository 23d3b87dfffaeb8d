use Rattle.std.proofs.Common.{◌*◌, map}
use Rattle.lines.specs.Slots.{Linked}
use Rattle.lines.specs.Passes.{conditions_of}
use Rattle.lines.proofs.Indexing.{slots_of}
use Rattle.lines.proofs.index.Index.link_all.Given as goal

abbrev pub invariant-loop-i : goal.invariant-loop-i
invariant-loop-i g l =
    (gate : g.row.G.Denot) → Linked (slots_of (conditions_of (map (g.L.Line.view gate) l.lines))) (8 * l.i) l.self.last l.self.before
