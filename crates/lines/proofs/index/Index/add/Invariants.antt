use Rattle.std.proofs.Common.{◌≡◌, ℕ, ◌+◌, ◌*◌, ◌<◌, Option}
use Rattle.lines.specs.Slots.{slot_at, Linked}
use Rattle.lines.proofs.index.Index.add.Given as goal

abbrev pub invariant-loop-j : goal.invariant-loop-j
invariant-loop-j g l =
    (gate : g.row.G.Denot) (slots : ℕ → Option ℕ)
    → ((j : ℕ) → j < 8 → slots (8 * l.i + j) ≡ slot_at (g.L.Line.view gate l.line).conditions j)
    → Linked slots (8 * l.i) l.initial.self.last l.initial.self.before
    → Linked slots (8 * l.i + l.j) l.self.last l.self.before
