use Rattle.std.proofs.Common.{◌-◌, ◌≤◌}
use denote.Text.{Utf8}
use denote.Shadow.{shadow}
use Rattle.texts.proofs.listed.ListedDisplay.fmt.Given as goal

abbrev pub invariant-loop-m : goal.invariant-loop-m
invariant-loop-m g l = shadow (Utf8 l.gap) × (l.at ≤ l.self.0.now.width)

abbrev pub decreases-loop-m : goal.decreases-loop-m
decreases-loop-m g l = l.self.0.now.width - l.at
