use Rattle.std.proofs.Common.{◌≡◌, ◌-◌, ◌*◌, ◌≤◌, length}
use Rattle.std.specs.List.{flat_map}
use Rattle.marks.specs.MarkSets.{marks_of}
use Rattle.tariff.specs.Facts.{members}
use Rattle.tariff.specs.Numbers.{encode}
use Rattle.tariff.proofs.facts.marks_size.Given as goal

abbrev pub invariant-loop-m : goal.invariant-loop-m
invariant-loop-m l = (l.at ≤ l.facts.width) × (l.total ≡ length (flat_map encode (members l.at (marks_of l.facts)))) × (l.total ≤ 3 * l.at)

abbrev pub decreases-loop-m : goal.decreases-loop-m
decreases-loop-m l = l.facts.width - l.at
