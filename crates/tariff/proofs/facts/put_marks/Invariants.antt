use Rattle.std.proofs.Common.{◌-◌, ◌≤◌}
use Rattle.std.specs.List.{flat_map}
use Rattle.marks.specs.MarkSets.{marks_of}
use Rattle.tariff.specs.Facts.{members}
use Rattle.tariff.specs.Numbers.{encode}
use Rattle.tariff.specs.Writings.{Written}
use Rattle.tariff.proofs.facts.put_marks.Given as goal

abbrev pub invariant-loop-m : goal.invariant-loop-m
invariant-loop-m l = (l.at ≤ l.facts.width) × Written l.initial.out l.place (flat_map encode (members l.at (marks_of l.facts))) l.out l.end

abbrev pub decreases-loop-m : goal.decreases-loop-m
decreases-loop-m l = l.facts.width - l.at
