use Rattle.std.proofs.Common.{ℕ, ◌<◌, get_or, take}
use Rattle.marks.specs.MarkSets.{IsSet}
use Rattle.marks.specs.Sets.{among}
use Rattle.marks.proofs.set.MarkSet.fill.Given as goal

abbrev pub invariant-loop-m : goal.invariant-loop-m
invariant-loop-m l = record {
  is_set : IsSet l.self l.initial.self.width (among (take l.m-index l.marks));
  lie_below : (k : ℕ) → k < l.m-index → get_or l.marks k 0 < l.initial.self.width;
}
