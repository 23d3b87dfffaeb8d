use Rattle.std.proofs.Common.{◌≡◌, map, take}
use Rattle.marks.specs.MarkSets.{marks_of, IsSet}
use Rattle.world_book.specs.Worlds.{none_holds, common}
use Rattle.world_book.proofs.worlds.common_marks.Given as goal

abbrev pub invariant-loop-world : goal.invariant-loop-world
invariant-loop-world l =
    IsSet l.set l.given.width (common l.given.width (map marks_of (take l.world-index l.worlds)) (marks_of l.given))
    × (l.none ≡ none_holds l.given.width (map marks_of (take l.world-index l.worlds)) (marks_of l.given))
