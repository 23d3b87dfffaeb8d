-- The meaning of a world book. A world is a set of marks that can be all that is so; a world holds a set when the set lies within
-- it.
use Rattle.std.specs.Prelude.{◌≡◌, ℕ, zero, suc, Bool, true, false, not, ◌&&◌, ◌||◌, List, [], ◌∷◌}
use Rattle.std.specs.List.{All}
use Rattle.marks.specs.declared.set.MarkSet.{MarkSet}
use Rattle.marks.specs.Sets.{Marks, below, ◌∩◌}
use Rattle.readings.specs.Books.{Book}

-- each of the sets has the width w
abbrev pub AllOfWidth : ℕ → List MarkSet → Type 0
AllOfWidth w sets = All (λ s. s.width ≡ w) sets

-- whether each mark of S below w is one of W
abbrev pub lies_within : ℕ → Marks → Marks → Bool
lies_within zero S W = true
lies_within (suc w) S W = (not (S w) || W w) && lies_within w S W

-- whether none of the worlds holds S
abbrev pub none_holds : ℕ → List Marks → Marks → Bool
none_holds w [] S = true
none_holds w (W ∷ Ws) S = not (lies_within w S W) && none_holds w Ws S

-- what is left of X where the world holds the set: what it has too; else all
abbrev pub kept : Bool → Marks → Marks → Marks
kept true W X = X ∩ W
kept false W X = X

-- the marks common to all worlds that hold S: all marks of the width where none does
abbrev pub common : ℕ → List Marks → Marks → Marks
common w [] S = below w
common w (W ∷ Ws) S = kept (lies_within w S W) W (common w Ws S)

-- The book clashes at S exactly where no world holds S. The closure is then all marks, and else the marks common to all worlds
-- that hold S.
abbrev pub world_book : ℕ → List Marks → Book
world_book w worlds = record { width = w; closure = common w worlds; clash = none_holds w worlds }
