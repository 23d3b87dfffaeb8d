-- A book with denials laid on it: lists of marks that are never all so together.
use Rattle.std.specs.Prelude.{ℕ, Bool, true, false, ◌||◌, List, [], ◌∷◌}
use Rattle.marks.specs.Sets.{Marks, below}
use Rattle.readings.specs.Books.{Book}
use Rattle.readings.specs.Computed.{has_all}

-- whether the set has all marks of one of the lists
abbrev pub some_stands : List (List ℕ) → Marks → Bool
some_stands [] S = false
some_stands (ms ∷ rest) S = has_all ms S || some_stands rest S

-- all marks of the width where there is a clash, and else the set
abbrev pub all_where : Bool → ℕ → Marks → Marks
all_where true w S = below w
all_where false w S = S

-- It clashes exactly where the book below does, or the closure below has all marks of a denial. The closure is then all marks,
-- and else the closure below.
abbrev pub denying : Book → List (List ℕ) → Book
denying B denials =
    record {
      width = B.width;
      closure = λ S. all_where (B.clash S || some_stands denials (B.closure S)) B.width (B.closure S);
      clash = λ S. B.clash S || some_stands denials (B.closure S);
    }
