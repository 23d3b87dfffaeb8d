-- Term books and their laws. A term book is an ontology that is seen only through what follows from it: of each set of marks
-- it says what else is then so, and whether the set contradicts it.
use Rattle.std.specs.Prelude.{Bool, ◌≡◌, ℕ, T}
use Rattle.marks.specs.Sets.{Marks, ◌⊆◌, below, OfWidth, with_mark}

pub record Book : Type 0 where
  -- how many marks are in use
  pub width : ℕ
  -- all that is so where the marks of the set are
  pub closure : Marks → Marks
  -- whether the set contradicts the book
  pub clash : Marks → Bool

abbrev pub Clashes : Book → Marks → Type 0
Clashes B S = T (B.clash S)

-- the book denies a mark at S when it clashes at S with that mark added
abbrev pub Denied : Book → Marks → ℕ → Type 0
Denied B S m = Clashes B (with_mark S m)

-- the set is its own closure
abbrev pub Closed : Book → Marks → Type 0
Closed B S = B.closure S ≡ S

-- The laws that every book keeps. They speak of the sets of its width alone: what a book says of other sets counts nowhere.
pub record Lawful (B : Book) : Type 0 where
  -- the closure of a set of the width is a set of the width
  pub of_width : (S : Marks) → OfWidth B.width S → OfWidth B.width (B.closure S)
  -- a set lies within its closure
  pub extensive : (S : Marks) → OfWidth B.width S → S ⊆ B.closure S
  -- a greater set has a greater closure
  pub monotone : (S S' : Marks) → OfWidth B.width S → OfWidth B.width S' → S ⊆ S' → B.closure S ⊆ B.closure S'
  -- the closure is its own closure
  pub idempotent : (S : Marks) → OfWidth B.width S → Closed B (B.closure S)
  -- a set around one at which the book clashes is another
  pub clash_grows : (S S' : Marks) → OfWidth B.width S → OfWidth B.width S' → S ⊆ S' → Clashes B S → Clashes B S'
  -- a book that clashes at the closure of a set clashes at the set
  pub clash_comes_back : (S : Marks) → OfWidth B.width S → Clashes B (B.closure S) → Clashes B S
  -- from a clash everything follows: the closure is all marks
  pub clash_gives_all : (S : Marks) → OfWidth B.width S → Clashes B S → B.closure S ≡ below B.width
