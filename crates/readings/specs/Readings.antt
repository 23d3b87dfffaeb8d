-- Readings of facts, with fare lines and a book.
use Rattle.std.specs.Prelude.{List}
use Rattle.marks.specs.Sets.{Marks, ◌⊆◌}
use Rattle.readings.specs.Books.{Book, Clashes}
use Rattle.readings.specs.Rules.{Rule}
use Rattle.readings.specs.Yields.{Full, Guarded}

module _ (B : Book) (lines : List Rule) (facts : Marks) where
  -- A reading is a pair of sets: T, what is certainly so, and U, what is not certainly not so. T is the full yield of U, and U
  -- the guarded yield of T. (For hybrid MKNF these pairs are the fixpoints of the alternating construction.)
  pub record Reading (T U : Marks) : Type 0 where
    pub full : Full B lines facts U T
    pub guarded : Guarded B lines facts T U

  -- The least reading claims least: its T lies within the T of every reading, and its U around every U. (This is the
  -- well-founded partition.)
  pub record LeastReading (T U : Marks) : Type 0 where
    pub reading : Reading T U
    pub least : (T' U' : Marks) → Reading T' U' → (T ⊆ T') × (U' ⊆ U)

  -- A sound reading leaves nothing open: it is one set that is its own full yield, and at which the book does not clash. (This is
  -- a two-valued, or stable, model.)
  pub record Sound (M : Marks) : Type 0 where
    pub full : Full B lines facts M M
    pub no_clash : Clashes B M → ⊥
