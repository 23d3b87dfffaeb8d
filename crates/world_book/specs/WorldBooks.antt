-- What a world book in memory means, and what a fill may leave of it.
use Rattle.std.specs.Prelude.{◌≡◌, ℕ, List, map}
use Rattle.marks.specs.MarkSets.{marks_of}
use Rattle.marks.specs.Sets.{Marks}
use Rattle.readings.specs.Books.{Book}
use Rattle.world_book.specs.declared.book.WorldBook.{WorldBook}
use Rattle.world_book.specs.Worlds.{world_book}

abbrev pub worlds_of : WorldBook → List Marks
worlds_of b = map marks_of b.worlds

abbrev pub meaning : WorldBook → Book
meaning b = world_book b.width (worlds_of b)

-- b is the world book of the width w on these worlds
pub record IsWorldBook (b : WorldBook) (w : ℕ) (Ws : List Marks) : Type 0 where
  pub width : b.width ≡ w
  pub worlds : worlds_of b ≡ Ws

-- a book that a call left as it was
pub record SameBook (before after : WorldBook) : Type 0 where
  pub width : after.width ≡ before.width
  pub worlds : after.worlds ≡ before.worlds
