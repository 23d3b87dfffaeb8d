-- What is proved of world books. The statement stands in the contract of a function of src/theorems.rt, so its proof is asked
-- for.
use Rattle.std.specs.Prelude.{◌≡◌, ℕ, ◌↔◌, List, []}
use mathlib.Core.List.{Memᴰ}
use Rattle.marks.specs.Sets.{Marks, ◌∈◌, ◌⊆◌, below, OfWidth}
use Rattle.readings.specs.Books.{Lawful, Clashes}
use Rattle.world_book.specs.declared.book.WorldBook.{WorldBook}
use Rattle.world_book.specs.Worlds.{world_book}
use Rattle.world_book.specs.WorldBooks.{meaning, IsWorldBook}

-- what the book says of one set
pub record WorldBookSays (w : ℕ) (worlds : List Marks) (S : Marks) : Type 0 where
  -- it clashes exactly when no world holds the set
  pub clashes : Clashes (world_book w worlds) S ↔ ((W : Marks) → Memᴰ W worlds → S ⊆ W → ⊥)
  -- the closure is then all marks
  pub all : Clashes (world_book w worlds) S → (world_book w worlds).closure S ≡ below w
  -- and else the marks common to all worlds that hold the set
  pub common : (Clashes (world_book w worlds) S → ⊥) → (m : ℕ) → (m ∈ (world_book w worlds).closure S) ↔ ((W : Marks) → Memᴰ W worlds → S ⊆ W → m ∈ W)

pub record WorldBooksSay : Type 0 where
  -- for all worlds of a width, in whatever order, and every set of that width
  pub says : (w : ℕ) (worlds : List Marks) → ((W : Marks) → Memᴰ W worlds → OfWidth w W) → (S : Marks) → OfWidth w S → WorldBookSays w worlds S
  -- such a book keeps the laws
  pub lawful : (w : ℕ) (worlds : List Marks) → Lawful (world_book w worlds)
  -- without worlds the book clashes at every set and closes it to all marks
  pub clashes_unfilled : (w : ℕ) (S : Marks) → Clashes (world_book w []) S
  pub all_unfilled : (w : ℕ) (S : Marks) → (world_book w []).closure S ≡ below w
  -- a book filled with these worlds means the world book on them
  pub means : (b : WorldBook) (w : ℕ) (worlds : List Marks) → IsWorldBook b w worlds → meaning b ≡ world_book w worlds
