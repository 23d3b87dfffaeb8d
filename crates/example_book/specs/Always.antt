-- The meaning of the example: the marks of A hold wherever anything is said, and nothing clashes.
use Rattle.std.specs.Prelude.{false, ℕ}
use Rattle.marks.specs.Sets.{Marks, ◌∪◌}
use Rattle.readings.specs.Books.{Book}

abbrev pub always : ℕ → Marks → Book
always w A = record { width = w; closure = λ S. S ∪ A; clash = λ S. false }
