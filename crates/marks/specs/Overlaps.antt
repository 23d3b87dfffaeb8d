-- How many marks lie in both of two sets, in neither, and in one alone.
use Rattle.std.specs.Prelude.{◌≡◌, ℕ}
use Rattle.marks.specs.declared.overlap.Overlap.{Overlap}
use Rattle.marks.specs.Sets.{Marks, ◌∪◌, ◌∩◌, ◌∖◌, size}

-- counted below n, among the marks of W
pub record Overlaps (n : ℕ) (W S S' : Marks) (o : Overlap) : Type 0 where
  pub both : o.both ≡ size n (S ∩ S')
  pub neither : o.neither ≡ size n (W ∖ (S ∪ S'))
  pub first : o.first ≡ size n (S ∖ S')
  pub second : o.second ≡ size n (S' ∖ S)
