-- The bare book, and the well-founded model of rules without a book, as Van Gelder, Ross and Schlipf defined it in 1991.
use Rattle.std.specs.Prelude.{false, List, ◌⊎◌, ℕ}
use Rattle.marks.specs.Sets.{Marks, ◌∈◌, ◌⊆◌, OfWidth, ◌∪◌}
use Rattle.readings.specs.Books.{Book}
use Rattle.readings.specs.Rules.{Rule, Counts, AllIn, SomeIn}

-- the book that adds nothing and never clashes
abbrev pub bare : ℕ → Book
bare w = record { width = w; closure = λ S. S; clash = λ S. false }

module _ (w : ℕ) (lines : List Rule) (facts : Marks) where
  -- A set X is unfounded at T, F when each rule with its head in X has a condition in F or in X, or an exception in T.
  abbrev pub Unfounded : (T F X : Marks) → Type 0
  Unfounded T F X = (r : Rule) → Counts lines facts r → r.head ∈ X → SomeIn r.conditions (F ∪ X) ⊎ SomeIn r.exceptions T

  -- T has the head of each rule whose conditions are in T and whose exceptions are in F, and F has every unfounded set
  pub record FoundedPair (T F : Marks) : Type 0 where
    pub TOfWidth : OfWidth w T
    pub FOfWidth : OfWidth w F
    pub heads : (r : Rule) → Counts lines facts r → AllIn r.conditions T → AllIn r.exceptions F → r.head ∈ T
    pub unfounded : (X : Marks) → OfWidth w X → Unfounded T F X → X ⊆ F

  -- The well-founded model is the least such pair: T is what is true by it, and F what is false.
  pub record WellFoundedModel (T F : Marks) : Type 0 where
    pub pair : FoundedPair T F
    pub least : (T' F' : Marks) → FoundedPair T' F' → (T ⊆ T') × (F ⊆ F')
