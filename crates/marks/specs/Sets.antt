-- Sets of marks. A mark is a whole number that stands for one statement about a trip; a set says of each number whether it
-- holds it. A width says how many marks are in use: those below it.
use Rattle.std.specs.Prelude.{ℕ, zero, suc, ◌+◌, ◌<◌, ◌≤◌, Bool, false, cond, not, ◌&&◌, ◌||◌, T, Some, None, Option, ◌==◌, nat_lt, List, [], ◌∷◌}

infix 50 ◌∈◌ ◌⊆◌
infixl 60 ◌∪◌ ◌∩◌ ◌∖◌
abbrev pub Marks : Type 0
Marks = ℕ → Bool

abbrev pub ◌∈◌ : ℕ → Marks → Type 0
◌∈◌ m S = T (S m)

abbrev pub ◌⊆◌ : Marks → Marks → Type 0
◌⊆◌ S S' = (m : ℕ) → m ∈ S → m ∈ S'

abbrev pub no_marks : Marks
no_marks m = false

-- all marks of a width
abbrev pub below : ℕ → Marks
below w m = nat_lt m w

-- the marks of a list
abbrev pub among : List ℕ → Marks
among [] m = false
among (k ∷ ks) m = m == k || among ks m

-- a set of the width w holds no mark at or above it
abbrev pub OfWidth : ℕ → Marks → Type 0
OfWidth w S = S ⊆ below w

abbrev pub with_mark : Marks → ℕ → Marks
with_mark S k m = m == k || S m

abbrev pub without_mark : Marks → ℕ → Marks
without_mark S k m = not (m == k) && S m

abbrev pub ◌∪◌ : Marks → Marks → Marks
◌∪◌ S S' m = S m || S' m

abbrev pub ◌∩◌ : Marks → Marks → Marks
◌∩◌ S S' m = S m && S' m

abbrev pub ◌∖◌ : Marks → Marks → Marks
◌∖◌ S S' m = S m && not (S' m)

-- the marks of the width that the set does not hold
abbrev pub outside : ℕ → Marks → Marks
outside w S = below w ∖ S

-- how many marks below w the set holds
unfoldable pub size : ℕ → Marks → ℕ
size zero S = 0
size (suc w) S = size w S + cond (S w) 1 0

-- m is the lowest mark of S at or after `from`
pub record Lowest (S : Marks) (from m : ℕ) : Type 0 where
  pub after : from ≤ m
  pub held : m ∈ S
  pub first : (k : ℕ) → from ≤ k → k < m → k ∈ S → ⊥

-- the two answers to the question for the next mark of S at or after `from`: there is none, or it is the lowest
abbrev pub Next : Marks → ℕ → Option ℕ → Type 0
Next S from None = (k : ℕ) → from ≤ k → k ∈ S → ⊥
Next S from (Some m) = Lowest S from m
