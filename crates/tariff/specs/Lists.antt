-- Lists of marks in bytes: they ascend strictly, below the width.
use Rattle.std.specs.Prelude.{ℕ, ◌+◌, ◌-◌, ◌<◌, ◌≤◌, List, [], ◌∷◌, Result}
use Rattle.tariff.specs.declared.fault.NumberFault.{NumberFault}
use Rattle.tariff.specs.Readings.{many, number_at}

-- marks below w that ascend strictly, the first of them not below least
abbrev pub Ascending : ℕ → ℕ → List ℕ → Type 0
Ascending w least [] = Unit {0}
Ascending w least (m ∷ ms) = (least ≤ m) × (m < w) × Ascending w (m + 1) ms

-- what a mark behind these must not lie below
abbrev pub least_behind : ℕ → List ℕ → ℕ
least_behind least [] = least
least_behind least (m ∷ ms) = least_behind (m + 1) ms

-- a mark below the width, not below least
abbrev pub mark_at : ℕ → List ℕ → ℕ → ℕ → Result (ℕ × ℕ) NumberFault
mark_at w bs least p = number_at 0 (w - 1) least bs p

-- k marks below the width, the first of them not below least and each above the one before
abbrev pub marks_at : ℕ → List ℕ → ℕ → ℕ → ℕ → Result (List ℕ × ℕ) NumberFault
marks_at w bs = many (mark_at w bs) (λ m _. m + 1)
