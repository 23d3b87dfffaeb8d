-- A list ascends in one way at most, so a type may hold that its records are lawful.
use Rattle.std.specs.Prelude.{ℕ, ◌<◌, List, [], ◌∷◌}
use Rattle.std.specs.Coded.{×_prop, Unit-prop, le_prop}
use Rattle.std.specs.List.{AllByRecursion-prop}
use Rattle.lines.specs.Lawful.{Ascends}

pub Ascends-prop : (ms : List ℕ) → IsProp (Ascends ms)
Ascends-prop [] = Unit-prop
Ascends-prop (m ∷ ms) = ×_prop (AllByRecursion-prop (λ k. m < k) (λ k. le_prop) ms) (Ascends-prop ms)
