-- What it is for exactly one thing to have a property.
use Rattle.std.specs.Prelude.{◌≡◌}

-- there is exactly one thing of which P holds
pub record ExactlyOne {A : Type 0} (P : A → Type 0) : Type 0 where
  pub it : A
  pub holds : P it
  pub only : (a : A) → P a → a ≡ it
