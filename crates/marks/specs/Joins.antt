-- How two sets are joined.
use Rattle.std.specs.Prelude.{◌≡◌, ℕ, ◌<◌, ◌^◌, Bool, false}
use Rattle.marks.specs.Sets.{Marks}
use Rattle.marks.specs.Words.{bit}

-- mark by mark, by whether the one holds it and whether the other does
abbrev pub joined : (Bool → Bool → Bool) → Marks → Marks → Marks
joined on S S' m = on (S m) (S' m)

-- an operation on words that does `on` with each bit, and makes no mark of none
pub record BitOp : Type 0 where
  pub word : ℕ → ℕ → ℕ
  pub on : Bool → Bool → Bool
  pub bits : (a b k : ℕ) → a < 2 ^ 64 → b < 2 ^ 64 → k < 64 → bit (word a b) k ≡ on (bit a k) (bit b k)
  pub none : on false false ≡ false

-- a closure, told by what it may give for two words, computes `word`
abbrev pub Computes : (ℕ → ℕ → ℕ → Type 0) → (ℕ → ℕ → ℕ) → Type 0
Computes gives word = (a b r : ℕ) → a < 2 ^ 64 → b < 2 ^ 64 → gives a b r → r ≡ word a b
