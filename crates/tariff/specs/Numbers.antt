-- Numbers as bytes: groups of seven bits, the lowest first, with the top bit set on every byte but the last (unsigned LEB128),
-- in the shortest form. Here a number is at most 65,535 and takes at most three bytes.
use Rattle.std.specs.Prelude.{◌≡◌, ℕ, ◌+◌, ◌*◌, ◌/◌, ◌%◌, ◌<◌, ◌≤◌, cond, List, [], ◌∷◌, ◌++◌, length, nat_lt}
use Rattle.std.specs.List.{AllByRecursion}

abbrev pub Bytes : List ℕ → Type 0
Bytes bs = AllByRecursion (λ b. b < 256) bs

-- what bytes spell: their groups of seven bits, the lowest first
abbrev pub spelled : List ℕ → ℕ
spelled [] = 0
spelled (b ∷ bs) = b % 128 + 128 * spelled bs

-- the bytes of one number: the top bit is set on every byte but the last
abbrev pub Finished : List ℕ → Type 0
Finished [] = ⊥
Finished (b ∷ []) = b < 128
Finished (b ∷ c ∷ bs) = (128 ≤ b) × Finished (c ∷ bs)

-- ds is the shortest form of n
pub record Spells (ds : List ℕ) (n : ℕ) : Type 0 where
  pub finished : Finished ds
  pub value : spelled ds ≡ n
  pub shortest : (es : List ℕ) → Finished es → spelled es ≡ n → length ds ≤ length es

-- the shortest form of a number up to 65,535
abbrev pub encode : ℕ → List ℕ
encode n =
    cond (nat_lt n 128) (n ∷ [])
    (cond (nat_lt n 16384) ((n % 128 + 128) ∷ (n / 128) ∷ []) ((n % 128 + 128) ∷ (n / 128 % 128 + 128) ∷ (n / 16384) ∷ []))

-- the bytes begin with the shortest form of n
pub record Begins (n : ℕ) (bs : List ℕ) : Type 0 where
  pub small : n ≤ 65535
  pub rest : List ℕ
  pub front : bs ≡ encode n ++ rest
