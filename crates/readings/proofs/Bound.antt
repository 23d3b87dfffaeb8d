-- The first method comes to rest: a round that changes something has a mark more in T, the first round perhaps aside.
use mathlib.Core.List.{List}
use mathlib.Core.Logic.{◌⊎◌, inl, inr}
use mathlib.Core.Path.{◌≡◌, subst}
use Prim.Native.Nat.{ℕ, suc, ◌<◌, ◌≤◌, zero-le}
use native.Mathlib.Omega.{arith}
use Rattle.marks.specs.Sets.{Marks, ◌⊆◌, size}
use Rattle.readings.specs.Books.{Book}
use Rattle.readings.specs.Rules.{Rule, Fit}
use Rattle.readings.specs.Yields.{Full, Guarded}
use Rattle.readings.specs.Methods.{Run, start, round, FirstRound, first_method}
use Rattle.marks.proofs.Sets.{same_sets}
use Rattle.marks.proofs.Sizes.{size_le}
use Rattle.readings.proofs.Sizes.{same_or_more}
use Rattle.readings.proofs.Closing.{least_unique}
use Rattle.readings.proofs.FirstRounds.{moves}

module _ {B : Book} {lines : List Rule} {facts : Marks} (fit : Fit B lines facts) where
  -- once T stays, U stays
  rest : {T U T' U' : Marks} → Guarded B lines facts T U → FirstRound B lines facts U T' U' → T ≡ T' → (T ≡ T') × (U ≡ U')
  rest {U = U} g r e = (e, least_unique (subst (λ (V : Marks). Guarded B lines facts V U) e g) r.guarded)

  rest_or_more : {k : ℕ} {T U T' U' : Marks} → Run (first_method B lines facts) k T U → FirstRound B lines facts U T' U'
      → ((T ≡ T') × (U ≡ U')) ⊎ (k ≤ size B.width T')
  rest_or_more start r = inr zero-le
  rest_or_more {T = T} {U} {T'} {U'} (round {k = k} {T = T₀} {V = U₀} run r₀) r = go (rest_or_more run r₀) (same_or_more B.width T T' r.full.of_width t)
    where
      t : T ⊆ T'
      t = (moves fit (round run r₀) r).0

      go : ((T₀ ≡ T) × (U₀ ≡ U)) ⊎ (k ≤ size B.width T) → (T' ⊆ T) ⊎ (size B.width T < size B.width T')
          → ((T ≡ T') × (U ≡ U')) ⊎ (suc k ≤ size B.width T')
      go (inl e) q = inl (rest r₀.guarded r (least_unique (subst (λ (V : Marks). Full B lines facts V T) e.1 r₀.full) r.full))
      go (inr h) (inl q) = inl (rest r₀.guarded r (same_sets t q))
      go (inr h) (inr q) = inr (omega arith)

  -- after more rounds than the width nothing changes
  pub rests : {k : ℕ} {T U T' U' : Marks} → B.width < k → Run (first_method B lines facts) k T U
      → FirstRound B lines facts U T' U' → (T ≡ T') × (U ≡ U')
  rests {T' = T'} h run r =
      elim (rest_or_more run r) [
        | inl e ↦ e
        | inr n ↦ let z : ⊥ = omega (arith, size_le B.width T') in absurd z
      ]
