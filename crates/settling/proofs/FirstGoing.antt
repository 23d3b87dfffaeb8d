-- The first method as a way that goes on until it stops.
use Rattle.std.proofs.Common.{◌≡◌, ℕ, ◌+◌, ◌-◌, ◌<◌, List, subst, inl, inr, arith}
use Rattle.marks.specs.Sets.{Marks, ◌⊆◌, below, OfWidth, size}
use Rattle.marks.proofs.Sets.{same_sets}
use Rattle.marks.proofs.Sizes.{size_le}
use Rattle.readings.specs.Books.{Book}
use Rattle.readings.specs.Methods.{FirstRound, first_method}
use Rattle.readings.specs.Rules.{Rule, Fit}
use Rattle.readings.specs.Yields.{Guarded}
use Rattle.readings.proofs.Closing.{least_unique}
use Rattle.readings.proofs.FirstRounds.{moves, UWidth}
use Rattle.readings.proofs.Sizes.{size_grows, same_or_more}
use Rattle.settling.proofs.Rounding.{GoingWay}

-- two sets of which one grew or the other shrank
moved : (w : ℕ) (T U T' U' : Marks) → OfWidth w T' → OfWidth w U → T ⊆ T' → U' ⊆ U → (T' ≡ T → U' ≡ U → ⊥) → size w U' + (w - size w T') < size w U + (w - size w T)
moved w T U T' U' tw uw t u differ =
    let a = size_grows w T T' t in
    let b = size_grows w U' U u in
    let c = size_le w T' in
    elim (same_or_more w T T' tw t) [
      | inr l ↦ omega arith
      | inl f ↦
          elim (same_or_more w U' U uw u) [
            | inr l ↦ omega arith
            | inl g ↦ absurd (differ (same_sets f t) (same_sets u g))
          ]
    ]

module _ (B : Book) (lines : List Rule) (facts : Marks) (fit : Fit B lines facts) where
  first_once : (T U T₁ U₁ T₂ U₂ : Marks) → FirstRound B lines facts U T₁ U₁ → FirstRound B lines facts U T₂ U₂ → (T₁ ≡ T₂) × (U₁ ≡ U₂)
  first_once T U T₁ U₁ T₂ U₂ r s =
      let t : T₁ ≡ T₂ = least_unique r.full s.full in
      (t, least_unique (subst (λ (X : Marks). Guarded B lines facts X U₁) t r.guarded) s.guarded)

  -- what is left to do: the marks still in U, and those not yet in T
  pub first_way : GoingWay (first_method B lines facts) B.width (λ T U. size B.width U + (B.width - size B.width T))
  first_way =
      record {
        once = first_once;
        falls = λ k T U T' U' run r differ. moved B.width T U T' U' r.full.of_width (UWidth run) (moves fit run r).0 (moves fit run r).1 differ;
        start = let a = size_le B.width (below B.width) in omega arith;
      }
