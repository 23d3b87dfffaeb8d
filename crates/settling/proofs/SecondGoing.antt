-- The second method as a way that goes on until it stops.
use Rattle.std.proofs.Common.{◌≡◌, ℕ, ◌+◌, ◌-◌, ◌<◌, List, sym, ap, ◌∙◌, subst, inl, inr, arith}
use Rattle.marks.specs.Sets.{Marks, ◌⊆◌, no_marks, below, OfWidth, ◌∪◌, outside, size}
use Rattle.marks.proofs.Sets.{same_sets, equal_within, both_inside}
use Rattle.marks.proofs.Sizes.{size_le}
use Rattle.readings.specs.Books.{Book}
use Rattle.readings.specs.Methods.{Run, start, round, SecondRound, second_method, NotRefuted}
use Rattle.readings.specs.Rules.{Rule}
use Rattle.readings.specs.Yields.{LeastClosed}
use Rattle.readings.proofs.Closing.{least_unique}
use Rattle.readings.proofs.Sets.{or_left, less_left}
use Rattle.readings.proofs.Sizes.{size_grows, same_or_more}
use Rattle.settling.proofs.Rounding.{GoingWay}

-- two sets of which one grew
both_more : (w : ℕ) (T F T' F' : Marks) → OfWidth w T' → OfWidth w F' → T ⊆ T' → F ⊆ F' → (T' ≡ T → F' ≡ F → ⊥) → (w - size w T') + (w - size w F') < (w - size w T) + (w - size w F)
both_more w T F T' F' tw fw t f differ =
    let a = size_grows w T T' t in
    let b = size_grows w F F' f in
    let c = size_le w T' in
    let d = size_le w F' in
    elim (same_or_more w T T' tw t) [
      | inr l ↦ omega arith
      | inl g ↦
          elim (same_or_more w F F' fw f) [
            | inr l ↦ omega arith
            | inl h ↦ absurd (differ (same_sets g t) (same_sets h f))
          ]
    ]

module _ (B : Book) (lines : List Rule) (facts : Marks) where
  joined_within : (T F T' F' : Marks) → SecondRound B lines facts T F T' F' → F ⊆ F'
  joined_within T F T' F' r m t = equal_within (sym r.joined) m (or_left (F m) (outside B.width r.Y m) t)

  joined_width : (T F T' F' : Marks) → OfWidth B.width F → SecondRound B lines facts T F T' F' → OfWidth B.width F'
  joined_width T F T' F' f r =
      subst (OfWidth B.width) (sym r.joined) (both_inside B.width F (outside B.width r.Y) f (less_left (below B.width) r.Y))

  FWidth : {k : ℕ} {T F : Marks} → Run (second_method B lines facts) k T F → OfWidth B.width F
  FWidth start = λ m t. absurd t
  FWidth (round {T = T} {V = F} {T' = T'} {V' = F'} run r) = joined_width T F T' F' (FWidth run) r

  second_once : (T F T₁ F₁ T₂ F₂ : Marks) → SecondRound B lines facts T F T₁ F₁ → SecondRound B lines facts T F T₂ F₂ → (T₁ ≡ T₂) × (F₁ ≡ F₂)
  second_once T F T₁ F₁ T₂ F₂ r s =
      let t : T₁ ≡ T₂ = least_unique r.grown s.grown in
      let y : r.Y ≡ s.Y = least_unique (subst (λ (X : Marks). LeastClosed B no_marks (NotRefuted B lines facts F X) r.Y) t r.kept) s.kept in
      (t, r.joined ∙ ap (λ (X : Marks). F ∪ outside B.width X) y ∙ sym s.joined)

  -- what is left to do: the marks not yet in T, and those not yet in F
  pub second_way : GoingWay (second_method B lines facts) B.width (λ T F. (B.width - size B.width T) + (B.width - size B.width F))
  second_way =
      record {
        once = second_once;
        falls = λ k T F T' F' run r differ.
            both_more B.width T F T' F' r.grown.of_width (joined_width T F T' F' (FWidth run) r) r.grown.around (joined_within T F T' F' r) differ;
        start = omega arith;
      }
