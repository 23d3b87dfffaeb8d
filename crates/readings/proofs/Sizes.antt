-- How many marks a set has, and that a step which only adds marks of the width comes to rest.
use mathlib.Core.Bool.{Bool, true, false, cond}
use mathlib.Core.Logic.{◌⊎◌, inl, inr}
use mathlib.Core.Path.{subst, sym}
use Prim.Native.Nat.{ℕ, zero, suc, ◌<◌, ◌≤◌, zero-le}
use native.Mathlib.Nat.{le_refl, not-suc-le-zero, eq-or-lt_of_le, le_of_suc-le-suc}
use native.Mathlib.Omega.{arith}
use lib.Dec.{T, ltb→lt}
use Rattle.marks.specs.Sets.{Marks, ◌∈◌, ◌⊆◌, OfWidth, size}
use Rattle.readings.proofs.Sets.{within_or_lacks}
use Rattle.marks.proofs.Sizes.{size_le}

bit_grows : (a b : Bool) → (T a → T b) → cond a 1 0 ≤ cond b 1 0
bit_grows true true f = le_refl _
bit_grows true false f = absurd (f tt)
bit_grows false b f = zero-le

bit_more : (a b : Bool) → T b → (T a → ⊥) → cond a 1 0 < cond b 1 0
bit_more true b t n = absurd (n tt)
bit_more false true t n = le_refl _
bit_more false false t n = absurd t

pub size_grows : (w : ℕ) (X Y : Marks) → X ⊆ Y → size w X ≤ size w Y
unfolding size
size_grows zero X Y s = le_refl _
size_grows (suc w) X Y s = omega (arith, size_grows w X Y s, bit_grows (X w) (Y w) (s w))

pub size_more : (w : ℕ) (X Y : Marks) → X ⊆ Y → (m : ℕ) → m < w → m ∈ Y → (m ∈ X → ⊥) → size w X < size w Y
unfolding size
size_more zero X Y s m h t n = absurd (not-suc-le-zero h)
size_more (suc w) X Y s m h t n =
    elim (eq-or-lt_of_le (le_of_suc-le-suc h)) [
      | inl e ↦ omega (arith, size_grows w X Y s, bit_more (X w) (Y w) (subst (λ (j : ℕ). j ∈ Y) e t) (λ x. n (subst (λ (j : ℕ). j ∈ X) (sym e) x)))
      | inr l ↦ omega (arith, size_more w X Y s m l t n, bit_grows (X w) (Y w) (s w))
    ]

-- a set that has grown has more marks
pub same_or_more : (w : ℕ) (X Y : Marks) → OfWidth w Y → X ⊆ Y → (Y ⊆ X) ⊎ (size w X < size w Y)
same_or_more w X Y y s =
    elim (within_or_lacks w Y X y) [
      | inl f ↦ inl f
      | inr l ↦ inr (size_more w X Y s l.0 (ltb→lt l.0 w (y l.0 l.1)) l.1 l.2)
    ]

-- n steps
abbrev pub iterate : (Marks → Marks) → ℕ → Marks → Marks
iterate f zero X = X
iterate f (suc n) X = f (iterate f n X)

-- a step that adds marks of the width alone, and more to a greater set, is at rest after as many steps as the width
module _
    (w : ℕ)
    (f : Marks → Marks)
    (inside : (X : Marks) → OfWidth w X → OfWidth w (f X))
    (adds : (X : Marks) → OfWidth w X → X ⊆ f X)
    (mono : (X Y : Marks) → OfWidth w X → OfWidth w Y → X ⊆ Y → f X ⊆ f Y)
    (A : Marks)
    (a : OfWidth w A)
  where
    pub iterate_width : (n : ℕ) → OfWidth w (iterate f n A)
    iterate_width zero = a
    iterate_width (suc n) = inside (iterate f n A) (iterate_width n)

    pub iterate_around : (n : ℕ) → A ⊆ iterate f n A
    iterate_around zero m t = t
    iterate_around (suc n) m t = adds (iterate f n A) (iterate_width n) m (iterate_around n m t)

    moving : (n : ℕ) → (f (iterate f n A) ⊆ iterate f n A) ⊎ (n < size w (f (iterate f n A)))
    moving zero = elim (same_or_more w A (f A) (inside A a) (adds A a)) [ inl s ↦ inl s | inr q ↦ inr (omega arith) ]
    moving (suc n) =
        let X = iterate f n A in
        let x = iterate_width n in
        elim (moving n) [
          | inl s ↦ inl (mono (f X) X (inside X x) x s)
          | inr h ↦ elim (same_or_more w (f X) (f (f X)) (inside (f X) (inside X x)) (adds (f X) (inside X x))) [ inl s ↦ inl s | inr q ↦ inr (omega arith) ]
        ]

    pub at_rest : f (iterate f w A) ⊆ iterate f w A
    at_rest =
        elim (moving w) [
          | inl s ↦ s
          | inr h ↦ let n = size_le w (f (iterate f w A)) in let z : ⊥ = omega arith in absurd z
        ]
