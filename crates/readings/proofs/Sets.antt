-- Sets of marks: their operations mark by mark, equality by inclusion both ways, and what can be decided of them.
use mathlib.Core.Bool.{Bool, true, false, ◌||◌, ◌&&◌, not}
use mathlib.Core.Logic.{◌⊎◌, inl, inr}
use mathlib.Core.Path.{◌≡◌, subst, sym}
use Prim.Native.Nat.{ℕ, zero, suc, ◌<◌}
use native.Mathlib.Nat.{not-suc-le-zero, eq-or-lt_of_le, le_of_suc-le-suc}
use lib.Dec.{T, eqb, eqb→eq, eqb_refl, ltb→lt, T_not, not_T}
use Rattle.marks.specs.Sets.{Marks, ◌∈◌, ◌⊆◌, below, OfWidth, with_mark, ◌∪◌, ◌∩◌, ◌∖◌, outside}

-- two tests

pub both : (a b : Bool) → T a → T b → T (a && b)
both true b s t = t
both false b s t = s

pub left : (a b : Bool) → T (a && b) → T a
left true b t = tt
left false b t = t

pub right : (a b : Bool) → T (a && b) → T b
right true b t = t
right false b t = absurd t

pub or_left : (a b : Bool) → T a → T (a || b)
or_left true b t = tt
or_left false b t = absurd t

pub or_right : (a b : Bool) → T b → T (a || b)
or_right true b t = tt
or_right false b t = t

pub or_cases : (a b : Bool) → T (a || b) → T a ⊎ T b
or_cases true b t = inl tt
or_cases false b t = inr t

pub decide : (b : Bool) → T b ⊎ (T b → ⊥)
decide true = inl tt
decide false = inr (λ t. t)

-- sets

pub meet_left : (X Y : Marks) → X ∩ Y ⊆ X
meet_left X Y m = left (X m) (Y m)

pub meet_right : (X Y : Marks) → X ∩ Y ⊆ Y
meet_right X Y m = right (X m) (Y m)

pub join_within : (X Y Z : Marks) → X ⊆ Z → Y ⊆ Z → X ∪ Y ⊆ Z
join_within X Y Z x y m t = elim (or_cases (X m) (Y m) t) [ inl h ↦ x m h | inr h ↦ y m h ]

pub less_in : (X Y : Marks) (m : ℕ) → m ∈ X → (m ∈ Y → ⊥) → m ∈ (X ∖ Y)
less_in X Y m x y = both (X m) (not (Y m)) x (not_T (Y m) y)

pub less_left : (X Y : Marks) → X ∖ Y ⊆ X
less_left X Y m = left (X m) (not (Y m))

pub less_out : (X Y : Marks) (m : ℕ) → m ∈ (X ∖ Y) → m ∈ Y → ⊥
less_out X Y m t = T_not (Y m) (right (X m) (not (Y m)) t)

-- what is not outside is in
pub not_outside : (w : ℕ) (S : Marks) (m : ℕ) → m ∈ below w → (m ∈ outside w S → ⊥) → m ∈ S
not_outside w S m b n = elim (decide (S m)) [ inl t ↦ t | inr f ↦ absurd (n (less_in (below w) S m b f)) ]

pub outside_twice : (w : ℕ) (S : Marks) → outside w (outside w S) ⊆ S
outside_twice w S m t = not_outside w S m (less_left (below w) (outside w S) m t) (less_out (below w) (outside w S) m t)

-- a set with one mark more

pub with_cases : (S : Marks) (k m : ℕ) → m ∈ with_mark S k → (m ≡ k) ⊎ (m ∈ S)
with_cases S k m t = elim (or_cases (eqb m k) (S m) t) [ inl e ↦ inl (eqb→eq m k e) | inr h ↦ inr h ]

pub with_within : (S S' : Marks) (k : ℕ) → k ∈ S' → S ⊆ S' → with_mark S k ⊆ S'
with_within S S' k h s m t = elim (with_cases S k m t) [ inl e ↦ subst (λ (j : ℕ). j ∈ S') (sym e) h | inr u ↦ s m u ]

pub with_old : (S : Marks) (k : ℕ) → S ⊆ with_mark S k
with_old S k m t = or_right (eqb m k) (S m) t

pub with_new : (S : Marks) (k : ℕ) → k ∈ with_mark S k
with_new S k = or_left (eqb k k) (S k) (eqb_refl k)

pub with_grows : (S S' : Marks) (k : ℕ) → S ⊆ S' → with_mark S k ⊆ with_mark S' k
with_grows S S' k s = with_within S (with_mark S' k) k (with_new S' k) (λ m t. with_old S' k m (s m t))

-- a set of the width lies within another, or has a mark that the other lacks

within_or_lacks_below : (w : ℕ) (X Y : Marks) → ((m : ℕ) → m < w → m ∈ X → m ∈ Y) ⊎ ((m : ℕ) × (m ∈ X) × (m ∈ Y → ⊥))
within_or_lacks_below zero X Y = inl (λ m h. absurd (not-suc-le-zero h))
within_or_lacks_below (suc w) X Y = go (within_or_lacks_below w X Y) (decide (X w)) (decide (Y w))
  where
    more : ((m : ℕ) → m < w → m ∈ X → m ∈ Y) → (w ∈ X → w ∈ Y) → (m : ℕ) → m < suc w → m ∈ X → m ∈ Y
    more f g m h t =
        elim (eq-or-lt_of_le (le_of_suc-le-suc h)) [
          | inl e ↦ subst (λ (j : ℕ). j ∈ Y) (sym e) (g (subst (λ (j : ℕ). j ∈ X) e t))
          | inr l ↦ f m l t
        ]

    go : ((m : ℕ) → m < w → m ∈ X → m ∈ Y) ⊎ ((m : ℕ) × (m ∈ X) × (m ∈ Y → ⊥)) → (w ∈ X) ⊎ (w ∈ X → ⊥) → (w ∈ Y) ⊎ (w ∈ Y → ⊥)
        → ((m : ℕ) → m < suc w → m ∈ X → m ∈ Y) ⊎ ((m : ℕ) × (m ∈ X) × (m ∈ Y → ⊥))
    go (inr l) x y = inr l
    go (inl f) (inr x) y = inl (more f (λ t. absurd (x t)))
    go (inl f) (inl x) (inl y) = inl (more f (λ t. y))
    go (inl f) (inl x) (inr y) = inr (w, x, y)

pub within_or_lacks : (w : ℕ) (X Y : Marks) → OfWidth w X → (X ⊆ Y) ⊎ ((m : ℕ) × (m ∈ X) × (m ∈ Y → ⊥))
within_or_lacks w X Y x = elim (within_or_lacks_below w X Y) [ inl f ↦ inl (λ m t. f m (ltb→lt m w (x m t)) t) | inr l ↦ inr l ]
