-- Sets written down as lists, and tests on the marks of a list.
use mathlib.Core.Bool.{Bool, true, false, not}
use mathlib.Core.List.Memᴰ
use mathlib.Core.List.{List, [], ◌∷◌, Memᴰ}
use mathlib.Core.Logic.{◌⊎◌, inl, inr}
use mathlib.Core.Path.{◌≡◌, refl, subst, sym}
use Prim.Native.Nat.{ℕ, zero, suc, ◌<◌}
use native.Mathlib.Nat.{not-suc-le-zero, eq-or-lt_of_le, le_of_suc-le-suc}
use lib.Dec.{T, eqb, eqb→eq, eqb_refl, ltb→lt, T_not, not_T}
use Rattle.marks.specs.Sets.{Marks, ◌∈◌, ◌⊆◌, OfWidth, among}
use Rattle.readings.specs.Rules.{AllIn, NoneIn, SomeIn}
use Rattle.readings.specs.Computed.{keep, listed, same_bit, agree, has_all, has_none}
use Rattle.marks.proofs.Sets.{same_sets}
use Rattle.readings.proofs.Sets.{both, left, right, or_left, or_right, or_cases, decide}

-- the set of a list has exactly its marks

pub among_in : {m : ℕ} (ms : List ℕ) → Memᴰ m ms → m ∈ among ms
among_in [] i = absurd (Memᴰ.not-nil i)
among_in {m} (k ∷ ks) i =
    elim (Memᴰ.cases_cons i) [
      | inl e ↦ or_left (eqb m k) (among ks m) (subst (λ (j : ℕ). T (eqb m j)) e (eqb_refl m))
      | inr j ↦ or_right (eqb m k) (among ks m) (among_in ks j)
    ]

pub in_among : (m : ℕ) (ms : List ℕ) → m ∈ among ms → Memᴰ m ms
in_among m [] t = absurd t
in_among m (k ∷ ks) t = elim (or_cases (eqb m k) (among ks m) t) [ inl e ↦ Memᴰ.head (eqb→eq m k e) | inr h ↦ Memᴰ.tail (in_among m ks h) ]

-- the list of a set of the width has exactly its marks

keep_cases : (b : Bool) (k : ℕ) (ks : List ℕ) (m : ℕ) → m ∈ among (keep b k ks) → ((m ≡ k) × T b) ⊎ (m ∈ among ks)
keep_cases true k ks m t = elim (or_cases (eqb m k) (among ks m) t) [ inl e ↦ inl (eqb→eq m k e, tt) | inr h ↦ inr h ]
keep_cases false k ks m t = inr t

keep_old : (b : Bool) (k : ℕ) (ks : List ℕ) → among ks ⊆ among (keep b k ks)
keep_old true k ks m t = or_right (eqb m k) (among ks m) t
keep_old false k ks m t = t

keep_new : (b : Bool) (k : ℕ) (ks : List ℕ) → T b → k ∈ among (keep b k ks)
keep_new true k ks t = or_left (eqb k k) (among ks k) (eqb_refl k)
keep_new false k ks t = absurd t

listed_in : (w : ℕ) (S : Marks) → among (listed w S) ⊆ S
listed_in zero S m t = absurd t
listed_in (suc w) S m t =
    elim (keep_cases (S w) w (listed w S) m t) [
      | inl p ↦ subst (λ (j : ℕ). j ∈ S) (sym p.0) p.1
      | inr h ↦ listed_in w S m h
    ]

in_listed : (w : ℕ) (S : Marks) (m : ℕ) → m < w → m ∈ S → m ∈ among (listed w S)
in_listed zero S m h t = absurd (not-suc-le-zero h)
in_listed (suc w) S m h t =
    elim (eq-or-lt_of_le (le_of_suc-le-suc h)) [
      | inl e ↦ subst (λ (j : ℕ). j ∈ among (listed (suc w) S)) (sym e) (keep_new (S w) w (listed w S) (subst (λ (j : ℕ). j ∈ S) e t))
      | inr l ↦ keep_old (S w) w (listed w S) m (in_listed w S m l t)
    ]

pub among_listed : (w : ℕ) (S : Marks) → OfWidth w S → among (listed w S) ≡ S
among_listed w S s = same_sets (listed_in w S) (λ m t. in_listed w S m (ltb→lt m w (s m t)) t)

-- sets that agree below the width are the same

same_bit_is : (a b : Bool) → T (same_bit a b) → a ≡ b
same_bit_is true true t = refl
same_bit_is true false t = absurd t
same_bit_is false true t = absurd t
same_bit_is false false t = refl

same_bit_refl : (a : Bool) → T (same_bit a a)
same_bit_refl true = tt
same_bit_refl false = tt

agree_below : (w : ℕ) (X Y : Marks) → T (agree w X Y) → (m : ℕ) → m < w → X m ≡ Y m
agree_below zero X Y t m h = absurd (not-suc-le-zero h)
agree_below (suc w) X Y t m h =
    elim (eq-or-lt_of_le (le_of_suc-le-suc h)) [
      | inl e ↦ subst (λ (j : ℕ). X j ≡ Y j) (sym e) (same_bit_is (X w) (Y w) (left (same_bit (X w) (Y w)) (agree w X Y) t))
      | inr l ↦ agree_below w X Y (right (same_bit (X w) (Y w)) (agree w X Y) t) m l
    ]

pub agree_same : (w : ℕ) (X Y : Marks) → OfWidth w X → OfWidth w Y → T (agree w X Y) → X ≡ Y
agree_same w X Y x y t =
    same_sets (λ m i. subst T (agree_below w X Y t m (ltb→lt m w (x m i))) i)
    (λ m i. subst T (sym (agree_below w X Y t m (ltb→lt m w (y m i)))) i)

agree_refl : (w : ℕ) (X : Marks) → T (agree w X X)
agree_refl zero X = tt
agree_refl (suc w) X = both (same_bit (X w) (X w)) (agree w X X) (same_bit_refl (X w)) (agree_refl w X)

pub same_agree : (w : ℕ) (X Y : Marks) → X ≡ Y → T (agree w X Y)
same_agree w X Y e = subst (λ (Z : Marks). T (agree w X Z)) e (agree_refl w X)

-- tests on the marks of a list

pub has_all_in : (ms : List ℕ) (S : Marks) → T (has_all ms S) → AllIn ms S
has_all_in [] S t m i = absurd (Memᴰ.not-nil i)
has_all_in (x ∷ xs) S t m i =
    elim (Memᴰ.cases_cons i) [
      | inl e ↦ subst (λ (j : ℕ). j ∈ S) (sym e) (left (S x) (has_all xs S) t)
      | inr j ↦ has_all_in xs S (right (S x) (has_all xs S) t) m j
    ]

pub in_has_all : (ms : List ℕ) (S : Marks) → AllIn ms S → T (has_all ms S)
in_has_all [] S a = tt
in_has_all (x ∷ xs) S a = both (S x) (has_all xs S) (a x (Memᴰ.head refl)) (in_has_all xs S (λ m i. a m (Memᴰ.tail i)))

pub has_none_in : (ms : List ℕ) (S : Marks) → T (has_none ms S) → NoneIn ms S
has_none_in [] S t m i = absurd (Memᴰ.not-nil i)
has_none_in (x ∷ xs) S t m i =
    elim (Memᴰ.cases_cons i) [
      | inl e ↦ subst (λ (j : ℕ). j ∈ S → ⊥) (sym e) (T_not (S x) (left (not (S x)) (has_none xs S) t))
      | inr j ↦ has_none_in xs S (right (not (S x)) (has_none xs S) t) m j
    ]

pub in_has_none : (ms : List ℕ) (S : Marks) → NoneIn ms S → T (has_none ms S)
in_has_none [] S a = tt
in_has_none (x ∷ xs) S a =
    both (not (S x)) (has_none xs S) (not_T (S x) (a x (Memᴰ.head refl))) (in_has_none xs S (λ m i. a m (Memᴰ.tail i)))

-- the marks of a list lie in a set, or one of them does not

pub all_or_lacks : (ms : List ℕ) (S : Marks) → AllIn ms S ⊎ ((m : ℕ) × Memᴰ m ms × (m ∈ S → ⊥))
all_or_lacks [] S = inl (λ m i. absurd (Memᴰ.not-nil i))
all_or_lacks (x ∷ xs) S = go (decide (S x)) (all_or_lacks xs S)
  where
    go : (x ∈ S) ⊎ (x ∈ S → ⊥) → AllIn xs S ⊎ ((m : ℕ) × Memᴰ m xs × (m ∈ S → ⊥))
        → AllIn (x ∷ xs) S ⊎ ((m : ℕ) × Memᴰ m (x ∷ xs) × (m ∈ S → ⊥))
    go (inr n) q = inr (x, Memᴰ.head refl, n)
    go (inl h) (inr q) = inr (q.0, Memᴰ.tail q.1, q.2)
    go (inl h) (inl q) = inl (λ m i. elim (Memᴰ.cases_cons i) [ inl e ↦ subst (λ (j : ℕ). j ∈ S) (sym e) h | inr j ↦ q m j ])

pub none_or_some : (ms : List ℕ) (S : Marks) → NoneIn ms S ⊎ SomeIn ms S
none_or_some ms S =
    elim (all_or_lacks ms (λ m. not (S m))) [
      | inl a ↦ inl (λ m i. T_not (S m) (a m i))
      | inr s ↦ inr (s.0, s.1, elim (decide (S s.0)) [ inl t ↦ t | inr f ↦ absurd (s.2 (not_T (S s.0) f)) ])
    ]
