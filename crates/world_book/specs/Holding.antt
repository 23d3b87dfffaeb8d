-- Which worlds hold a set.
use Rattle.std.specs.Prelude.{◌≡◌, ℕ, zero, suc, ◌<◌, Bool, not, ◌||◌, T, ◌⊎◌, List, [], ◌∷◌, Decides, refl}
use mathlib.Core.List.Memᴰ
use mathlib.Core.List.{Memᴰ}
use Rattle.std.proofs.Common.{inl, inr, subst, sym, not-suc-le-zero, eq-or-lt_of_le, le_of_suc-le-suc, ltb→lt, T_not}
use Rattle.std.proofs.Math.Dec.{not_T}
use Rattle.marks.specs.Sets.{Marks, ◌∈◌, ◌⊆◌, OfWidth}
use Rattle.marks.proofs.Sets.{holds, is_true, same_test}
use Rattle.readings.proofs.Sets.{both, left, right, or_left, or_right, or_cases, decide}
use Rattle.world_book.specs.Worlds.{lies_within, none_holds}

-- the test is inclusion, for a set of the width

pub to_lies : (w : ℕ) (S W : Marks) → S ⊆ W → T (lies_within w S W)
to_lies zero S W s = tt
to_lies (suc w) S W s = both (not (S w) || W w) (lies_within w S W) (here (decide (S w))) (to_lies w S W s)
  where
    here : (w ∈ S) ⊎ (w ∈ S → ⊥) → T (not (S w) || W w)
    here (inl t) = or_right (not (S w)) (W w) (s w t)
    here (inr f) = or_left (not (S w)) (W w) (not_T (S w) f)

lies_below : (w : ℕ) (S W : Marks) → T (lies_within w S W) → (m : ℕ) → m < w → m ∈ S → m ∈ W
lies_below zero S W t m h u = absurd (not-suc-le-zero h)
lies_below (suc w) S W t m h u =
    elim (eq-or-lt_of_le (le_of_suc-le-suc h)) [
      | inl e ↦ subst (λ (j : ℕ). j ∈ W) (sym e) (here (subst (λ (j : ℕ). j ∈ S) e u) (left (not (S w) || W w) (lies_within w S W) t))
      | inr l ↦ lies_below w S W (right (not (S w) || W w) (lies_within w S W) t) m l u
    ]
  where
    here : w ∈ S → T (not (S w) || W w) → w ∈ W
    here u t = elim (or_cases (not (S w)) (W w) t) [ inl n ↦ absurd (T_not (S w) n u) | inr v ↦ v ]

pub from_lies : (w : ℕ) (S W : Marks) → OfWidth w S → T (lies_within w S W) → S ⊆ W
from_lies w S W s t m u = lies_below w S W t m (ltb→lt m w (s m u)) u

-- no world holds the set, or one does

module _ (w : ℕ) (S : Marks) (s : OfWidth w S) where
  pub none_from : (Ws : List Marks) → T (none_holds w Ws S) → (W : Marks) → Memᴰ W Ws → S ⊆ W → ⊥
  none_from [] t W i h = absurd (Memᴰ.not-nil i)
  none_from (V ∷ Vs) t W i h =
      elim (Memᴰ.cases_cons i) [
        | inl e ↦ T_not (lies_within w S V) (left (not (lies_within w S V)) (none_holds w Vs S) t) (to_lies w S V (subst (λ (X : Marks). S ⊆ X) e h))
        | inr j ↦ none_from Vs (right (not (lies_within w S V)) (none_holds w Vs S) t) W j h
      ]

  pub to_none : (Ws : List Marks) → ((W : Marks) → Memᴰ W Ws → S ⊆ W → ⊥) → T (none_holds w Ws S)
  to_none [] f = tt
  to_none (V ∷ Vs) f =
      both (not (lies_within w S V)) (none_holds w Vs S) (not_T (lies_within w S V) (λ t. f V (Memᴰ.head refl) (from_lies w S V s t)))
      (to_none Vs (λ W i. f W (Memᴰ.tail i)))

  pub some_holds : (Ws : List Marks) → (T (none_holds w Ws S) → ⊥) → (W : Marks) × Memᴰ W Ws × (S ⊆ W)
  some_holds [] f = absurd (f tt)
  some_holds (V ∷ Vs) f =
      elim (decide (lies_within w S V)) [
        | inl t ↦ (V, Memᴰ.head refl, from_lies w S V s t)
        | inr n ↦
            let p = some_holds Vs (λ t. f (both (not (lies_within w S V)) (none_holds w Vs S) (not_T (lies_within w S V) n) t)) in
            (p.0, Memᴰ.tail p.1, p.2)
      ]

-- an answer that decides inclusion is the test
pub decides_lies : (w : ℕ) (S W : Marks) (b : Bool) → OfWidth w S → Decides b (S ⊆ W) → b ≡ lies_within w S W
decides_lies w S W b s d =
    same_test b (lies_within w S W) (λ t. to_lies w S W (d.0 (is_true b t))) (λ t. holds (d.1 (from_lies w S W s t)))
