-- One line's turn in a pass.
use Rattle.std.proofs.Common.{◌≡◌, ℕ, ◌<◌, Bool, true, false, cond, T, ltb, Some, None, Option, refl, sym, ap, ◌∙◌, ltb→lt}
use Rattle.std.proofs.lemmas.Bool.{cond-true, cond_both, lt-ltb}
use Rattle.marks.specs.Sets.{Marks, ◌∈◌, ◌⊆◌, OfWidth, with_mark}
use Rattle.marks.proofs.Sets.{equal_within, with_inside, holds}
use Rattle.readings.proofs.Sets.{with_new, with_old, with_within}
use Rattle.lines.specs.Passes.{View, fires, with_head, brought}

cond_same : {A : Type 0} (b : Bool) (x : A) → cond b x x ≡ x
cond_same true x = refl
cond_same false x = refl

module _ (w : ℕ) (v : View) (S : Marks) where
  brought_as : (o : Option ℕ) → v.head ≡ o → brought w v S ≡ cond (fires v S) (with_head w o S) S
  brought_as o e = ap (λ (o : Option ℕ). cond (fires v S) (with_head w o S) S) e

  -- where nothing is brought in
  pub brought_headless : v.head ≡ None → brought w v S ≡ S
  brought_headless e = brought_as None e ∙ cond_same (fires v S) S

  -- where the head is
  pub brought_new : (m : ℕ) → v.head ≡ Some m → m < w → fires v S ≡ true → brought w v S ≡ with_mark S m
  brought_new m e h f =
      brought_as (Some m) e ∙ cond-true (fires v S) (cond (ltb m w) (with_mark S m) S) S f ∙ cond-true (ltb m w) (with_mark S m) S (lt-ltb m w h)

-- the set grows, by a mark of the width
pub head_grows : (w : ℕ) (o : Option ℕ) (S : Marks) → S ⊆ with_head w o S
head_grows w None S m t = t
head_grows w (Some k) S m t = cond_both (ltb k w) (with_mark S k) S (λ X. m ∈ X) (λ _. with_old S k m t) (λ _. t)

pub head_new : (w m : ℕ) (S : Marks) → m < w → m ∈ with_head w (Some m) S
head_new w m S h = equal_within (sym (cond-true (ltb m w) (with_mark S m) S (lt-ltb m w h))) m (with_new S m)

pub brought_grows : (w : ℕ) (v : View) (S : Marks) → S ⊆ brought w v S
brought_grows w v S m t = cond_both (fires v S) (with_head w v.head S) S (λ X. m ∈ X) (λ _. head_grows w v.head S m t) (λ _. t)

head_width : (w : ℕ) (o : Option ℕ) (S : Marks) → OfWidth w S → OfWidth w (with_head w o S)
head_width w None S h = h
head_width w (Some k) S h =
    cond_both (ltb k w) (with_mark S k) S (OfWidth w) (λ e. with_inside w S k (ltb→lt k w (holds e)) h) (λ _. h)

pub brought_width : (w : ℕ) (v : View) (S : Marks) → OfWidth w S → OfWidth w (brought w v S)
brought_width w v S h = cond_both (fires v S) (with_head w v.head S) S (OfWidth w) (λ _. head_width w v.head S h) (λ _. h)

-- and stays within a set that has what must be there
head_within : (w : ℕ) (o : Option ℕ) (S Z : Marks) → S ⊆ Z → ((m : ℕ) → o ≡ Some m → m < w → m ∈ Z) → with_head w o S ⊆ Z
head_within w None S Z s h = s
head_within w (Some k) S Z s h =
    cond_both (ltb k w) (with_mark S k) S (λ X. X ⊆ Z) (λ e. with_within S Z k (h k refl (ltb→lt k w (holds e))) s) (λ _. s)

pub brought_within : (w : ℕ) (v : View) (S Z : Marks) → S ⊆ Z → (T (fires v S) → (m : ℕ) → v.head ≡ Some m → m < w → m ∈ Z) → brought w v S ⊆ Z
brought_within w v S Z s h =
    cond_both (fires v S) (with_head w v.head S) S (λ X. X ⊆ Z) (λ e. head_within w v.head S Z s (h (holds e))) (λ _. s)
