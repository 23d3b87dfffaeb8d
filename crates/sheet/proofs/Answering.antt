-- What a call that answered has done, and what two readings that answer alike have in common.
use Rattle.std.proofs.Common.{◌≡◌, ℕ, subst, inl, inr}
use Rattle.std.proofs.lemmas.Bool.{cases_eq}
use Rattle.marks.specs.Refusals.{Test}
use Rattle.marks.specs.Sets.{Marks, ◌∈◌}
use Rattle.marks.proofs.Sets.{same_sets}
use Rattle.readings.specs.Says.{the_answer}
use Rattle.readings.specs.declared.answer.Answer.{Answer}
use Rattle.readings.specs.declared.answer.Answer.TheVariants.{Not, Holds, Open, Both}
use Rattle.readings.proofs.Verdicts.{answer_once}
use Rattle.sheet.specs.Looks.{SameAnswers}

-- a test in other words; the rest may know that the fault is not there
pub test_map : {F F' X R R' : Type 0} → (F → F') → (F' → F) → ((F → ⊥) → R → R') → Test F X R → Test F' X R'
test_map to from rest (inl f) = inl (to f.0, f.1)
test_map to from rest (inr h) = inr ((λ f. h.0 (from f)), rest h.0 h.1)

pub stable_equal : (a b : ℕ) → ((a ≡ b → ⊥) → ⊥) → a ≡ b
stable_equal a b h = elim (cases_eq a b) [ inl e ↦ e | inr n ↦ absurd (h n) ]

-- a mark has the same answer by both only where it lies in the same sets
lower_in : (a : Answer) (T U T' U' : Marks) (m : ℕ) → (the_answer a).says T U m → (the_answer a).says T' U' m → m ∈ T → m ∈ T'
lower_in Not T U T' U' m p q t = absurd (p.0 t)
lower_in Holds T U T' U' m p q t = q.0
lower_in Open T U T' U' m p q t = absurd (p.0 t)
lower_in Both T U T' U' m p q t = q.0

upper_in : (a : Answer) (T U T' U' : Marks) (m : ℕ) → (the_answer a).says T U m → (the_answer a).says T' U' m → m ∈ U → m ∈ U'
upper_in Not T U T' U' m p q t = absurd (p.1 t)
upper_in Holds T U T' U' m p q t = q.1
upper_in Open T U T' U' m p q t = q.1
upper_in Both T U T' U' m p q t = absurd (p.1 t)

module _ (T U T' U' : Marks) where
  pub same_lower : SameAnswers T U T' U' → T ≡ T'
  unfolding SameAnswers
  same_lower same =
      same_sets (λ m t. let s = same m in lower_in s.0 T U T' U' m s.1 s.2 t)
      (λ m t. let s = same m in lower_in s.0 T' U' T U m s.2 s.1 t)

  pub same_upper : SameAnswers T U T' U' → U ≡ U'
  unfolding SameAnswers
  same_upper same =
      same_sets (λ m t. let s = same m in upper_in s.0 T U T' U' m s.1 s.2 t)
      (λ m t. let s = same m in upper_in s.0 T' U' T U m s.2 s.1 t)

  pub same_all : T ≡ T' → U ≡ U' → SameAnswers T U T' U'
  unfolding SameAnswers
  same_all e f m =
      let one = answer_once T U m in
      (one.it, one.holds, subst (λ (X : Marks). (the_answer one.it).says X U' m) e (subst (λ (X : Marks). (the_answer one.it).says T X m) f one.holds))
