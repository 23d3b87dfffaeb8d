-- The steps of a growth.
use Rattle.std.proofs.Common.{◌≡◌, ◌≢◌, ℕ, ◌<◌, ◌≤◌, ◌⊎◌, Bool, true, false, cond, ltb, Some, Ok, Err, Result, sym, ap, ◌∙◌, inl, inr, arith}
use Rattle.std.proofs.lemmas.Bool.{cond-true, cond-false, lt-ltb, le-ltb, cases_eq}
use Rattle.marks.specs.declared.set.MarkSet.{MarkSet}
use Rattle.marks.specs.declared.refusal.Refusal.{Refusal}
use Rattle.marks.specs.MarkSets.{marks_of, IsSet, Unchanged}
use Rattle.marks.specs.Refusals.{Refuses, Gives, Test}
use Rattle.marks.specs.Sets.{Marks, ◌∈◌, ◌⊆◌, ◌∩◌, ◌∖◌, no_marks, with_mark, without_mark}
use Rattle.marks.specs.Words.{held}
use Rattle.marks.proofs.Sets.{equal_within, same_sets}
use Rattle.readings.proofs.Sets.{with_grows, less_left, less_out, left, both, decide}
use Rattle.lines.specs.Passes.{with_head}

given_all : {A P : Type 0} (r : Result A Refusal) → Gives r (λ _. P) → P
given_all (Ok a) p = p
given_all (Err e) p = absurd p

-- taking out the marks of a set of the same width
pub subtracted : {before after : MarkSet} (other : MarkSet) (r : Result (Unit {0}) Refusal)
    → Test (before.width ≢ other.width) (Refuses r 7 × Unchanged before after) (Gives r (λ _. IsSet after before.width (marks_of before ∖ marks_of other)))
    → before.width ≡ other.width → IsSet after before.width (marks_of before ∖ marks_of other)
subtracted other r (inl f) e = absurd (f.0 e)
subtracted other r (inr g) e = given_all r g.1

-- putting in a mark that may lie at or above the width
pub inserted : {before after : MarkSet} (m : ℕ) (r : Result (Unit {0}) Refusal)
    → Test (before.width ≤ m) (Refuses r 9 × Unchanged before after) (Gives r (λ _. IsSet after before.width (with_mark (marks_of before) m)))
    → IsSet after before.width (with_head before.width (Some m) (marks_of before))
inserted {before} m r (inl f) =
    let S = marks_of before in
    record { width = f.1.1.width; marks = ap held f.1.1.words ∙ sym (cond-false (ltb m before.width) (with_mark S m) S (le-ltb m before.width f.0)) }
inserted {before} m r (inr g) =
    let S = marks_of before in
    let is = given_all r g.1 in
    let l : m < before.width = (let n = g.0 in omega arith) in
    record { width = is.width; marks = is.marks ∙ sym (cond-true (ltb m before.width) (with_mark S m) S (lt-ltb m before.width l)) }

-- a head that comes into two sets, one within the other
pub head_within_head : (w m : ℕ) (S S' : Marks) → S ⊆ S' → with_head w (Some m) S ⊆ with_head w (Some m) S'
head_within_head w m S S' s = go (ltb m w)
  where
    go : (b : Bool) → cond b (with_mark S m) S ⊆ cond b (with_mark S' m) S'
    go true = with_grows S S' m s
    go false = s

pub none_left : (S : Marks) → S ∖ S ≡ no_marks
none_left S = same_sets (λ m t. absurd (less_out S S m t (less_left S S m t))) (λ m t. absurd t)

-- the marks that are in another set of the same width too, or all where the widths differ
module _ {before after : MarkSet} (other : MarkSet) (r : Result (Unit {0}) Refusal)
    (t : Test (before.width ≢ other.width) (Refuses r 7 × Unchanged before after) (Gives r (λ _. IsSet after before.width (marks_of before ∩ marks_of other)))) where
  pub met_width : after.width ≡ before.width
  met_width = elim t [ inl f ↦ f.1.1.width | inr g ↦ (given_all r g.1).width ]

  pub met_only : marks_of after ⊆ marks_of before
  met_only m u =
      elim t [
        | inl f ↦ equal_within (ap held f.1.1.words) m u
        | inr g ↦ left (marks_of before m) (marks_of other m) (equal_within (given_all r g.1).marks m u)
      ]

  pub met_others : (m : ℕ) → m ∈ marks_of before → (m ∈ marks_of after) ⊎ ((other.width ≡ before.width) × (m ∈ marks_of other → ⊥))
  met_others m u =
      elim t [
        | inl f ↦ inl (equal_within (sym (ap held f.1.1.words)) m u)
        | inr g ↦
            elim (decide (marks_of other m)) [
              | inl o ↦ inl (equal_within (sym (given_all r g.1).marks) m (both (marks_of before m) (marks_of other m) u o))
              | inr n ↦ elim (cases_eq other.width before.width) [ inl e ↦ inr (e, n) | inr ne ↦ absurd (g.0 (λ e. ne (sym e))) ]
            ]
      ]

-- taking out a mark of the width
pub removed : {before after : MarkSet} (m : ℕ) (r : Result (Unit {0}) Refusal)
    → Test (before.width ≤ m) (Refuses r 9 × Unchanged before after) (Gives r (λ _. IsSet after before.width (without_mark (marks_of before) m)))
    → m < before.width → IsSet after before.width (without_mark (marks_of before) m)
removed m r (inl f) l = absurd (omega (arith, f.0))
removed m r (inr g) l = given_all r g.1
