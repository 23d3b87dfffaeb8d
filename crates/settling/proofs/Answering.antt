-- What a call that answered has done: none of its faults was there.
use Rattle.std.proofs.Common.{◌≡◌, ℕ, Ok, Err, Result, inl, inr, arith}
use Rattle.marks.specs.declared.refusal.Refusal.{Refusal}
use Rattle.marks.specs.declared.set.MarkSet.{MarkSet}
use Rattle.marks.specs.MarkSets.{BadWidth}
use Rattle.marks.specs.Refusals.{Gives, Test}

pub answered : {F U R : Type 0} → Test F (⊥ × U) R → R
answered (inl f) = absurd f.1.0
answered (inr h) = h.1

pub given : {F R : Type 0} → Test F ⊥ R → R
given (inl f) = absurd f.1
given (inr h) = h.1

-- what is given, put in other words
pub gives_map : {A : Type 0} {P Q : A → Type 0} (r : Result A Refusal) → ((a : A) → P a → Q a) → Gives r P → Gives r Q
gives_map (Ok a) f p = f a p
gives_map (Err e) f p = p

-- what is given whatever is answered
pub gives_all : {A P : Type 0} (r : Result A Refusal) → Gives r (λ _. P) → P
gives_all (Ok a) p = p
gives_all (Err e) p = absurd p

-- a test that is not met leads to the rest
pub passed : {F X R : Type 0} → (F → ⊥) → Test F X R → R
passed none (inl f) = absurd (none f.0)
passed none (inr h) = h.1

-- the width of a set is never bad
pub set_width : (s : MarkSet) (w : ℕ) → w ≡ s.width → BadWidth w → ⊥
set_width s w e (inl h) = let some = s.some in omega arith
set_width s w e (inr h) = let few = s.few in omega arith
