-- What is written into the caller's bytes, and what stays.
use Rattle.std.specs.Prelude.{◌≡◌, ℕ, ◌+◌, ◌<◌, List, ◌++◌, length, take, drop, Result}
use Rattle.marks.specs.declared.refusal.Refusal.{Refusal}
use Rattle.marks.specs.Refusals.{Refuses, Gives, Test}

-- the bytes bs written over out from a place on: every other byte stays
abbrev pub overlay : List ℕ → ℕ → List ℕ → List ℕ
overlay out p bs = take p out ++ (bs ++ drop (p + length bs) out)

-- bs was written over out from a place on, which left after, and next is the place behind
pub record Written (out : List ℕ) (p : ℕ) (bs after : List ℕ) (next : ℕ) : Type 0 where
  pub bytes : after ≡ overlay out p bs
  pub place : next ≡ p + length bs

-- what a call does that is to write bs over out from a place on: 13 exactly where they have no room, and then no byte changes
abbrev pub Writes : List ℕ → ℕ → List ℕ → List ℕ → Result ℕ Refusal → Type 0
Writes out p bs after r = Test (length out < p + length bs) (Refuses r 13 × (after ≡ out)) (Gives r (Written out p bs after))
