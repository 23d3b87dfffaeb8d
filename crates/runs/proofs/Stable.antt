-- Fare lines that cannot be unlawful are lawful.
use Rattle.std.proofs.Common.{ℕ, ◌<◌, ◌≤◌, List, [], ◌∷◌, length, inl, inr, arith}
use Rattle.std.proofs.lemmas.Bool.{cases_lt}
use Rattle.std.specs.List.{AllByRecursion}
use Rattle.lines.specs.declared.fare.FareLine.{FareLine}
use Rattle.lines.specs.declared.list.MarkList.{MarkList}
use Rattle.lines.specs.Lawful.{Ascends, LawfulList, LawfulFare}
use Rattle.lines.specs.Records.{used}
use Rattle.settling.specs.Calls.{LawfulFares}

-- what cannot fail to hold holds
abbrev Stable : Type 0 → Type 0
Stable P = ((P → ⊥) → ⊥) → P

le_stable : (a b : ℕ) → Stable (a ≤ b)
le_stable a b h = elim (cases_lt b a) [ inl l ↦ absurd (h (λ k. omega arith)) | inr k ↦ k ]

lt_stable : (a b : ℕ) → Stable (a < b)
lt_stable a b h = elim (cases_lt a b) [ inl l ↦ l | inr k ↦ absurd (h (λ l. omega arith)) ]

all_stable : {A : Type 0} (P : A → Type 0) → ((x : A) → Stable (P x)) → (xs : List A) → Stable (AllByRecursion P xs)
all_stable P stable [] h = tt
all_stable P stable (x ∷ xs) h = (stable x (λ no. h (λ a. no a.0)), all_stable P stable xs (λ no. h (λ a. no a.1)))

ascends_stable : (ms : List ℕ) → Stable (Ascends ms)
ascends_stable [] h = tt
ascends_stable (m ∷ ms) h =
    (all_stable (λ k. m < k) (lt_stable m) ms (λ no. h (λ a. no a.0)), ascends_stable ms (λ no. h (λ a. no a.1)))

list_stable : (w : ℕ) (l : MarkList) → Stable (LawfulList w l)
list_stable w l h =
    record {
      count = le_stable l.count 8 (λ no. h (λ a. no a.count));
      ascends = ascends_stable (used l) (λ no. h (λ a. no a.ascends));
      below = all_stable (λ m. m < w) (λ m. lt_stable m w) (used l) (λ no. h (λ a. no a.below));
    }

fare_stable : (w : ℕ) (l : FareLine) → Stable (LawfulFare w l)
fare_stable w l h =
    record {
      head = lt_stable l.head w (λ no. h (λ a. no a.head));
      conditions = list_stable w l.conditions (λ no. h (λ a. no a.conditions));
      unless = list_stable w l.unless (λ no. h (λ a. no a.unless));
    }

pub lawful_stable : (w : ℕ) (lines : List FareLine) → Stable (LawfulFares w lines)
lawful_stable w lines h =
    record {
      few = le_stable (length lines) 1024 (λ no. h (λ a. no a.few));
      each = all_stable (LawfulFare w) (fare_stable w) lines (λ no. h (λ a. no a.each));
    }
