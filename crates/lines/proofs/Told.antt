-- What chains over the marks of a list, or over records, tell.
use Rattle.std.proofs.Common.{◌≡◌, ℕ, ◌+◌, ◌<◌, Bool, true, false, not, ◌&&◌, ◌||◌, List, [], ◌∷◌, length, get_or, suc, zero, Decides, refl, sym, ap, ◌∙◌, subst, arith}
use lib.Dec.{ltb}
use denote.Param.Members.{Mut}
use denote.Ref.{Bor}
use Rattle.std.specs.Fn.{Called, ComputesOnPairs}
use Rattle.std.proofs.lemmas.List.Sorted.{answers_always}
use borrow.Author.Tests.{ltb-true, ltb-false}
use Rattle.std.proofs.lemmas.Bool.{false≢true}
use Rattle.std.proofs.lemmas.List.Elements.{recursion_from_All}
use Rattle.std.proofs.lemmas.List.Kept.{AllPairs-from_increasing}
use Rattle.std.specs.List.{list_all, list_any, IsAllAdjacentAnswer}
use Rattle.std.specs.List.Sorted.{IsStrictlyIncreasing}
use Rattle.marks.specs.Sets.{Marks}
use Rattle.readings.specs.Computed.{has_all, has_none}
use Rattle.lines.specs.Lawful.{Ascends}

-- whether a set has all, or none, of the marks
listed_all : (S : Marks) (ms : List ℕ) → list_all S ms ≡ has_all ms S
listed_all S [] = refl
listed_all S (m ∷ ms) = ap (λ (b : Bool). S m && b) (listed_all S ms)

pub all_told : (S : Marks) (ms : List ℕ) (r : Bool) → r ≡ list_all S ms → r ≡ has_all ms S
all_told S ms r told = told ∙ listed_all S ms

not_or : (a b : Bool) → not (a || b) ≡ (not a && not b)
not_or true b = refl
not_or false b = refl

listed_none : (S : Marks) (ms : List ℕ) → not (list_any S ms) ≡ has_none ms S
listed_none S [] = refl
listed_none S (m ∷ ms) = not_or (S m) (list_any S ms) ∙ ap (λ (b : Bool). not (S m) && b) (listed_none S ms)

pub none_told : (S : Marks) (ms : List ℕ) (r : Bool) → r ≡ list_any S ms → not r ≡ has_none ms S
none_told S ms r told = ap not told ∙ listed_none S ms

-- whether each is below the next: then each is below all that follow
rising : (ms : List ℕ) → IsStrictlyIncreasing ms → Ascends ms
rising [] up = tt
rising (m ∷ ms) up = (
  recursion_from_All (λ k. m < k) ms (λ k d inside. AllPairs-from_increasing (m ∷ ms) up 0 (suc k) d (omega arith) (omega arith)),
  rising ms (λ k inside.
      let e : suc k + 1 ≡ suc (k + 1) = omega arith in
      subst (λ (n : ℕ). get_or ms k 0 < get_or (m ∷ ms) n 0) e (up (suc k) (omega arith))),
)

next_above : (ms : List ℕ) (k d : ℕ) → Ascends ms → k + 1 < length ms → get_or ms k d < get_or ms (k + 1) d
next_above [] k d a inside = absurd (omega arith)
next_above (m ∷ []) zero d a inside = absurd (omega arith)
next_above (m ∷ n ∷ ms) zero d a inside = a.0.0
next_above (m ∷ ms) (suc k) d a inside =
    let e : suc (k + 1) ≡ suc k + 1 = omega arith in
    subst (λ (n : ℕ). get_or ms k d < get_or (m ∷ ms) n d) e (next_above ms k d a.1 (omega arith))

rises : (ms : List ℕ) (r : Bool) → IsAllAdjacentAnswer (λ x y b. b ≡ ltb x y) ms r → Decides r (Ascends ms)
rises ms true told = ((λ _. rising ms (λ k inside. ltb-true _ _ (sym (told k 0 inside)))), λ _. refl)
rises ms false told = (
  (λ e. absurd (false≢true e)),
  λ a.
      let k = told.0 in
      let l = next_above ms k 0 a told.1 in
      let h = ltb-false (get_or ms k 0) (get_or ms (k + 1) 0) (sym (told.2 0)) in
      absurd (omega arith),
)

-- by the clause of `is_sorted_by`, for a closure that tests whether the first is below the second
pub rise_told : {F : Type 0} {g : Mut F (Bor ℕ × (Bor ℕ × Unit {0})) Bool} {f : F} (ms : List ℕ) (r : Bool)
    → ((e : ℕ → ℕ → Bool) → ComputesOnPairs g e f → IsAllAdjacentAnswer (λ x y b. b ≡ e x y) ms r)
    → ((f : F) (a : Bor ℕ × (Bor ℕ × Unit {0})) (b : Bool) (f' : F) → Called g f a b f' → b ≡ ltb a.0.now a.1.0.now)
    → Decides r (Ascends ms)
rise_told {F} {g} {f} ms r cases tells = rises ms r (cases ltb (answers_always g (λ a b. b ≡ ltb a.0.now a.1.0.now) f tells))
