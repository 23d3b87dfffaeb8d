-- Adding heads and closing, as often as the width says, makes the least closed set with the heads of the rules that pass a test.
use mathlib.Core.Bool.{Bool, ◌&&◌}
use mathlib.Core.List.Memᴰ
use mathlib.Core.List.{List, [], ◌∷◌, Memᴰ}
use mathlib.Core.Logic.{inl, inr}
use mathlib.Core.Path.{◌≡◌, refl, subst, sym, ap, ◌∙◌}
use Prim.Native.Nat.{ℕ, zero, suc}
use lib.Dec.{T, eqb, eqb→eq, eqb_refl}
use Rattle.marks.specs.Sets.{Marks, ◌∈◌, ◌⊆◌, below, OfWidth, ◌∪◌, among}
use Rattle.readings.specs.Books.{Book, Lawful, Closed}
use Rattle.readings.specs.Rules.{Rule, AllIn}
use Rattle.readings.specs.Yields.{HasHeads, LeastClosed}
use Rattle.readings.specs.Computed.{has_all, fired, filled}
use Rattle.marks.proofs.Sets.{equal_within}
use Rattle.readings.proofs.Sets.{both, left, right, or_left, or_right, or_cases, join_within}
use Rattle.readings.proofs.Sizes.{iterate, iterate_width, iterate_around, at_rest}
use Rattle.readings.proofs.Closing.{closed_if}
use Rattle.readings.proofs.Listing.{among_listed, has_all_in, in_has_all}

-- a rule of the list that passes the test
pub record Passing (rules : List Rule) (passes : Rule → Bool) (r : Rule) : Type 0 where
  pub among_rules : Memᴰ r rules
  pub passed : T (passes r)

-- a mark is the head of a passing rule whose conditions X has
record Fired (rules : List Rule) (passes : Rule → Bool) (X : Marks) (m : ℕ) : Type 0 where
  rule : Rule
  passing : Passing rules passes rule
  is : m ≡ rule.head
  held : AllIn rule.conditions X

module _ (passes : Rule → Bool) (X : Marks) where
  abbrev here : (r : Rule) (m : ℕ) → Bool
  here r m = eqb m r.head && (passes r && has_all r.conditions X)

  fires : (rules : List Rule) (r : Rule) → Passing rules passes r → AllIn r.conditions X → r.head ∈ fired passes rules X
  fires [] r p a = absurd (Memᴰ.not-nil p.among_rules)
  fires (x ∷ rs) r p a =
      elim (Memᴰ.cases_cons p.among_rules) [
        | inl e ↦
            subst (λ (y : Rule). r.head ∈ fired passes (y ∷ rs) X) e
            (or_left (here r r.head) (fired passes rs X r.head)
            (both (eqb r.head r.head) (passes r && has_all r.conditions X) (eqb_refl r.head) (both (passes r) (has_all r.conditions X) p.passed (in_has_all r.conditions X a))))
        | inr j ↦ or_right (here x r.head) (fired passes rs X r.head) (fires rs r (record { among_rules = j; passed = p.passed }) a)
      ]

  from_fired : (rules : List Rule) (m : ℕ) → m ∈ fired passes rules X → Fired rules passes X m
  from_fired [] m t = absurd t
  from_fired (x ∷ rs) m t =
      elim (or_cases (here x m) (fired passes rs X m) t) [
        | inl h ↦
            let q = right (eqb m x.head) (passes x && has_all x.conditions X) h in
            record {
              rule = x;
              passing = record { among_rules = Memᴰ.head refl; passed = left (passes x) (has_all x.conditions X) q };
              is = eqb→eq m x.head (left (eqb m x.head) (passes x && has_all x.conditions X) h);
              held = has_all_in x.conditions X (right (passes x) (has_all x.conditions X) q);
            }
        | inr h ↦
            let f = from_fired rs m h in
            record { rule = f.rule; passing = record { among_rules = Memᴰ.tail f.passing.among_rules; passed = f.passing.passed }; is = f.is; held = f.held }
      ]

module _ (B : Book) (law : Lawful B) (rules : List Rule) (within : (r : Rule) → Memᴰ r rules → r.head ∈ below B.width) (passes : Rule → Bool) where
  abbrev adding : Marks → Marks
  adding X = X ∪ fired passes rules X

  abbrev step : Marks → Marks
  step X = B.closure (adding X)

  -- what is added lies within any set with the heads
  adding_within : (X Z : Marks) → X ⊆ Z → HasHeads (Passing rules passes) Z → adding X ⊆ Z
  adding_within X Z s zh =
      join_within X (fired passes rules X) Z s
      (λ m t.
      let f = from_fired passes X rules m t in
      subst (λ (j : ℕ). j ∈ Z) (sym f.is) (zh f.rule f.passing (λ k j. s k (f.held k j))))

  adding_width : (X : Marks) → OfWidth B.width X → OfWidth B.width (adding X)
  adding_width X x = adding_within X (below B.width) x (λ r p c. within r p.among_rules)

  step_width : (X : Marks) → OfWidth B.width X → OfWidth B.width (step X)
  step_width X x = law.of_width (adding X) (adding_width X x)

  step_adds : (X : Marks) → OfWidth B.width X → X ⊆ step X
  step_adds X x m t = law.extensive (adding X) (adding_width X x) m (or_left (X m) (fired passes rules X m) t)

  step_heads : (X : Marks) → OfWidth B.width X → (r : Rule) → Passing rules passes r → AllIn r.conditions X
      → r.head ∈ step X
  step_heads X x r p c = law.extensive (adding X) (adding_width X x) r.head (or_right (X r.head) (fired passes rules X r.head) (fires passes X rules r p c))

  step_within : (X Z : Marks) → OfWidth B.width X → OfWidth B.width Z → X ⊆ Z → Closed B Z
      → HasHeads (Passing rules passes) Z → step X ⊆ Z
  step_within X Z x z s zc zh m t = equal_within zc m (law.monotone (adding X) Z (adding_width X x) z (adding_within X Z s zh) m t)

  step_grows : (X Y : Marks) → OfWidth B.width X → OfWidth B.width Y → X ⊆ Y → step X ⊆ step Y
  step_grows X Y x y s =
      law.monotone (adding X) (adding Y) (adding_width X x) (adding_width Y y)
      (join_within X (fired passes rules X) (adding Y) (λ m t. or_left (Y m) (fired passes rules Y m) (s m t))
      (λ m t.
      let f = from_fired passes X rules m t in
      or_right (Y m) (fired passes rules Y m)
      (subst (λ (j : ℕ). j ∈ fired passes rules Y) (sym f.is) (fires passes Y rules f.rule f.passing (λ k j. s k (f.held k j))))))

  module _ (A : Marks) (a : OfWidth B.width A) where
    abbrev after : ℕ → Marks
    after n = iterate step n A

    after_width : (n : ℕ) → OfWidth B.width (after n)
    after_width = iterate_width B.width step step_width step_adds step_grows A a

    after_within : (Z : Marks) → OfWidth B.width Z → A ⊆ Z → Closed B Z → HasHeads (Passing rules passes) Z → (n : ℕ)
        → after n ⊆ Z
    after_within Z z s zc zh zero = s
    after_within Z z s zc zh (suc n) = step_within (after n) Z (after_width n) z (after_within Z z s zc zh n) zc zh

    rest : step (after B.width) ⊆ after B.width
    rest = at_rest B.width step step_width step_adds step_grows A a

    after_least : LeastClosed B A (Passing rules passes) (after B.width)
    after_least =
        let X = after B.width in
        let x = after_width B.width in
        record {
          of_width = x;
          around = iterate_around B.width step step_width step_adds step_grows A a B.width;
          closed = closed_if B law X x (λ m t. rest m (law.monotone X (adding X) x (adding_width X x) (λ n. or_left (X n) (fired passes rules X n)) m t));
          heads = λ r p c. rest r.head (step_heads X x r p c);
          least = λ Z zw za zc zh. after_within Z zw za zc zh B.width;
        }

  module _ (ms : List ℕ) (a : OfWidth B.width (among ms)) where
    -- the list is computed as the set is
    filled_after : (n : ℕ) → among (filled B rules passes n ms) ≡ after (among ms) a n
    filled_after zero = refl
    filled_after (suc n) =
        let X = among (filled B rules passes n ms) in
        let x : OfWidth B.width X = λ m t. after_width (among ms) a n m (equal_within (filled_after n) m t) in
        among_listed B.width (step X) (step_width X x) ∙ ap step (filled_after n)

    pub filled_least : LeastClosed B (among ms) (Passing rules passes) (among (filled B rules passes B.width ms))
    filled_least = subst (LeastClosed B (among ms) (Passing rules passes)) (sym (filled_after B.width)) (after_least (among ms) a)
