-- Yields, readings and verdicts as computations, and the tests of lists that they need. Worked sheets compute them, and so do
-- meanings that have to be executable. That they compute what the definitions say is the theorem `ComputedRight` (Theorems).
use Rattle.std.specs.Prelude.{Bool, true, false, not, ◌&&◌, ◌||◌, List, [], ◌∷◌, ◌++◌, map, ℕ, zero, suc, eqb}
use Rattle.marks.specs.Sets.{Marks, below, among, with_mark, ◌∪◌}
use Rattle.readings.specs.Books.{Book}
use Rattle.readings.specs.Rules.{Rule, fact}
use Rattle.readings.specs.declared.verdict.Verdict.{Verdict}
use Rattle.readings.specs.declared.verdict.Verdict.TheVariants.{Clear, Suspect, Broken}

-- A set is written down as the list of its marks below w, so that it is computed once.
abbrev pub keep : Bool → ℕ → List ℕ → List ℕ
keep true m ms = m ∷ ms
keep false m ms = ms

abbrev pub listed : ℕ → Marks → List ℕ
listed zero S = []
listed (suc w) S = keep (S w) w (listed w S)

-- whether two sets have the same marks below w
abbrev pub same_bit : Bool → Bool → Bool
same_bit true b = b
same_bit false b = not b

abbrev pub agree : ℕ → Marks → Marks → Bool
agree zero S S' = true
agree (suc w) S S' = same_bit (S w) (S' w) && agree w S S'

-- whether a set has all, and whether it has none of the marks in a list
abbrev pub has_all : List ℕ → Marks → Bool
has_all [] S = true
has_all (m ∷ ms) S = S m && has_all ms S

abbrev pub has_none : List ℕ → Marks → Bool
has_none [] S = true
has_none (m ∷ ms) S = not (S m) && has_none ms S

-- the heads of the rules that pass the test and whose conditions X has
abbrev pub fired : (Rule → Bool) → List Rule → Marks → Marks
fired passes [] X m = false
fired passes (r ∷ rs) X m = (eqb m r.head && (passes r && has_all r.conditions X)) || fired passes rs X m

-- add the heads and close, n times
abbrev pub filled : Book → List Rule → (Rule → Bool) → ℕ → List ℕ → List ℕ
filled B rules passes zero ms = ms
filled B rules passes (suc n) ms =
    let xs = filled B rules passes n ms in listed B.width (B.closure (among xs ∪ fired passes rules (among xs)))

-- the rules that count, in a list
abbrev pub all_rules : ℕ → List Rule → Marks → List Rule
all_rules w lines facts = map fact (listed w facts) ++ lines

-- the verdict, where the book clashes at T or not, and the yields of T are the same or not
abbrev pub verdict_by : (clash same : Bool) → Verdict
verdict_by true same = Broken
verdict_by false true = Clear
verdict_by false false = Suspect

module _ (B : Book) (lines : List Rule) (facts : Marks) where
  abbrev pub full_of : Marks → List ℕ
  full_of S = filled B (all_rules B.width lines facts) (λ r. has_none r.exceptions S) B.width []

  abbrev pub guarded_of : Marks → List ℕ
  guarded_of S =
      filled B (all_rules B.width lines facts) (λ r. not (B.clash (with_mark S r.head)) && has_none r.exceptions S) B.width []

  -- the rounds of the first method with the sets at its end: k rounds are made, and at most `more` are to be tried before the last
  abbrev pub settle_from : (more k : ℕ) (T U : List ℕ) → ℕ × List ℕ × List ℕ
  settle_from zero k T U = (suc k, T, U)
  settle_from (suc more) k T U =
      let T' = full_of (among U) in
      let U' = guarded_of (among T') in
      elim (agree B.width (among T) (among T') && agree B.width (among U) (among U')) [
        | true ↦ (suc k, T, U)
        | false ↦ settle_from more (suc k) T' U'
      ]

  abbrev pub settled_of : ℕ × List ℕ × List ℕ
  settled_of = settle_from (suc B.width) 0 [] (listed B.width (below B.width))

  -- the verdict, by the T of the least reading
  abbrev pub verdict_of : Marks → Verdict
  verdict_of T = verdict_by (B.clash T) (agree B.width (among (full_of T)) (among (guarded_of T)))
