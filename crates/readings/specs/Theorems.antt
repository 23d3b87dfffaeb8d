-- What is proved of readings. Each statement stands in the contract of a function of src/theorems.rt, so that its proof is asked
-- for.
use Rattle.std.specs.Prelude.{List, ◌↔◌, ◌≡◌, ℕ, ◌+◌, ◌≤◌}
use Rattle.marks.specs.Sets.{Marks, ◌∈◌, ◌⊆◌, no_marks, below, among, OfWidth, outside}
use Rattle.readings.specs.ExactlyOne.{ExactlyOne}
use Rattle.readings.specs.Books.{Book, Lawful, Clashes}
use Rattle.readings.specs.Rules.{Rule, Fit}
use Rattle.readings.specs.Yields.{Full, Guarded}
use Rattle.readings.specs.Readings.{Reading, LeastReading, Sound}
use Rattle.readings.specs.Methods.{Run, FirstRound, first_method, SecondRound, second_method}
use Rattle.readings.specs.Says.{the_answer, the_verdict, Rounds}
use Rattle.readings.specs.WellFounded.{bare, WellFoundedModel}
use Rattle.readings.specs.Computed.{full_of, guarded_of, settled_of, verdict_of}
use Rattle.readings.specs.declared.answer.Answer.{Answer}
use Rattle.readings.specs.declared.answer.Answer.TheVariants.{Not, Holds}
use Rattle.readings.specs.declared.verdict.Verdict.{Verdict}
use Rattle.readings.specs.declared.verdict.Verdict.TheVariants.{Broken}
use Rattle.readings.specs.declared.method.Method.{Method}
use Rattle.readings.specs.declared.method.Method.TheVariants.{First}

-- for every book that keeps the laws, any fare lines within its width and any facts of its width
abbrev pub Always : (Book → List Rule → Marks → Type 0) → Type 0
Always P = (B : Book) (lines : List Rule) (facts : Marks) → Fit B lines facts → P B lines facts

module _ (B : Book) (lines : List Rule) (facts : Marks) where
  -- Every set has exactly one full yield and exactly one guarded yield.
  pub record YieldsExistOnce : Type 0 where
    pub full : (S : Marks) → ExactlyOne (Full B lines facts S)
    pub guarded : (S : Marks) → ExactlyOne (Guarded B lines facts S)

  -- Both yields fall as the set grows, and the guarded lies within the full.
  pub record YieldsFall : Type 0 where
    pub full : (S S' X X' : Marks) → S ⊆ S'
        → Full B lines facts S X → Full B lines facts S' X' → X' ⊆ X
    pub guarded : (S S' X X' : Marks) → OfWidth B.width S' → S ⊆ S'
        → Guarded B lines facts S X → Guarded B lines facts S' X' → X' ⊆ X
    pub within : (S X Y : Marks) → Guarded B lines facts S X → Full B lines facts S Y → X ⊆ Y

  -- There is exactly one least reading.
  abbrev pub OneLeastReading : Type 0
  OneLeastReading = ExactlyOne (λ (p : Marks × Marks). LeastReading B lines facts p.0 p.1)

  -- In the first method T only grows and U only shrinks, and a round that changes neither is at the least reading.
  pub record FirstMethodFindsIt : Type 0 where
    pub grows : (k : ℕ) (T U T' U' : Marks) → Run (first_method B lines facts) k T U → FirstRound B lines facts U T' U' → T ⊆ T'
    pub shrinks : (k : ℕ) (T U T' U' : Marks) → Run (first_method B lines facts) k T U → FirstRound B lines facts U T' U'
        → U' ⊆ U
    pub rests : (k : ℕ) (T U : Marks) → Run (first_method B lines facts) k T U → FirstRound B lines facts U T U
        → LeastReading B lines facts T U

  -- The second method never takes a mark out. It goes through the same pair as the first in every round, so both stop after the
  -- same number of rounds with the same reading, and the same verdict.
  pub record MethodsAgree : Type 0 where
    pub grows : (T F T' F' : Marks) → SecondRound B lines facts T F T' F' → (T ⊆ T') × (F ⊆ F')
    pub second_as_first : (k : ℕ) (T F : Marks) → Run (second_method B lines facts) k T F
        → Run (first_method B lines facts) k T (outside B.width F)
    pub first_as_second : (k : ℕ) (T U : Marks) → Run (first_method B lines facts) k T U
        → (F : Marks) × Run (second_method B lines facts) k T F × (U ≡ outside B.width F)
    pub stop : (j k : Method) (n : ℕ) (T U : Marks) → Rounds B lines facts j n T U → Rounds B lines facts k n T U
    pub end : (j k : Method) (n n' : ℕ) (T U T' U' : Marks)
        → Rounds B lines facts j n T U → Rounds B lines facts k n' T' U' → (n ≡ n') × (T ≡ T') × (U ≡ U')
    pub verdict : (j k : Method) (n n' : ℕ) (T U T' U' : Marks) (v v' : Verdict)
        → Rounds B lines facts j n T U → Rounds B lines facts k n' T' U'
        → (the_verdict v).says B lines facts T U → (the_verdict v').says B lines facts T' U' → v ≡ v'

  -- Each method stops: there is exactly one number of rounds with one pair at the end. That pair is the least reading, and the
  -- rounds are at most the width and 2.
  pub record MethodsStop : Type 0 where
    pub once : (k : Method) → ExactlyOne (λ (e : ℕ × Marks × Marks). Rounds B lines facts k e.0 e.1 e.2)
    pub reading : (k : Method) (n : ℕ) (T U : Marks) → Rounds B lines facts k n T U → LeastReading B lines facts T U
    pub bound : (k : Method) (n : ℕ) (T U : Marks) → Rounds B lines facts k n T U → n ≤ B.width + 2

  -- A mark that holds is in every sound reading, one that is not is in none, and broken facts have no sound reading: every sound
  -- reading, taken for both sets, is a reading.
  pub record AnswersAreSound : Type 0 where
    pub reading : (M : Marks) → Sound B lines facts M → Reading B lines facts M M
    pub holds : (T U : Marks) (m : ℕ) → LeastReading B lines facts T U → (the_answer Holds).says T U m
        → (M : Marks) → Sound B lines facts M → m ∈ M
    pub not : (T U : Marks) (m : ℕ) → LeastReading B lines facts T U → (the_answer Not).says T U m
        → (M : Marks) → Sound B lines facts M → m ∈ M → ⊥
    pub broken : (T U : Marks) → LeastReading B lines facts T U → (the_verdict Broken).says B lines facts T U
        → (M : Marks) → Sound B lines facts M → ⊥

  -- What is so where facts are broken, and where they are not.
  pub record BrokenFacts : Type 0 where
    -- they are broken exactly when the book clashes at the T of their least reading
    pub exactly : (T U : Marks) → LeastReading B lines facts T U → (the_verdict Broken).says B lines facts T U ↔ Clashes B T
    -- T is then all marks, so that each mark holds or is both
    pub all : (T U : Marks) → LeastReading B lines facts T U → (the_verdict Broken).says B lines facts T U → T ≡ below B.width
    -- and else T lies within U, so that no mark is both
    pub within : (T U : Marks) → LeastReading B lines facts T U → ((the_verdict Broken).says B lines facts T U → ⊥) → T ⊆ U
    -- where the book clashes at the empty set, every mark holds
    pub contradicting : (T U : Marks) → LeastReading B lines facts T U → Clashes B no_marks → (T ≡ below B.width) × (U ≡ below B.width)

  -- A pair of sets gives exactly one answer of each mark, and the least reading exactly one verdict.
  pub record SaysOneThing : Type 0 where
    pub answer : (T U : Marks) (m : ℕ) → ExactlyOne (λ (a : Answer). (the_answer a).says T U m)
    pub verdict : (T U : Marks) → LeastReading B lines facts T U
        → ExactlyOne (λ (v : Verdict). (the_verdict v).says B lines facts T U)

  -- So each relation that a promise cites has exactly one solution: to meet it is to be equal to that.
  pub record RelationsDecide : Type 0 where
    pub yields : YieldsExistOnce
    pub reading : OneLeastReading
    pub rounds : MethodsStop
    pub says : SaysOneThing

  -- What is computed is what the definitions say.
  pub record ComputedRight : Type 0 where
    pub full : (S : Marks) → Full B lines facts S (among (full_of B lines facts S))
    pub guarded : (S : Marks) → Guarded B lines facts S (among (guarded_of B lines facts S))
    pub settled : let e = settled_of B lines facts in Rounds B lines facts First e.0 (among e.1) (among e.2)
    pub verdict : (T U : Marks) → LeastReading B lines facts T U
        → (the_verdict (verdict_of B lines facts T)).says B lines facts T U

-- The bare book keeps the laws. With it the T of the least reading is the T of the well-founded model, and the marks outside its
-- U are the F; there is exactly one such model.
pub record BareBookIsWellFounded : Type 0 where
  pub lawful : (w : ℕ) → Lawful (bare w)
  pub model : (w : ℕ) (lines : List Rule) (facts : Marks) → Fit (bare w) lines facts
      → (T U : Marks) → LeastReading (bare w) lines facts T U → WellFoundedModel w lines facts T (outside w U)
  pub once : (w : ℕ) (lines : List Rule) (facts : Marks) → Fit (bare w) lines facts
      → ExactlyOne (λ (p : Marks × Marks). WellFoundedModel w lines facts p.0 p.1)
