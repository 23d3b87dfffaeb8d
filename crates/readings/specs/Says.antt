-- What each answer, verdict and method is: its number, its word, and what it says. Every promise that names one uses these definitions.
use Rattle.std.specs.Prelude.{List, ◌⊎◌, ◌≡◌, ℕ, Result, MatchResult, codes}
use Rattle.marks.specs.Sets.{Marks, ◌∈◌, no_marks}
use Rattle.readings.specs.Books.{Book, Clashes}
use Rattle.readings.specs.Rules.{Rule}
use Rattle.readings.specs.Yields.{Full, Guarded}
use Rattle.readings.specs.Methods.{Way, Stops, first_method, second_method}
use Rattle.readings.specs.declared.answer.Answer.{Answer}
use Rattle.readings.specs.declared.answer.Answer.TheVariants.{Not, Holds, Open, Both}
use Rattle.readings.specs.declared.verdict.Verdict.{Verdict}
use Rattle.readings.specs.declared.verdict.Verdict.TheVariants.{Clear, Suspect, Broken}
use Rattle.readings.specs.declared.method.Method.{Method}
use Rattle.readings.specs.declared.method.Method.TheVariants.{First, Second}
use Rattle.readings.specs.declared.method.UnknownMethod.{UnknownMethod}

-- An answer says where a mark m lies in the least reading T, U.
pub record AnswerCase : Type 1 where
  pub number : ℕ
  -- how it is written for people
  pub word : List ℕ
  pub says : (T U : Marks) (m : ℕ) → Type 0

abbrev pub the_answer : Answer → AnswerCase
the_answer Not = record { number = 0; word = codes "not"; says = λ T U m. (m ∈ T → ⊥) × (m ∈ U → ⊥) }
the_answer Holds = record { number = 1; word = codes "holds"; says = λ T U m. (m ∈ T) × (m ∈ U) }
the_answer Open = record { number = 2; word = codes "open"; says = λ T U m. (m ∈ T → ⊥) × (m ∈ U) }
the_answer Both = record { number = 3; word = codes "both"; says = λ T U m. (m ∈ T) × (m ∈ U → ⊥) }

-- the book clashes at the empty set, or some mark is both
abbrev pub IsBroken : Book → (T U : Marks) → Type 0
IsBroken B T U = Clashes B no_marks ⊎ ((m : ℕ) × (the_answer Both).says T U m)

-- The yields are part of both statements, so that neither can be had for want of a yield.
module _ (B : Book) (lines : List Rule) (facts : Marks) where
  -- the full and the guarded yield of S differ
  pub record YieldsDiffer (S : Marks) : Type 0 where
    pub full_yield : Marks
    pub guarded_yield : Marks
    pub full : Full B lines facts S full_yield
    pub guarded : Guarded B lines facts S guarded_yield
    pub differ : full_yield ≡ guarded_yield → ⊥

  -- one set is both the full and the guarded yield of S
  pub record YieldsAgree (S : Marks) : Type 0 where
    pub yield : Marks
    pub full : Full B lines facts S yield
    pub guarded : Guarded B lines facts S yield

-- A verdict is about facts, with fare lines and a book, and goes by their least reading T, U.
pub record VerdictCase : Type 1 where
  pub number : ℕ
  pub word : List ℕ
  pub says : (B : Book) (lines : List Rule) (facts T U : Marks) → Type 0

abbrev pub the_verdict : Verdict → VerdictCase
the_verdict Clear = record { number = 0; word = codes "clear"; says = λ B lines facts T U. (IsBroken B T U → ⊥) × YieldsAgree B lines facts T }
the_verdict Suspect = record { number = 1; word = codes "suspect"; says = λ B lines facts T U. (IsBroken B T U → ⊥) × YieldsDiffer B lines facts T }
the_verdict Broken = record { number = 2; word = codes "broken"; says = λ B lines facts T U. IsBroken B T U }

-- A method is a way of settling facts, with fare lines and a book.
pub record MethodCase : Type 1 where
  pub number : ℕ
  pub way : (B : Book) (lines : List Rule) (facts : Marks) → Way

abbrev pub the_method : Method → MethodCase
the_method First = record { number = 1; way = first_method }
the_method Second = record { number = 2; way = second_method }

-- the result is the method of this number, or an error with a number that no method has
abbrev pub Numbers : ℕ → Result Method UnknownMethod → Type 0
Numbers n r = MatchResult r (λ k. (the_method k).number ≡ n) (λ e. (e.0 ≡ n) × ((k : Method) → (the_method k).number ≡ n → ⊥))

-- the rounds of this method are n, and it ends with T and U
abbrev pub Rounds : (B : Book) (lines : List Rule) (facts : Marks) → Method → ℕ → (T U : Marks) → Type 0
Rounds B lines facts k n T U = Stops ((the_method k).way B lines facts) n T U
