-- What it is for a sheet to come out in a given way, by the definitions of readings.
use Rattle.std.specs.Prelude.{◌≡◌, ℕ, suc, Bool, List, [], ◌∷◌, length}
use mathlib.Core.List.{Memᴰ}
use Rattle.marks.specs.Sets.{Marks, among}
use Rattle.readings.specs.Books.{Book}
use Rattle.readings.specs.Methods.{Run}
use Rattle.readings.specs.Readings.{LeastReading, Sound}
use Rattle.readings.specs.Rules.{Fit}
use Rattle.readings.specs.Says.{the_answer, the_verdict, the_method, Rounds}
use Rattle.readings.specs.Yields.{Full, Guarded}
use Rattle.readings.specs.declared.answer.Answer.{Answer}
use Rattle.readings.specs.declared.method.Method.{Method}
use Rattle.worked_sheets.specs.Sheets.{Sheet}

-- the marks from m on have these answers
abbrev pub Answered : (T U : Marks) (m : ℕ) → List Answer → Type 0
Answered T U m [] = Unit {0}
Answered T U m (a ∷ rest) = (the_answer a).says T U m × Answered T U (suc m) rest

-- n rounds of the method lead to T and U
pub record After (s : Sheet) (k : Method) (n : ℕ) (T U : List ℕ) : Type 0 where
  pub other : Marks
  pub run : Run ((the_method k).way s.book s.lines (among s.facts)) n (among T) other
  pub upper : among U ≡ ((the_method k).way s.book s.lines (among s.facts)).upper other

-- so for each step, the first of them after n rounds
abbrev pub Goes : Sheet → Method → ℕ → List (List ℕ × List ℕ) → Type 0
Goes s k n [] = Unit {0}
Goes s k n (p ∷ rest) = After s k n p.0 p.1 × Goes s k (suc n) rest

pub record Worked (s : Sheet) : Type 0 where
  -- the book keeps its laws, and fare lines and facts are within its width
  pub fit : Fit s.book s.lines (among s.facts)
  pub reading : LeastReading s.book s.lines (among s.facts) (among s.T) (among s.U)
  -- each mark of the width has its answer
  pub answers : Answered (among s.T) (among s.U) 0 s.answers
  pub all_answers : length s.answers ≡ s.book.width
  pub verdict : (the_verdict s.verdict).says s.book s.lines (among s.facts) (among s.T) (among s.U)
  -- either method takes these rounds
  pub rounds : (k : Method) → Rounds s.book s.lines (among s.facts) k s.rounds (among s.T) (among s.U)
  -- and has these sets after each
  pub steps : (k : Method) → Goes s k 1 s.steps
  pub all_steps : length s.steps ≡ s.rounds
  -- each of these sets is a sound reading, and no other set is one
  pub sound : (ms : List ℕ) → Memᴰ ms s.sound → Sound s.book s.lines (among s.facts) (among ms)
  pub no_other : (M : Marks) → Sound s.book s.lines (among s.facts) M → (ms : List ℕ) × Memᴰ ms s.sound × (M ≡ among ms)

-- what a book says of one set: its closure, and whether it clashes there
pub record BookSays (B : Book) (S closure : List ℕ) (clash : Bool) : Type 0 where
  pub closes : B.closure (among S) ≡ among closure
  pub clashes : B.clash (among S) ≡ clash

-- the full and the guarded yield of one set
pub record YieldsAre (s : Sheet) (S full guarded : List ℕ) : Type 0 where
  pub is_full : Full s.book s.lines (among s.facts) (among S) (among full)
  pub is_guarded : Guarded s.book s.lines (among s.facts) (among S) (among guarded)
