-- What is answered of settled sheets as a whole: how many marks have each answer, and whether two sheets agree.
use Rattle.std.specs.Prelude.{◌≡◌, ℕ, ◌<◌, ◌↔◌}
use Rattle.marks.specs.Sets.{Marks, ◌∈◌, size}
use Rattle.readings.specs.Says.{the_answer}
use Rattle.readings.specs.declared.answer.Answer.{Answer}
use Rattle.readings.specs.declared.answer.Answer.TheVariants.{Not, Holds, Open, Both}
use Rattle.sheet.specs.Cases.{the_state}
use Rattle.sheet.specs.declared.reply.Counts.{Counts}
use Rattle.sheet.specs.declared.sheet.Sheet.{Sheet}

-- n is how many marks of the width have this answer by T and U
pub record HowMany (w : ℕ) (T U : Marks) (a : Answer) (n : ℕ) : Type 0 where
  pub those : Marks
  pub exactly : (m : ℕ) → m < w → m ∈ those ↔ (the_answer a).says T U m
  pub number : n ≡ size w those

-- the four numbers of a sheet of the width w that is settled with T and U
pub record Counted (w : ℕ) (c : Counts) (T U : Marks) : Type 0 where
  pub holds : HowMany w T U Holds c.holds
  pub not : HowMany w T U Not c.not
  pub «open» : HowMany w T U Open c.«open»
  pub both : HowMany w T U Both c.both

-- two readings give the same answer at every mark; from the width on no set has a mark, so nothing is asked there
unfoldable pub SameAnswers : (T U T' U' : Marks) → Type 0
SameAnswers T U T' U' = (m : ℕ) → (a : Answer) × (the_answer a).says T U m × (the_answer a).says T' U' m

-- and so do two settled sheets
abbrev pub Agree : Sheet → Sheet → Type 0
Agree s s' = (the_state s.state).settled (λ T U. (the_state s'.state).settled (SameAnswers T U))
