-- What is proved of the answers on a sheet as a whole.
use Rattle.std.specs.Prelude.{ℕ}
use Rattle.marks.specs.Sets.{Marks}
use Rattle.readings.specs.ExactlyOne.{ExactlyOne}
use Rattle.readings.specs.declared.answer.Answer.{Answer}
use Rattle.sheet.specs.Looks.{HowMany}

-- There is exactly one number of marks with each answer.
abbrev pub CountsDecide : Type 0
CountsDecide = (w : ℕ) (T U : Marks) (a : Answer) → ExactlyOne (HowMany w T U a)
