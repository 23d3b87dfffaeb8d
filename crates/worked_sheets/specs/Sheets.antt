-- What a worked sheet is: what is given of it, and what is to come out; and the notation for its lines.
use Rattle.std.specs.Prelude.{ℕ, List, [], ◌∷◌, ◌++◌, length, take}
use Rattle.lines.specs.declared.list.MarkList.{MarkList}
use Rattle.lines.specs.declared.term.Kind.TheVariants.{Gives, Denies}
use Rattle.lines.specs.declared.term.TermLine.{TermLine}
use Rattle.readings.specs.Books.{Book}
use Rattle.readings.specs.Rules.{Rule}
use Rattle.readings.specs.declared.answer.Answer.{Answer}
use Rattle.readings.specs.declared.verdict.Verdict.{Verdict}

-- Sets are given by the lists of their marks.
pub record Sheet : Type 0 where
  pub book : Book
  pub lines : List Rule
  pub facts : List ℕ
  -- the sets of the least reading
  pub T : List ℕ
  pub U : List ℕ
  -- the answer of each mark of the width, mark 0 first
  pub answers : List Answer
  pub verdict : Verdict
  pub rounds : ℕ
  -- T and U after each round
  pub steps : List (List ℕ × List ℕ)
  -- all sound readings
  pub sound : List (List ℕ)

-- the fare line `head if conditions unless exceptions`
abbrev pub fare : (head : ℕ) (conditions exceptions : List ℕ) → Rule
fare h cs es = record { head = h; conditions = cs; exceptions = es }

-- a list of at most eight marks as a record holds it, with zeros in the unused places
abbrev pub places : List ℕ → MarkList
places ms = record { count = length ms; marks = take 8 (ms ++ (0 ∷ 0 ∷ 0 ∷ 0 ∷ 0 ∷ 0 ∷ 0 ∷ 0 ∷ [])) }

-- the term lines `conditions gives head` and `conditions is denied`
abbrev pub gives : (conditions : List ℕ) (head : ℕ) → TermLine
gives cs h = record { kind = Gives; head = h; conditions = places cs }

abbrev pub denied : (conditions : List ℕ) → TermLine
denied cs = record { kind = Denies; head = 0; conditions = places cs }
