-- The meaning of a line book.
use Rattle.std.specs.Prelude.{ℕ, true, false, List, [], ◌∷◌, ◌++◌, Some, None, Option}
use Rattle.std.specs.List.{AllByRecursion}
use Rattle.books.specs.Denials.{denying}
use Rattle.lines.specs.declared.term.TermLine.{TermLine}
use Rattle.lines.specs.Lawful.{LawfulTerm}
use Rattle.lines.specs.Records.{term_head, term_conditions}
use Rattle.marks.specs.Sets.{Marks, among}
use Rattle.readings.specs.Books.{Book}
use Rattle.readings.specs.Computed.{listed, filled}
use Rattle.readings.specs.WellFounded.{bare}
use Rattle.readings.specs.Rules.{Rule}

-- all lines are lawful for the width
abbrev pub LawfulLines : ℕ → List TermLine → Type 0
LawfulLines w lines = AllByRecursion (LawfulTerm w) lines

-- a giving line is a rule without exceptions, and a denial is none
abbrev pub giving : Option ℕ → List ℕ → List Rule
giving None ms = []
giving (Some h) ms = record { head = h; conditions = ms; exceptions = [] } ∷ []

abbrev pub givings : List TermLine → List Rule
givings [] = []
givings (l ∷ ls) = giving (term_head l) (term_conditions l) ++ givings ls

-- the conditions of the denials
abbrev pub denial : Option ℕ → List ℕ → List (List ℕ)
denial None ms = ms ∷ []
denial (Some h) ms = []

abbrev pub denials : List TermLine → List (List ℕ)
denials [] = []
denials (l ∷ ls) = denial (term_head l) (term_conditions l) ++ denials ls

-- The grown set of S: the heads of the giving lines whose conditions are there are added to S, as often as there are marks. That
-- this makes the least set around S with these heads is proved (Theorems, `GrownSet`).
abbrev pub grown : ℕ → List TermLine → Marks → Marks
grown w lines S = among (filled (bare w) (givings lines) (λ r. true) w (listed w S))

-- the book of the giving lines alone
abbrev pub growing : ℕ → List TermLine → Book
growing w lines = record { width = w; closure = grown w lines; clash = λ S. false }

-- The book clashes at S exactly where the grown set of S has all conditions of a denial. The closure is then all marks, and else
-- the grown set.
abbrev pub line_book : ℕ → List TermLine → Book
line_book w lines = denying (growing w lines) (denials lines)
