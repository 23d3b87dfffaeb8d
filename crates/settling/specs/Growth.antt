-- The rules that a gate lets count, and what it is to have grown a set by them and a book.
use Rattle.std.specs.Prelude.{◌≡◌, ◌<◌, Bool, true, false, List, map}
use mathlib.Core.List.{Memᴰ}
use Rattle.marks.specs.declared.set.MarkSet.{MarkSet}
use Rattle.marks.specs.MarkSets.{marks_of}
use Rattle.marks.specs.Sets.{Marks, ◌⊆◌, OfWidth, size}
use Rattle.readings.specs.Books.{Book, Closed}
use Rattle.readings.specs.Rules.{Rule, Counts}
use Rattle.readings.specs.Yields.{HasHeads, LeastClosed}
use Rattle.lines.specs.Records.{rule_of}
use Rattle.lines.specs.Theorems.{IsAdmitted}
use Rattle.lines.specs.declared.admission.Admission.{Admission}
use Rattle.lines.specs.declared.fare.FareLine.{FareLine}

-- the rules that fare lines are
abbrev pub rules_of : List FareLine → List Rule
rules_of = map rule_of

-- one of the fare lines, which the gate admits
pub record LineLetIn (lines : List Rule) (E D R : Marks) (r : Rule) : Type 0 where
  pub line : Memᴰ r lines
  pub admitted : IsAdmitted E D R r

-- a rule that counts, fact or fare line, and that the gate admits
pub record LetIn (lines : List Rule) (facts E D R : Marks) (r : Rule) : Type 0 where
  pub counts : Counts lines facts r
  pub admitted : IsAdmitted E D R r

-- the same for a gate in memory
abbrev pub LineLetInBy : List FareLine → Admission → Rule → Type 0
LineLetInBy lines gate = LineLetIn (rules_of lines) (marks_of gate.exceptions) (marks_of gate.denied) (marks_of gate.refuted)

abbrev pub LetInBy : List FareLine → MarkSet → Admission → Rule → Type 0
LetInBy lines facts gate = LetIn (rules_of lines) (marks_of facts) (marks_of gate.exceptions) (marks_of gate.denied) (marks_of gate.refuted)

-- a set in memory became the least closed set around it that has the heads of the rules of P
pub record Grown (B : Book) (P : Rule → Type 0) (before after : MarkSet) : Type 0 where
  pub width : after.width ≡ B.width
  pub least : LeastClosed B (marks_of before) P (marks_of after)

-- between two turns: L has the heads of the rules of P, and X is a closed set around it at which the book does not clash
pub record Between (B : Book) (P : Rule → Type 0) (L X : MarkSet) : Type 0 where
  pub lined : L.width ≡ B.width
  pub width : X.width ≡ B.width
  pub heads : HasHeads P (marks_of L)
  pub within : marks_of L ⊆ marks_of X
  pub closed : Closed B (marks_of X)
  pub quiet : B.clash (marks_of X) ≡ false

-- One turn of growing, from L and X to L' and X': heads were brought in until none was left, and the set was closed. There is another
-- turn to make only where the book does not clash.
pub record Turned (B : Book) (P : Rule → Type 0) (L X L' X' : MarkSet) (more : Bool) : Type 0 where
  pub width : X'.width ≡ B.width
  pub around : marks_of X ⊆ marks_of X'
  -- it grew by nothing that need not be there
  pub least : (Z : Marks) → OfWidth B.width Z → Closed B Z → HasHeads P Z → marks_of X ⊆ Z → marks_of X' ⊆ Z
  pub goes_on : more ≡ true → Between B P L' X' × (size B.width (marks_of L) < size B.width (marks_of L'))
  pub ends : more ≡ false → Closed B (marks_of X') × HasHeads P (marks_of X')
