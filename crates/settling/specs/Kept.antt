-- What is kept at two sets, and sets that lie within what is yet to grow.
use Rattle.std.specs.Prelude.{◌≡◌, List}
use Rattle.marks.specs.declared.set.MarkSet.{MarkSet}
use Rattle.marks.specs.MarkSets.{marks_of}
use Rattle.marks.specs.Sets.{Marks, ◌⊆◌, OfWidth, no_marks}
use Rattle.readings.specs.Books.{Book, Closed}
use Rattle.readings.specs.Methods.{NotRefuted}
use Rattle.readings.specs.Rules.{Rule}
use Rattle.readings.specs.Yields.{HasHeads, LeastClosed}
use Rattle.lines.specs.declared.fare.FareLine.{FareLine}
use Rattle.settling.specs.Growth.{rules_of}

-- x is what is kept at T and F, of the book's width: the second set of a round of the second method. Where F is empty, it is the
-- guarded yield of T.
pub record KeptAt (B : Book) (lines : List FareLine) (facts T F x : MarkSet) : Type 0 where
  pub width : x.width ≡ B.width
  pub kept : LeastClosed B no_marks (NotRefuted B (rules_of lines) (marks_of facts) (marks_of F) (marks_of T)) (marks_of x)

-- A lies within every closed set that has the heads of the rules of P, and so within the least one
abbrev pub WithinLeast : Book → Marks → (Rule → Type 0) → Type 0
WithinLeast B A P = (Z : Marks) → OfWidth B.width Z → Closed B Z → HasHeads P Z → A ⊆ Z
