-- What the calls of this crate test and answer.
use Rattle.std.specs.Prelude.{◌≡◌, ℕ, List}
use Rattle.marks.specs.declared.set.MarkSet.{MarkSet}
use Rattle.marks.specs.MarkSets.{marks_of}
use Rattle.readings.specs.Books.{Book}
use Rattle.readings.specs.Yields.{Full, Guarded}
use Rattle.lines.specs.Lawful.{LawfulFare, AllLawful}
use Rattle.lines.specs.declared.fare.FareLine.{FareLine}
use Rattle.settling.specs.Growth.{rules_of}

-- the set has another width than the book
abbrev pub Unlike : Book → MarkSet → Type 0
Unlike B s = s.width ≡ B.width → ⊥

-- at most 1,024 fare lines, each lawful for the width
abbrev pub LawfulFares : ℕ → List FareLine → Type 0
LawfulFares w lines = AllLawful (LawfulFare w) 1024 lines

-- facts and fare lines that go with a book
pub record GoesWith (B : Book) (lines : List FareLine) (facts : MarkSet) : Type 0 where
  pub width : facts.width ≡ B.width
  pub lawful : LawfulFares B.width lines

-- x is the full yield of the set, of the book's width
pub record FullYield (B : Book) (lines : List FareLine) (facts at x : MarkSet) : Type 0 where
  pub width : x.width ≡ B.width
  pub yield : Full B (rules_of lines) (marks_of facts) (marks_of at) (marks_of x)

-- x is the guarded yield of the set, of the book's width
pub record GuardedYield (B : Book) (lines : List FareLine) (facts at x : MarkSet) : Type 0 where
  pub width : x.width ≡ B.width
  pub yield : Guarded B (rules_of lines) (marks_of facts) (marks_of at) (marks_of x)
