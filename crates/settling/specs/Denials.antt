-- Heads that a book denies at a set, and sets of marks that it does not.
use Rattle.std.specs.Prelude.{◌≡◌, ℕ, ◌<◌, Bool, true, false, ◌&&◌, List, nat_lt, Some, None, Option}
use Rattle.marks.specs.declared.set.MarkSet.{MarkSet}
use Rattle.marks.specs.MarkSets.{marks_of}
use Rattle.marks.specs.Sets.{Marks, ◌∈◌, ◌⊆◌, with_mark}
use Rattle.readings.specs.Books.{Book, Closed, Denied}
use Rattle.readings.specs.Rules.{Rule, Counts}
use Rattle.lines.specs.declared.fare.FareLine.{FareLine}
use Rattle.settling.specs.Growth.{rules_of}

-- a fare line whose head, if it is a mark of the width, is in the set
abbrev pub HeadIn : ℕ → Marks → FareLine → Type 0
HeadIn w X l = l.head < w → l.head ∈ X

-- the marks of C below n that the book denies at S
abbrev pub denied_below : Book → (S C : Marks) → ℕ → Marks
denied_below B S C n m = nat_lt m n && (C m && B.clash (with_mark S m))

-- of the heads of the rules that count, the set D holds none but those that the book denies at S
pub record OnlyDenied (B : Book) (lines : List FareLine) (facts : MarkSet) (S : Marks) (D : MarkSet) : Type 0 where
  pub width : D.width ≡ B.width
  pub denied : (r : Rule) → Counts (rules_of lines) (marks_of facts) r → r.head ∈ marks_of D → Denied B S r.head

-- and D holds all that it denies there
pub record DeniesHeads (B : Book) (lines : List FareLine) (facts : MarkSet) (S : Marks) (D : MarkSet) : Type 0 where
  pub only : OnlyDenied B lines facts S D
  pub others : (r : Rule) → Counts (rules_of lines) (marks_of facts) r → Denied B S r.head → r.head ∈ marks_of D

-- a set that is its own closure, and at which the book does not clash
pub record Clean (B : Book) (x : MarkSet) : Type 0 where
  pub width : x.width ≡ B.width
  pub closed : Closed B (marks_of x)
  pub quiet : B.clash (marks_of x) ≡ false

-- a clean set around S: the book denies none of its marks at S
pub record CleanAround (B : Book) (S : Marks) (x : MarkSet) : Type 0 where
  pub clean : Clean B x
  pub around : S ⊆ marks_of x

-- a set was closed with a mark added, and the answer is whether the book clashes at the set with that mark; where not, it is clean
pub record ClosedWith (B : Book) (m : ℕ) (before after : MarkSet) (clash : Bool) : Type 0 where
  pub told : clash ≡ B.clash (with_mark (marks_of before) m)
  pub clean : clash ≡ false → CleanAround B (with_mark (marks_of before) m) after

-- the two answers to the question for a clean set around S: there is none, since the book clashes at S, or it is x
abbrev pub CleanIfAny : Book → Marks → Option MarkSet → Type 0
CleanIfAny B S None = B.clash S ≡ true
CleanIfAny B S (Some x) = CleanAround B S x
