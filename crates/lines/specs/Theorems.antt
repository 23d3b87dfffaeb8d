-- What is proved of records, of admission and of passes. Each statement stands in the contract of a function of
-- src/theorems.rt, so its proof is asked for.
use Rattle.std.specs.Prelude.{◌≡◌, ℕ, ◌<◌, true, T, List, map, Some, None, Decides, ◌≢◌}
use mathlib.Core.List.{Memᴰ}
use Rattle.std.specs.List.{AllByRecursion}
use Rattle.marks.specs.Sets.{Marks, ◌∈◌, ◌⊆◌, OfWidth, size}
use Rattle.readings.specs.Rules.{Rule, AllIn, NoneIn, RuleWithin}
use Rattle.lines.specs.declared.bar.Bar.{Bar}
use Rattle.lines.specs.declared.fare.FareLine.{FareLine}
use Rattle.lines.specs.declared.term.TermLine.{TermLine}
use Rattle.lines.specs.Equal.{SameFare, SameTerm, SameBar}
use Rattle.lines.specs.Lawful.{LawfulFare, LawfulTerm, LawfulBar}
use Rattle.lines.specs.Passes.{View, swept, stood}
use Rattle.lines.specs.Records.{rule_of}
use Rattle.lines.specs.Views.{term_view, bar_view, admits}

-- Unused places have no influence: equal records are lawful for the same widths and mean the same.
pub record EqualMeansSame : Type 0 where
  pub fare : (a b : FareLine) → SameFare a b → rule_of a ≡ rule_of b
  pub term : (a b : TermLine) → SameTerm a b → term_view a ≡ term_view b
  pub bar : (a b : Bar) → SameBar a b → bar_view a ≡ bar_view b
  pub lawful_fare : (w : ℕ) (a b : FareLine) → SameFare a b → LawfulFare w a → LawfulFare w b
  pub lawful_term : (w : ℕ) (a b : TermLine) → SameTerm a b → LawfulTerm w a → LawfulTerm w b
  pub lawful_bar : (w : ℕ) (a b : Bar) → SameBar a b → LawfulBar w a → LawfulBar w b

-- Lawful fare lines are rules with all their marks below the width.
abbrev pub LawfulLinesFit : Type 0
LawfulLinesFit = (w : ℕ) (lines : List FareLine) → AllByRecursion (LawfulFare w) lines → (r : Rule) → Memᴰ r (map rule_of lines) → RuleWithin w r

-- A rule is admitted exactly when it passes three tests.
pub record IsAdmitted (E D R : Marks) (r : Rule) : Type 0 where
  pub exceptions : NoneIn r.exceptions E
  pub head : r.head ∈ D → ⊥
  pub conditions : NoneIn r.conditions R

abbrev pub AdmissionStands : Type 0
AdmissionStands = (E D R : Marks) (r : Rule) → Decides (admits E D R r) (IsAdmitted E D R r)

-- the line v is one of vs, is admitted, and the set has all its conditions
pub record Fires (vs : List View) (v : View) (S : Marks) : Type 0 where
  pub line : Memᴰ v vs
  pub admitted : T v.admitted
  pub conditions : AllIn v.conditions S

-- the set has the head of each line that fires at it, where that is a mark of the width
abbrev pub HasTheirHeads : ℕ → List View → Marks → Type 0
HasTheirHeads w vs S = (v : View) (m : ℕ) → Fires vs v S → v.head ≡ Some m → m < w → m ∈ S

-- a line without a head fires at the set
pub record SomeHeadless (vs : List View) (S : Marks) : Type 0 where
  pub it : View
  pub fires : Fires vs it S
  pub headless : it.head ≡ None

-- What a pass does, in plain words.
pub record PassesStand : Type 0 where
  -- the set only grows, by marks of the width
  pub grows : (w : ℕ) (vs : List View) (S : Marks) → S ⊆ swept w vs S
  pub of_width : (w : ℕ) (vs : List View) (S : Marks) → OfWidth w S → OfWidth w (swept w vs S)
  -- it grows by heads alone: it stays within every set around it that has the heads of the lines that fire there
  pub least : (w : ℕ) (vs : List View) (S Z : Marks) → S ⊆ Z → HasTheirHeads w vs Z → swept w vs S ⊆ Z
  -- it brings in the heads of the lines that fire at the set it began with, and tells of a line without a head that fires there
  pub heads : (w : ℕ) (vs : List View) (S : Marks) (v : View) (m : ℕ) → Fires vs v S → v.head ≡ Some m → m < w → m ∈ swept w vs S
  pub told : (w : ℕ) (vs : List View) (S : Marks) (v : View) → Fires vs v S → v.head ≡ None → stood w vs S ≡ true
  -- a pass that adds nothing leaves a set that has these heads, and such a set is left as it is
  pub rests : (w : ℕ) (vs : List View) (S : Marks) → swept w vs S ≡ S → HasTheirHeads w vs S
  pub stays : (w : ℕ) (vs : List View) (S : Marks) → HasTheirHeads w vs S → swept w vs S ≡ S
  -- a pass that adds makes the set greater
  pub more : (w : ℕ) (vs : List View) (S : Marks) → OfWidth w S → (swept w vs S ≢ S) → size w S < size w (swept w vs S)
  -- what stood in its turn stands at the end
  pub stands : (w : ℕ) (vs : List View) (S : Marks) → stood w vs S ≡ true → SomeHeadless vs (swept w vs S)
  -- and a pass that adds nothing tells exactly whether a line without a head fires at the set
  pub decides : (w : ℕ) (vs : List View) (S : Marks) → swept w vs S ≡ S → Decides (stood w vs S) (SomeHeadless vs S)
