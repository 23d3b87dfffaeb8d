-- When a record is lawful for a width: its counts keep the limit, its used marks lie below the width, and its lists ascend.
use Rattle.std.specs.Prelude.{ℕ, ◌<◌, ◌≤◌, List, [], ◌∷◌, length, IfSome}
use Rattle.std.specs.List.{AllByRecursion}
use Rattle.lines.specs.declared.bar.Bar.{Bar}
use Rattle.lines.specs.declared.fare.FareLine.{FareLine}
use Rattle.lines.specs.declared.list.MarkList.{MarkList}
use Rattle.lines.specs.declared.term.TermLine.{TermLine}
use Rattle.lines.specs.Records.{used, term_head}

-- the marks ascend strictly: each is below all that follow
abbrev pub Ascends : List ℕ → Type 0
Ascends [] = Unit {0}
Ascends (m ∷ ms) = AllByRecursion (λ k. m < k) ms × Ascends ms

abbrev pub AllBelow : ℕ → List ℕ → Type 0
AllBelow w ms = AllByRecursion (λ m. m < w) ms

pub record LawfulList (w : ℕ) (l : MarkList) : Type 0 where
  pub count : l.count ≤ 8
  pub ascends : Ascends (used l)
  pub below : AllBelow w (used l)

pub record LawfulFare (w : ℕ) (l : FareLine) : Type 0 where
  pub head : l.head < w
  pub conditions : LawfulList w l.conditions
  pub unless : LawfulList w l.unless

-- of a denial's head nothing is asked
pub record LawfulTerm (w : ℕ) (l : TermLine) : Type 0 where
  pub head : IfSome (term_head l) (λ m. m < w)
  pub conditions : LawfulList w l.conditions

pub record LawfulBar (w : ℕ) (b : Bar) : Type 0 where
  pub ascends : b.low < b.high
  pub below : b.high < w

-- there are at most so many records, and each is lawful
pub record AllLawful {R : Type 0} (lawful : R → Type 0) (most : ℕ) (records : List R) : Type 0 where
  pub few : length records ≤ most
  pub each : AllByRecursion lawful records
