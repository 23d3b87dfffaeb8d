-- Records with their unused places 0: what a reading gives.
use Rattle.std.specs.Prelude.{◌≡◌, ℕ, map}
use Rattle.lines.specs.declared.fare.FareLine.{FareLine}
use Rattle.lines.specs.declared.list.MarkList.{MarkList}
use Rattle.lines.specs.declared.term.Kind.{Kind}
use Rattle.lines.specs.declared.term.Kind.TheVariants.{Gives, Denies}
use Rattle.lines.specs.declared.term.TermLine.{TermLine}
use Rattle.lines.specs.Lawful.{LawfulList, LawfulFare, LawfulTerm}
use Rattle.lines.specs.Records.{used}
use Rattle.tariff_format.specs.Encoding.{Tariff, LawfulTariff}
use Rattle.tariff_format.specs.Lines.{held}

-- the same record with 0 in its unused places
abbrev pub tidy_list : MarkList → MarkList
tidy_list l = held (used l)

abbrev pub tidy_fare : FareLine → FareLine
tidy_fare l = record { head = l.head; conditions = tidy_list l.conditions; unless = tidy_list l.unless }

-- a denial's head is an unused place
abbrev pub tidy_head : Kind → ℕ → ℕ
tidy_head Gives m = m
tidy_head Denies m = 0

abbrev pub tidy_term : TermLine → TermLine
tidy_term l = record { kind = l.kind; head = tidy_head l.kind l.head; conditions = tidy_list l.conditions }

abbrev pub tidy_tariff : Tariff → Tariff
tidy_tariff t = record { width = t.width; fares = map tidy_fare t.fares; terms = map tidy_term t.terms }

-- lawful, and the unused places are 0
pub record Tidy {R : Type 0} (L : R → Type 0) (tidy : R → R) (x : R) : Type 0 where
  pub lawful : L x
  pub zeros : tidy x ≡ x

abbrev pub TidyList : ℕ → MarkList → Type 0
TidyList w = Tidy (LawfulList w) tidy_list

abbrev pub TidyFare : ℕ → FareLine → Type 0
TidyFare w = Tidy (LawfulFare w) tidy_fare

abbrev pub TidyTerm : ℕ → TermLine → Type 0
TidyTerm w = Tidy (LawfulTerm w) tidy_term

abbrev pub TidyTariff : Tariff → Type 0
TidyTariff = Tidy LawfulTariff tidy_tariff
