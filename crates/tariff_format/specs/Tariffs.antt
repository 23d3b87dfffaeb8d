-- Tariffs in the caller's memory, and when two tariffs are the same.
use Rattle.std.specs.Prelude.{◌≡◌, ℕ, List, length}
use Rattle.std.specs.List.{AllZip, AllByRecursion}
use Rattle.lines.specs.declared.fare.FareLine.{FareLine}
use Rattle.lines.specs.declared.list.MarkList.{MarkList}
use Rattle.lines.specs.declared.term.TermLine.{TermLine}
use Rattle.lines.specs.Equal.{SameFare, SameTerm}
use Rattle.tariff_format.specs.declared.counts.Counts.{Counts}
use Rattle.tariff_format.specs.Encoding.{Tariff}

-- the tariff that a width and lines are
abbrev pub tariff_of : ℕ → List FareLine → List TermLine → Tariff
tariff_of w fares terms = record { width = w; fares = fares; terms = terms }

-- its width, and how many lines of each kind it has
abbrev pub counts_of : Tariff → Counts
counts_of t = record { width = t.width; fares = length t.fares; terms = length t.terms }

-- A list in memory has eight places, used or not. Every record there is whole, by its type.
abbrev pub WholeList : MarkList → Type 0
WholeList l = length l.marks ≡ 8

pub record WholeFare (l : FareLine) : Type 0 where
  pub conditions : WholeList l.conditions
  pub unless : WholeList l.unless

abbrev pub WholeTerm : TermLine → Type 0
WholeTerm l = WholeList l.conditions

pub record WholeTariff (t : Tariff) : Type 0 where
  pub fares : AllByRecursion WholeFare t.fares
  pub terms : AllByRecursion WholeTerm t.terms

-- the same width, as many lines, and at each place lines that are equal in all used places
pub record SameTariff (t u : Tariff) : Type 0 where
  pub width : t.width ≡ u.width
  pub fares : AllZip SameFare t.fares u.fares
  pub terms : AllZip SameTerm t.terms u.terms
