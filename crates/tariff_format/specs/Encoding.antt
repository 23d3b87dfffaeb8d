-- The tariff file as an encoding: which tariffs are lawful, and the bytes that one is written as.
use Rattle.std.specs.Prelude.{ℕ, ◌≤◌, List, [], ◌++◌, length}
use Rattle.std.specs.List.{flat_map}
use Rattle.lines.specs.declared.fare.FareLine.{FareLine}
use Rattle.lines.specs.declared.list.MarkList.{MarkList}
use Rattle.lines.specs.declared.term.Kind.{Kind}
use Rattle.lines.specs.declared.term.Kind.TheVariants.{Gives, Denies}
use Rattle.lines.specs.declared.term.TermLine.{TermLine}
use Rattle.lines.specs.Lawful.{LawfulFare, LawfulTerm, AllLawful}
use Rattle.lines.specs.Records.{used, the_kind}
use Rattle.tariff.specs.Numbers.{encode}

-- A tariff: its width, its fare lines and its term lines.
pub record Tariff : Type 0 where
  pub width : ℕ
  pub fares : List FareLine
  pub terms : List TermLine

-- its width is 1 to 512, and it has at most 1,024 fare lines and 512 term lines, each lawful for the width
pub record LawfulTariff (t : Tariff) : Type 0 where
  pub some : 1 ≤ t.width
  pub few : t.width ≤ 512
  pub fares : AllLawful (LawfulFare t.width) 1024 t.fares
  pub terms : AllLawful (LawfulTerm t.width) 512 t.terms

-- a list: its count, then the marks in its used places
abbrev pub list_bytes : MarkList → List ℕ
list_bytes l = encode l.count ++ flat_map encode (used l)

-- a fare line: head, conditions, unless-marks
abbrev pub fare_bytes : FareLine → List ℕ
fare_bytes l = encode l.head ++ (list_bytes l.conditions ++ list_bytes l.unless)

-- a term line opens with the number of its kind; a denial has no head
abbrev pub head_bytes : Kind → ℕ → List ℕ
head_bytes Gives m = encode m
head_bytes Denies m = []

abbrev pub term_bytes : TermLine → List ℕ
term_bytes l = encode (the_kind l.kind).number ++ (head_bytes l.kind l.head ++ list_bytes l.conditions)

-- a file: the width, how many fare and how many term lines, then the lines
abbrev pub file_bytes : Tariff → List ℕ
file_bytes t =
    encode t.width ++ (encode (length t.fares) ++ (encode (length t.terms) ++ (flat_map fare_bytes t.fares ++ flat_map term_bytes t.terms)))
