-- What is proved of files. Each statement stands in the contract of a function of src/theorems.rt, so its proof is asked for.
use Rattle.std.specs.Prelude.{◌≡◌, ◌≤◌, [], ◌∷◌, length, replicate}
use Rattle.lines.specs.declared.fare.FareLine.{FareLine}
use Rattle.lines.specs.declared.list.MarkList.{MarkList}
use Rattle.lines.specs.declared.term.Kind.TheVariants.{Gives, Denies}
use Rattle.lines.specs.declared.term.TermLine.{TermLine}
use Rattle.tariff_format.specs.Encoding.{Tariff, LawfulTariff, file_bytes}
use Rattle.tariff_format.specs.Laws.{Proper}
use Rattle.tariff_format.specs.Lines.{held}

-- a full list, with marks of two bytes each
abbrev pub full_list : MarkList
full_list = record { count = 8; marks = 128 ∷ 129 ∷ 130 ∷ 131 ∷ 132 ∷ 133 ∷ 134 ∷ 135 ∷ [] }

abbrev pub full_fare : FareLine
full_fare = record { head = 128; conditions = full_list; unless = full_list }

abbrev pub full_term : TermLine
full_term = record { kind = Gives; head = 128; conditions = full_list }

-- as many lines as there may be, all of them full
abbrev pub largest : Tariff
largest = record { width = 512; fares = replicate 1024 full_fare; terms = replicate 512 full_term }

-- How long a file can be.
pub record LargestFile : Type 0 where
  -- the file of a lawful tariff has at most 47,110 bytes
  pub most : (t : Tariff) → LawfulTariff t → length (file_bytes t) ≤ 47110
  -- and that of a lawful one has as many
  pub proper : Proper largest
  pub reached : length (file_bytes largest) ≡ 47110

-- a tariff of width 5 with two fare lines, a term line that gives, and a denial, whose unused head may hold anything
abbrev pub small : Tariff
small = record {
  width = 5;
  fares = record { head = 1; conditions = held (3 ∷ []); unless = held (2 ∷ []) } ∷ record { head = 4; conditions = held (3 ∷ []); unless = held (1 ∷ []) } ∷ [];
  terms = record { kind = Gives; head = 2; conditions = held (0 ∷ []) } ∷ record { kind = Denies; head = 900; conditions = held (1 ∷ 2 ∷ []) } ∷ [];
}

-- A file, byte by byte.
abbrev pub SmallFile : Type 0
SmallFile = file_bytes small ≡ 5 ∷ 2 ∷ 2 ∷ 1 ∷ 1 ∷ 3 ∷ 1 ∷ 2 ∷ 4 ∷ 1 ∷ 3 ∷ 1 ∷ 1 ∷ 1 ∷ 2 ∷ 1 ∷ 0 ∷ 2 ∷ 2 ∷ 1 ∷ 2 ∷ []
