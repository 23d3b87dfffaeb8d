-- Faults of a tariff file: what each of them tells, and how a number's fault is handed up to its line and to the file.
use Rattle.std.specs.Prelude.{ℕ, Some, None, Ok, Err, Option, Result}
use Rattle.marks.specs.Refusals.{number}
use Rattle.tariff.specs.declared.fault.NumberFault.{NumberFault}
use Rattle.tariff_format.specs.declared.fault.Section.{Section}
use Rattle.tariff_format.specs.declared.fault.Section.TheVariants.{Fare, Term}
use Rattle.tariff_format.specs.declared.fault.LineAt.{LineAt}
use Rattle.tariff_format.specs.declared.fault.LineFault.{LineFault}
use Rattle.tariff_format.specs.declared.fault.FileFault.{FileFault}
use Rattle.tariff_format.specs.declared.fault.FileFault.TheVariants.{Number, Line}

-- A file has two sections of lines, each with its number. A line goes by its section and its index there, from 0.
abbrev pub section_number : Section → ℕ
section_number Fare = 1
section_number Term = 2

-- A fault tells the number of its refusal, the byte where the faulty number starts (or the first one left over), and the line in
-- which it was met, where it was met in one.
pub record FaultCase : Type 0 where
  pub number : ℕ
  pub byte : ℕ
  pub line : Option LineAt

abbrev pub the_number_fault : NumberFault → FaultCase
the_number_fault f = record { number = number f.refusal; byte = f.byte; line = None }

abbrev pub the_line_fault : LineFault → FaultCase
the_line_fault f = record { number = number f.number.refusal; byte = f.number.byte; line = Some f.at }

abbrev pub the_file_fault : FileFault → FaultCase
the_file_fault (Number f) = the_number_fault f
the_file_fault (Line f) = the_line_fault f

-- the fault of a line holds that of its number, and adds the line: its section and index
abbrev pub line_fault : LineAt → NumberFault → LineFault
line_fault at f = record { number = f; at = at }

-- a number's result, which knows its line
abbrev pub met_at : {A : Type 0} → LineAt → Result A NumberFault → Result A (NumberFault × LineAt)
met_at at (Ok x) = Ok x
met_at at (Err f) = Err (f, at)

-- what was read in a line, with the line's fault
abbrev pub in_line : {A : Type 0} → LineAt → Result A NumberFault → Result A LineFault
in_line at (Ok x) = Ok x
in_line at (Err f) = Err (line_fault at f)

-- what was read outside the lines, with the file's fault
abbrev pub outside_lines : {A : Type 0} → Result A NumberFault → Result A FileFault
outside_lines (Ok x) = Ok x
outside_lines (Err f) = Err (Number f)

-- what was read as lines, with the file's fault
abbrev pub as_lines : {A : Type 0} → Result A LineFault → Result A FileFault
as_lines (Ok x) = Ok x
as_lines (Err f) = Err (Line f)
