-- What stands at a place of a file as a list or a line: what is read, with its unused places 0, and the place behind it, or a
-- fault.
use Rattle.std.specs.Prelude.{ℕ, ◌+◌, ◌-◌, cond, List, ◌++◌, length, replicate, Result, ◌==◌}
use Rattle.lines.specs.declared.fare.FareLine.{FareLine}
use Rattle.lines.specs.declared.list.MarkList.{MarkList}
use Rattle.lines.specs.declared.term.Kind.{Kind}
use Rattle.lines.specs.declared.term.Kind.TheVariants.{Gives, Denies}
use Rattle.lines.specs.declared.term.TermLine.{TermLine}
use Rattle.tariff.specs.declared.fault.NumberFault.{NumberFault}
use Rattle.tariff.specs.Lists.{marks_at}
use Rattle.tariff.specs.Readings.{and_then, mapped, many, number_at}
use Rattle.tariff_format.specs.declared.fault.LineFault.{LineFault}
use Rattle.tariff_format.specs.declared.fault.Section.TheVariants.{Fare, Term}
use Rattle.tariff_format.specs.Faults.{in_line}

-- marks as a record holds them
abbrev pub held : List ℕ → MarkList
held ms = record { count = length ms; marks = ms ++ replicate (8 - length ms) 0 }

-- a list: a count up to 8, and so many marks
abbrev pub list_at : ℕ → List ℕ → ℕ → Result (MarkList × ℕ) NumberFault
list_at w bs p = and_then (number_at 0 8 0 bs p) (λ k q. mapped held (marks_at w bs k 0 q))

-- a fare line: its head, its conditions and its unless-marks
abbrev pub fare_at : ℕ → List ℕ → ℕ → Result (FareLine × ℕ) NumberFault
fare_at w bs p =
    and_then (number_at 0 (w - 1) 0 bs p) (λ m a. and_then (list_at w bs a) (λ cs b. mapped (λ us. record { head = m; conditions = cs; unless = us }) (list_at w bs b)))

-- the kind of a term line by its number, which is 1 or 2
abbrev pub kind_of : ℕ → Kind
kind_of k = cond (k == 1) Gives Denies

-- a term line behind its kind: the head, which a denial has not, and the conditions
abbrev pub term_behind : ℕ → List ℕ → Kind → ℕ → Result (TermLine × ℕ) NumberFault
term_behind w bs Gives p = and_then (number_at 0 (w - 1) 0 bs p) (λ m q. mapped (λ cs. record { kind = Gives; head = m; conditions = cs }) (list_at w bs q))
term_behind w bs Denies p = mapped (λ cs. record { kind = Denies; head = 0; conditions = cs }) (list_at w bs p)

abbrev pub term_at : ℕ → List ℕ → ℕ → Result (TermLine × ℕ) NumberFault
term_at w bs p = and_then (mapped kind_of (number_at 1 2 0 bs p)) (term_behind w bs)

-- the fare line, and the term line, of an index
abbrev pub fare_line_at : ℕ → List ℕ → ℕ → ℕ → Result (FareLine × ℕ) LineFault
fare_line_at w bs i p = in_line (record { section = Fare; index = i }) (fare_at w bs p)

abbrev pub term_line_at : ℕ → List ℕ → ℕ → ℕ → Result (TermLine × ℕ) LineFault
term_line_at w bs i p = in_line (record { section = Term; index = i }) (term_at w bs p)

-- n lines, the first of them with the index i, by what stands at a place as the line of an index
abbrev pub lines_at : {L : Type 0} → (ℕ → ℕ → Result (L × ℕ) LineFault) → ℕ → ℕ → ℕ → Result (List L × ℕ) LineFault
lines_at read_line n i p = many read_line (λ _ j. j + 1) n i p
