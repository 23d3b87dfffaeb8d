-- What the reader of a tariff file answers, and what the caller's records then hold.
use Rattle.std.specs.Prelude.{◌≡◌, ℕ, ◌≤◌, ◌↔◌, List, ◌++◌, length, take, drop, Ok, Err, Result}
use Rattle.lines.specs.declared.fare.FareLine.{FareLine}
use Rattle.lines.specs.declared.term.TermLine.{TermLine}
use Rattle.tariff.specs.Writings.{Written}
use Rattle.tariff_format.specs.declared.counts.Counts.{Counts}
use Rattle.tariff_format.specs.declared.fault.FileFault.{FileFault}
use Rattle.tariff_format.specs.Answers.{FileAnswer}
use Rattle.tariff_format.specs.Encoding.{Tariff, file_bytes}
use Rattle.tariff_format.specs.Files.{file_at}
use Rattle.tariff_format.specs.Laws.{Proper}
use Rattle.tariff_format.specs.Tariffs.{counts_of, SameTariff}
use Rattle.tariff_format.specs.Tidy.{tidy_tariff}

-- so many lines are read, and q is the place behind them
pub record Reads {L E : Type 0} (r : Result (List L × ℕ) E) (n q : ℕ) : Type 0 where
  pub lines : List L
  pub count : length lines ≡ n
  pub value : r ≡ Ok (lines, q)

-- the width and how many lines there are, or the fault
abbrev pub answer : Result (Tariff × ℕ) FileFault → Result Counts FileFault
answer (Ok x) = Ok (counts_of x.0)
answer (Err f) = Err f

-- a reading that is no fault
abbrev pub Accepted : {A E : Type 0} → Result A E → Type 0
Accepted (Ok x) = Unit {0}
Accepted (Err f) = ⊥

-- r is what a test of the file answers that reads as x
abbrev pub Tested : Result (Tariff × ℕ) FileFault → Result Counts FileFault → Type 0
Tested x (Ok h) = Accepted x × (answer x ≡ Ok h)
Tested x (Err f) = x ≡ Err f

-- lines written over the first of the old records: the others stay
abbrev pub written : {L : Type 0} → List L → List L → List L
written ls old = ls ++ drop (length ls) old

-- the caller's records behind the call: where the file is refused, all stay
abbrev pub fare_records : Result (Tariff × ℕ) FileFault → List FareLine → List FareLine
fare_records (Ok x) old = written x.0.fares old
fare_records (Err f) old = old

abbrev pub term_records : Result (Tariff × ℕ) FileFault → List TermLine → List TermLine
term_records (Ok x) old = written x.0.terms old
term_records (Err f) old = old

-- the reading of the bytes is right, for a caller with m fare and n term records
pub record RightReading (m n : ℕ) (bs : List ℕ) : Type 0 where
  -- it gives exactly what is right to answer in words
  pub answer : (x : Result (Tariff × ℕ) FileFault) → (file_at m n bs ≡ x) ↔ FileAnswer m n bs x
  -- if they are the file of a proper tariff for which there is room, it gives that tariff back, with 0 in its unused places
  pub back : (t : Tariff) → Proper t → length t.fares ≤ m → length t.terms ≤ n → bs ≡ file_bytes t → (file_at m n bs ≡ Ok (tidy_tariff t, length bs)) × SameTariff t (tidy_tariff t)
  -- what it gives is written as the same bytes
  pub same : (t : Tariff) (q : ℕ) (out after : List ℕ) (k : ℕ) → file_at m n bs ≡ Ok (t, q) → Written out 0 (file_bytes t) after k → take k after ≡ bs
