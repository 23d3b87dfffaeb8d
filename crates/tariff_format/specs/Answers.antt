-- What is right to answer of the bytes of a file, in words.
use Rattle.std.specs.Prelude.{◌≡◌, ℕ, ◌<◌, ◌≤◌, List, ◌++◌, length, Some, None, Ok, Err, Option, Result}
use Rattle.marks.specs.declared.refusal.Refusal.{Refusal}
use Rattle.marks.specs.declared.refusal.Refusal.TheVariants.{FewRecords, BytesRemain}
use Rattle.tariff.specs.declared.fault.NumberFault.{NumberFault}
use Rattle.tariff.specs.Faults.{Fails}
use Rattle.tariff.specs.Numbers.{encode}
use Rattle.tariff.specs.Readings.{fault}
use Rattle.tariff_format.specs.declared.counts.Counts.{Counts}
use Rattle.tariff_format.specs.declared.fault.LineAt.{LineAt}
use Rattle.tariff_format.specs.declared.fault.FileFault.{FileFault}
use Rattle.tariff_format.specs.declared.fault.FileFault.TheVariants.{Number, Line}
use Rattle.tariff_format.specs.Encoding.{Tariff, file_bytes}
use Rattle.tariff_format.specs.Faults.{line_fault}
use Rattle.tariff_format.specs.Places.{Limits, opening_bytes, RightCounts, FilePlace, file_before, file_limits, place_line, FileReached}
use Rattle.tariff_format.specs.Tidy.{TidyTariff}

-- a number's fault as the file's, with its line, where it is in one
abbrev pub file_fault : Option LineAt → NumberFault → FileFault
file_fault None f = Number f
file_fault (Some at) f = Line (line_fault at f)

-- the number at the front of the bytes fails a test, and no earlier one
abbrev pub FailsAt : Limits → List ℕ → Refusal → Type 0
FailsAt at bs why = Fails at.low at.high at.least bs why

-- the bytes are refused with 1 to 4: all numbers before a place are right, and the number that starts there fails that test
pub record NumberRefused (m n : ℕ) (bs : List ℕ) (f : FileFault) : Type 0 where
  pub place : FilePlace
  pub reached : FileReached m n place
  pub rest : List ℕ
  pub front : bs ≡ file_before place ++ rest
  pub why : Refusal
  pub test : FailsAt (file_limits place) rest why
  pub is : f ≡ file_fault (place_line place) (fault why (length (file_before place)))

-- the bytes start with a width and two counts that are right
pub record Opened (bs : List ℕ) (h : Counts) : Type 0 where
  pub right : RightCounts h
  pub rest : List ℕ
  pub front : bs ≡ opening_bytes h ++ rest

-- a tidy tariff, for each line of which the caller has a record
pub record Taken (m n : ℕ) (t : Tariff) : Type 0 where
  pub tidy : TidyTariff t
  pub fares : length t.fares ≤ m
  pub terms : length t.terms ≤ n

-- why bytes are refused, for a caller with m fare and n term records
pub data FileHasFault (m n : ℕ) (bs : List ℕ) (f : FileFault) : Type 0 where
  -- 1 to 4
  at_number : NumberRefused m n bs f → FileHasFault m n bs f
  -- 5: the caller has fewer fare records than the file counts; the byte is where that count starts
  few_fares : (h : Counts) → Opened bs h → m < h.fares → f ≡ Number (fault FewRecords (length (encode h.width))) → FileHasFault m n bs f
  -- 5: enough fare records, and fewer term records
  few_terms : (h : Counts) → Opened bs h → h.fares ≤ m → n < h.terms → f ≡ Number (fault FewRecords (length (encode h.width ++ encode h.fares))) → FileHasFault m n bs f
  -- 6: a lawful file, with bytes behind it
  left_over : (t : Tariff) (rest : List ℕ) → Taken m n t → bs ≡ file_bytes t ++ rest → 0 < length rest → f ≡ Number (fault BytesRemain (length (file_bytes t))) → FileHasFault m n bs f

-- the bytes are the file of a tariff that the caller has room for
pub record FileIs (m n : ℕ) (bs : List ℕ) (t : Tariff) : Type 0 where
  pub taken : Taken m n t
  pub bytes : bs ≡ file_bytes t

-- what is right to answer, for a caller with m fare and n term records
abbrev pub FileAnswer : ℕ → ℕ → List ℕ → Result (Tariff × ℕ) FileFault → Type 0
FileAnswer m n bs (Ok x) = FileIs m n bs x.0 × (x.1 ≡ length bs)
FileAnswer m n bs (Err f) = FileHasFault m n bs f
