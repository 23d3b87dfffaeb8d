-- What each step of the host call does.
use Rattle.std.specs.Prelude.{◌≡◌, ℕ, ◌+◌, ◌<◌, ◌≤◌, List, Ok, Err, Result, slice_index}
use Rattle.marks.specs.MarkSets.{marks_of}
use Rattle.marks.specs.Sets.{Marks}
use Rattle.marks.specs.declared.set.MarkSet.{MarkSet}
use Rattle.readings.specs.Readings.{LeastReading}
use Rattle.readings.specs.Says.{the_verdict}
use Rattle.readings.specs.declared.verdict.Verdict.{Verdict}
use Rattle.settling.specs.declared.settle.Judged.{Judged}
use Rattle.tariff.specs.Facts.{FactsAre, FactsFault}
use Rattle.tariff.specs.declared.fault.NumberFault.{NumberFault}
use Rattle.tariff_format.specs.Answers.{FileIs, FileHasFault}
use Rattle.tariff_format.specs.Encoding.{Tariff}
use Rattle.host.specs.declared.refused.Refused.{Refused}
use Rattle.host.specs.declared.refused.Refused.TheVariants.{File, Facts, Output}
use Rattle.host.specs.Host.{AnswerByte, book_of, fare_rules}
use Rattle.host.specs.Refused.{refused_number}

-- the facts string is that of a set of the width w
pub record IsFacts (w : ℕ) (facts : List ℕ) : Type 0 where
  pub marks : Marks
  pub are : FactsAre w facts marks

-- the set that was found, of the width w, or why the string is refused
abbrev pub FactsFound : ℕ → List ℕ → Result MarkSet NumberFault → Type 0
FactsFound w facts (Ok s) = (s.width ≡ w) × FactsAre w facts (marks_of s) × IsFacts w facts
FactsFound w facts (Err f) = FactsFault w facts f

-- the tests of the file, the facts string and an output with room for so many bytes: the file's tariff and the set of the facts, or the
-- first fault
abbrev pub Tested : (file facts : List ℕ) → ℕ → Tariff → Result MarkSet Refused → Type 0
Tested file facts room t (Ok s) = FileIs 1024 512 file t × (s.width ≡ t.width) × FactsAre t.width facts (marks_of s) × (t.width ≤ room)
Tested file facts room t (Err (File f)) = FileHasFault 1024 512 file f
Tested file facts room t (Err (Facts f)) = FileIs 1024 512 file t × FactsFault t.width facts f
Tested file facts room t (Err Output) = FileIs 1024 512 file t × IsFacts t.width facts × (room < t.width)

-- the least reading of the facts, and the verdict on it
pub record Found (t : Tariff) (facts : MarkSet) (j : Judged) : Type 0 where
  pub width : j.settled.reading.lower.width ≡ t.width
  pub reading : LeastReading (book_of t) (fare_rules t) (marks_of facts) (marks_of j.settled.reading.lower) (marks_of j.settled.reading.upper)
  pub verdict : (the_verdict j.verdict).says (book_of t) (fare_rules t) (marks_of facts) (marks_of j.settled.reading.lower) (marks_of j.settled.reading.upper)

-- the first w bytes became 0, and the others stay
pub record Cleared (w : ℕ) (before after : List ℕ) : Type 0 where
  pub first : (k : ℕ) → k < w → slice_index after k ≡ 0
  pub behind : (k : ℕ) → w ≤ k → slice_index after k ≡ slice_index before k

-- the byte of each mark of P became the answer that T and U give of it, and the others stay
pub record Answered (P : ℕ → Type 0) (T U : Marks) (before after : List ℕ) : Type 0 where
  pub marks : (m : ℕ) → P m → AnswerByte T U m (slice_index after m)
  pub others : (k : ℕ) → (P k → ⊥) → slice_index after k ≡ slice_index before k

-- what the call answers: the number of the verdict, or 100 and the number of the refusal
abbrev pub answer_number : Result Verdict Refused → ℕ
answer_number (Ok v) = (the_verdict v).number
answer_number (Err f) = 100 + refused_number f
