-- What the host call answers, and what its output then holds, from bytes to bytes. There are four outcomes; the bytes decide which
-- (Decides).
use Rattle.std.specs.Prelude.{◌≡◌, ℕ, ◌+◌, ◌<◌, ◌≤◌, List, length, slice_index}
use Rattle.line_book.specs.Lines.{line_book}
use Rattle.marks.specs.Refusals.{number}
use Rattle.marks.specs.Sets.{Marks}
use Rattle.readings.specs.Books.{Book}
use Rattle.readings.specs.Readings.{LeastReading}
use Rattle.readings.specs.Rules.{Rule}
use Rattle.readings.specs.Says.{the_answer, the_verdict}
use Rattle.readings.specs.declared.answer.Answer.{Answer}
use Rattle.readings.specs.declared.verdict.Verdict.{Verdict}
use Rattle.settling.specs.Growth.{rules_of}
use Rattle.tariff.specs.Facts.{FactsAre, FactsFault}
use Rattle.tariff.specs.declared.fault.NumberFault.{NumberFault}
use Rattle.tariff_format.specs.Answers.{FileIs, FileHasFault}
use Rattle.tariff_format.specs.Encoding.{Tariff}
use Rattle.tariff_format.specs.Faults.{the_file_fault}
use Rattle.tariff_format.specs.declared.fault.FileFault.{FileFault}

-- the byte is the number of the answer that T and U give of the mark m
pub record AnswerByte (T U : Marks) (m byte : ℕ) : Type 0 where
  pub answer : Answer
  pub says : (the_answer answer).says T U m
  pub number : byte ≡ (the_answer answer).number

-- the output holds the answers of the marks below w, a byte for each, and behind them what it held before
pub record AnswersIn (w : ℕ) (T U : Marks) (before after : List ℕ) : Type 0 where
  pub marks : (m : ℕ) → m < w → AnswerByte T U m (slice_index after m)
  pub behind : (k : ℕ) → w ≤ k → slice_index after k ≡ slice_index before k
  pub as_long : length after ≡ length before

-- the book and the rules of a tariff
abbrev pub book_of : Tariff → Book
book_of t = line_book t.width t.terms

abbrev pub fare_rules : Tariff → List Rule
fare_rules t = rules_of t.fares

-- the facts F are settled by the tariff: the output holds the answers of the least reading T, U, and the call answers its verdict
pub record Settled (t : Tariff) (F : Marks) (before after : List ℕ) (answer : ℕ) : Type 0 where
  pub lower : Marks
  pub upper : Marks
  pub reading : LeastReading (book_of t) (fare_rules t) F lower upper
  pub answers : AnswersIn t.width lower upper before after
  pub verdict : Verdict
  pub says : (the_verdict verdict).says (book_of t) (fare_rules t) F lower upper
  pub number : answer ≡ (the_verdict verdict).number

-- the call is refused with the number n, and no byte of the output is changed
pub record RefusedWith (n : ℕ) (before after : List ℕ) (answer : ℕ) : Type 0 where
  pub number : answer ≡ 100 + n
  pub unchanged : after ≡ before

-- the four outcomes: `before` and `after` are the output as it was and as it is
pub data HostAnswer (file facts before after : List ℕ) (answer : ℕ) : Type 0 where
  -- the file is refused: 1 to 4 or 6
  file_refused : (f : FileFault) → FileHasFault 1024 512 file f
      → RefusedWith (the_file_fault f).number before after answer → HostAnswer file facts before after answer
  -- the file is that of a tariff, and the facts string is refused for its width: 1 to 4 or 6
  facts_refused : (t : Tariff) (f : NumberFault) → FileIs 1024 512 file t → FactsFault t.width facts f
      → RefusedWith (number f.refusal) before after answer → HostAnswer file facts before after answer
  -- file and facts are right, and the output has fewer bytes than there are marks: 13
  output_short : (t : Tariff) (F : Marks) → FileIs 1024 512 file t → FactsAre t.width facts F
      → length before < t.width → RefusedWith 13 before after answer → HostAnswer file facts before after answer
  -- all are right
  settled : (t : Tariff) (F : Marks) → FileIs 1024 512 file t → FactsAre t.width facts F
      → t.width ≤ length before → Settled t F before after answer → HostAnswer file facts before after answer
