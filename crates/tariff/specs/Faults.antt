-- When a number is refused, in words: which test it fails first, and that its fault points at the byte where it starts.
use Rattle.std.specs.Prelude.{◌≡◌, ℕ, ◌+◌, ◌<◌, ◌≤◌, ◌⊎◌, List, ◌++◌, length, take, drop, Ok, Err, Result}
use Rattle.std.specs.List.{AllByRecursion}
use Rattle.marks.specs.declared.refusal.Refusal.{Refusal}
use Rattle.marks.specs.declared.refusal.Refusal.TheVariants.{BytesEnd, Malformed, OutsideLimit, NotAscending, FewRecords, BytesRemain, Width, Record, MarkTooHigh, FactStands, NoSuchFact, NotSettled, OutputShort}
use Rattle.tariff.specs.declared.fault.NumberFault.{NumberFault}
use Rattle.tariff.specs.Numbers.{spelled, Finished, encode, Begins}

-- every byte has its top bit set
abbrev pub Topped : List ℕ → Type 0
Topped bs = AllByRecursion (λ b. 128 ≤ b) bs

-- the bytes end where a number must start, or after one or two bytes of one that goes on
abbrev pub Unfinished : List ℕ → Type 0
Unfinished bs = (length bs < 3) × Topped bs

-- a number of more than three bytes: the third has its top bit set too
abbrev pub TooLong : List ℕ → Type 0
TooLong bs = (3 ≤ length bs) × Topped (take 3 bs)

-- the same number has a shorter form
pub record ShorterForm (ds : List ℕ) : Type 0 where
  pub form : List ℕ
  pub finished : Finished form
  pub value : spelled form ≡ spelled ds
  pub shorter : length form < length ds

-- the bytes begin with a number of up to three bytes that is not in its shortest form, or exceeds 65,535
pub record Misspelled (bs : List ℕ) : Type 0 where
  pub form : List ℕ
  pub rest : List ℕ
  pub front : bs ≡ form ++ rest
  pub finished : Finished form
  pub few : length form ≤ 3
  pub wrong : ShorterForm form ⊎ (65535 < spelled form)

abbrev pub Outside : ℕ → ℕ → ℕ → Type 0
Outside low high n = (n < low) ⊎ (high < n)

abbrev pub Within : ℕ → ℕ → ℕ → Type 0
Within low high n = (low ≤ n) × (n ≤ high)

-- a number stands at the front of the bytes, and P holds of it
abbrev pub SomeNumber : List ℕ → (ℕ → Type 0) → Type 0
SomeNumber bs P = (n : ℕ) × Begins n bs × P n

-- the first test that the number at the front of the bytes fails, by the refusal that it meets; it must lie from low to high, and
-- not below least, which is 0 where no ascent is asked for
abbrev pub Fails : ℕ → ℕ → ℕ → List ℕ → Refusal → Type 0
-- 1
Fails low high least bs BytesEnd = Unfinished bs
-- 2
Fails low high least bs Malformed = TooLong bs ⊎ Misspelled bs
-- 3
Fails low high least bs OutsideLimit = SomeNumber bs (Outside low high)
-- 4
Fails low high least bs NotAscending = SomeNumber bs (λ n. Within low high n × (n < least))
-- no number meets another
Fails low high least bs FewRecords = ⊥
Fails low high least bs BytesRemain = ⊥
Fails low high least bs Width = ⊥
Fails low high least bs Record = ⊥
Fails low high least bs MarkTooHigh = ⊥
Fails low high least bs FactStands = ⊥
Fails low high least bs NoSuchFact = ⊥
Fails low high least bs NotSettled = ⊥
Fails low high least bs OutputShort = ⊥

-- a number's fault: its refusal is the first test that the number fails, and its byte is where the number starts
pub record FaultIs (low high least : ℕ) (bs : List ℕ) (p : ℕ) (f : NumberFault) : Type 0 where
  pub test : Fails low high least (drop p bs) f.refusal
  pub start : f.byte ≡ p

-- a number that passes its tests, and the place behind it
pub record NumberIs (low high least : ℕ) (bs : List ℕ) (p n q : ℕ) : Type 0 where
  pub stands : Begins n (drop p bs)
  pub limit : Within low high n
  pub ascent : least ≤ n
  pub behind : q ≡ p + length (encode n)

-- what is right to answer of the number that starts at p
abbrev pub NumberAnswer : ℕ → ℕ → ℕ → List ℕ → ℕ → Result (ℕ × ℕ) NumberFault → Type 0
NumberAnswer low high least bs p (Ok x) = NumberIs low high least bs p x.0 x.1
NumberAnswer low high least bs p (Err f) = FaultIs low high least bs p f
