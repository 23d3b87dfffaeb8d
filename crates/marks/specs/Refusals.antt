-- The refusals of the module, and what it is for a call to be refused or answered.
use Rattle.std.specs.Prelude.{◌≡◌, ℕ, ◌⊎◌, Ok, Err, Result}
use Rattle.marks.specs.declared.refusal.Refusal.{Refusal}
use Rattle.marks.specs.declared.refusal.Refusal.TheVariants.{BytesEnd, Malformed, OutsideLimit, NotAscending, FewRecords, BytesRemain, Width, Record, MarkTooHigh, FactStands, NoSuchFact, NotSettled, OutputShort}

-- every refusal with its number; a refusal has no other value
abbrev pub number : Refusal → ℕ
number BytesEnd = 1
number Malformed = 2
number OutsideLimit = 3
number NotAscending = 4
number FewRecords = 5
number BytesRemain = 6
number Width = 7
number Record = 8
number MarkTooHigh = 9
number FactStands = 10
number NoSuchFact = 11
number NotSettled = 12
number OutputShort = 13

-- the result is the refusal of that number
abbrev pub Refuses : {A : Type 0} → Result A Refusal → ℕ → Type 0
Refuses (Ok a) n = ⊥
Refuses (Err r) n = number r ≡ n

-- the result is no refusal, and P holds of what it gives
abbrev pub Gives : {A : Type 0} → Result A Refusal → (A → Type 0) → Type 0
Gives (Ok a) P = P a
Gives (Err r) P = ⊥

-- one test of a call: either its fault is there, and the call is refused, or it is not, and the rest holds. A call that makes
-- several tests has one of these for each, in their order: the first fault decides
abbrev pub Test : Type 0 → Type 0 → Type 0 → Type 0
Test fault refused rest = (fault × refused) ⊎ ((fault → ⊥) × rest)
