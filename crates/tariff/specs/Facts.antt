-- Facts strings: how many marks a set holds, and then these marks, ascending.
use Rattle.std.specs.Prelude.{◌≡◌, ℕ, zero, suc, ◌-◌, ◌<◌, ◌≤◌, cond, List, [], ◌∷◌, ◌++◌, length, Ok, Err, Result, nat_lt}
use Rattle.std.specs.List.{flat_map}
use Rattle.marks.specs.declared.refusal.Refusal.TheVariants.{BytesRemain}
use Rattle.marks.specs.declared.set.MarkSet.{MarkSet}
use Rattle.marks.specs.MarkSets.{marks_of, Unchanged}
use Rattle.marks.specs.Sets.{Marks, OfWidth, no_marks, with_mark, size}
use Rattle.tariff.specs.declared.fault.NumberFault.{NumberFault}
use Rattle.tariff.specs.Numbers.{encode}
use Rattle.tariff.specs.Lists.{marks_at, Ascending, least_behind}
use Rattle.tariff.specs.Readings.{and_then, mapped, fault, number_at}
use Rattle.tariff.specs.Faults.{FaultIs}

-- the marks below w that the set holds, ascending
unfoldable pub members : ℕ → Marks → List ℕ
members zero S = []
members (suc w) S = members w S ++ cond (S w) (w ∷ []) []

-- the facts string of a set of the width w
abbrev pub facts_bytes : ℕ → Marks → List ℕ
facts_bytes w S = encode (size w S) ++ flat_map encode (members w S)

-- the set with the marks of a list added
abbrev pub adding : Marks → List ℕ → Marks
adding S [] = S
adding S (m ∷ ms) = adding (with_mark S m) ms

-- nothing stands behind q
abbrev pub ended : {A : Type 0} → List ℕ → A → ℕ → Result (A × ℕ) NumberFault
ended bs x q = cond (nat_lt q (length bs)) (Err (fault BytesRemain q)) (Ok (x, q))

-- the set that the bytes are the facts string of, for the width w, or the fault: a count up to 512 and so many marks, and nothing
-- behind them
abbrev pub facts_at : ℕ → List ℕ → Result (Marks × ℕ) NumberFault
facts_at w bs = and_then (number_at 0 512 0 bs 0) (λ k p. and_then (mapped (adding no_marks) (marks_at w bs k 0 p)) (ended bs))

-- what a call read into x, with the place behind it
abbrev pub filled : {A B E : Type 0} → Result A E → B → ℕ → Result (B × ℕ) E
filled (Ok a) x q = Ok (x, q)
filled (Err f) x q = Err f

-- the bytes begin with a count k up to 512 and marks ms, no more than k, that are right; q is where the rest starts
pub record Begun (w : ℕ) (bs : List ℕ) (k : ℕ) (ms : List ℕ) (q : ℕ) : Type 0 where
  pub count : k ≤ 512
  pub some : length ms ≤ k
  pub ascending : Ascending w 0 ms
  pub rest : List ℕ
  pub front : bs ≡ (encode k ++ flat_map encode ms) ++ rest
  pub place : q ≡ length (encode k ++ flat_map encode ms)

-- why bytes are no facts string for the width w: every number before the fault's byte is right, and there
pub data FactsFault (w : ℕ) (bs : List ℕ) (f : NumberFault) : Type 0 where
  -- the count is refused
  at_count : FaultIs 0 512 0 bs 0 f → FactsFault w bs f
  -- a mark is refused, by the width or by the mark before it
  at_mark : (k : ℕ) (ms : List ℕ) (q : ℕ) → Begun w bs k ms q → length ms < k → FaultIs 0 (w - 1) (least_behind 0 ms) bs q f → FactsFault w bs f
  -- all marks are there, and a byte is left over
  left_over : (k : ℕ) (ms : List ℕ) (q : ℕ) → Begun w bs k ms q → length ms ≡ k → q < length bs → f ≡ fault BytesRemain q → FactsFault w bs f

-- the bytes are the facts string of S
pub record FactsAre (w : ℕ) (bs : List ℕ) (S : Marks) : Type 0 where
  pub inside : OfWidth w S
  pub string : bs ≡ facts_bytes w S

-- what is right to answer of the bytes, for the width w
abbrev pub FactsAnswer : ℕ → List ℕ → Result (Marks × ℕ) NumberFault → Type 0
FactsAnswer w bs (Ok x) = FactsAre w bs x.0 × (x.1 ≡ length bs)
FactsAnswer w bs (Err f) = FactsFault w bs f

-- what a call does that reads the bytes into a set: taken, the set holds exactly their facts and keeps its width; refused, it is
-- what it was
abbrev pub FactsRead : {A : Type 0} → List ℕ → MarkSet → MarkSet → Result A NumberFault → Type 0
FactsRead bs before after (Ok a) = (after.width ≡ before.width) × FactsAre before.width bs (marks_of after)
FactsRead bs before after (Err f) = Unchanged before after × FactsFault before.width bs f
