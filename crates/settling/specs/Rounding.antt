-- One round of a method on sets in memory, and what a method answers.
use Rattle.std.specs.Prelude.{◌≡◌, ℕ, ◌+◌, ◌≤◌, Bool, true, false, List, ◌≢◌}
use Rattle.marks.specs.declared.set.MarkSet.{MarkSet}
use Rattle.marks.specs.MarkSets.{marks_of}
use Rattle.readings.specs.Books.{Book}
use Rattle.readings.specs.Methods.{Way, Run, PastExceptions}
use Rattle.readings.specs.Readings.{LeastReading}
use Rattle.readings.specs.Says.{the_method, Rounds}
use Rattle.readings.specs.Yields.{LeastClosed}
use Rattle.readings.specs.declared.method.Method.{Method}
use Rattle.lines.specs.declared.fare.FareLine.{FareLine}
use Rattle.settling.specs.Growth.{rules_of}
use Rattle.settling.specs.declared.settled.Settled.{Settled}

-- the set `next` stands where `before` stood, and the answer is whether they differ
pub record Replaced (before next after : MarkSet) (changed : Bool) : Type 0 where
  pub width : after.width ≡ next.width
  pub marks : marks_of after ≡ marks_of next
  pub differ : changed ≡ true → marks_of next ≢ marks_of before
  pub same : changed ≡ false → marks_of next ≡ marks_of before

-- the first step of a round of the second method: x is T, grown by the rules whose exceptions are all in F
pub record GrownPast (B : Book) (lines : List FareLine) (facts T F x : MarkSet) : Type 0 where
  pub width : x.width ≡ B.width
  pub grown : LeastClosed B (marks_of T) (PastExceptions B (rules_of lines) (marks_of facts) (marks_of F)) (marks_of x)

-- a method as a way of settling facts and fare lines in memory
abbrev pub way_of : Method → Book → List FareLine → MarkSet → Way
way_of k B lines facts = (the_method k).way B (rules_of lines) (marks_of facts)

-- some rounds of the way W lead from its start to T and V
pub record Reached (W : Way) (T V : MarkSet) : Type 0 where
  pub rounds : ℕ
  pub run : Run W rounds (marks_of T) (marks_of V)

-- what one round of the way W makes of T and V, two sets of the width
pub record MadeOf (W : Way) (w : ℕ) (T V : MarkSet) (next : MarkSet × MarkSet) : Type 0 where
  pub lower : next.0.width ≡ w
  pub other : next.1.width ≡ w
  pub round : W.round (marks_of T) (marks_of V) (marks_of next.0) (marks_of next.1)

-- one round of the way W turned T, V into T', V', and the answer is whether it changed either
pub record Rounded (W : Way) (w : ℕ) (T V T' V' : MarkSet) (changed : Bool) : Type 0 where
  pub lower : T'.width ≡ w
  pub other : V'.width ≡ w
  pub round : W.round (marks_of T) (marks_of V) (marks_of T') (marks_of V')
  pub differ : changed ≡ true → marks_of T' ≡ marks_of T → marks_of V' ≢ marks_of V
  pub same : changed ≡ false → (marks_of T' ≡ marks_of T) × (marks_of V' ≡ marks_of V)

-- What a method answers: the least reading, and its rounds by its stopping rule, which are few. The other method ends with the
-- same after as many.
pub record Settles (B : Book) (lines : List FareLine) (facts : MarkSet) (method : Method) (s : Settled) : Type 0 where
  pub lower : s.reading.lower.width ≡ B.width
  pub upper : s.reading.upper.width ≡ B.width
  pub reading : LeastReading B (rules_of lines) (marks_of facts) (marks_of s.reading.lower) (marks_of s.reading.upper)
  pub rounds : Rounds B (rules_of lines) (marks_of facts) method s.rounds (marks_of s.reading.lower) (marks_of s.reading.upper)
  pub few : s.rounds ≤ B.width + 2
  pub either : (other : Method) → Rounds B (rules_of lines) (marks_of facts) other s.rounds (marks_of s.reading.lower) (marks_of s.reading.upper)
