-- What a call on a sheet does and answers: one relation of the sheet before, the call, the reply and the sheet after.
use Rattle.std.specs.Prelude.{◌≡◌, ℕ, ◌≤◌, List, Ok, Err, Result}
use Rattle.marks.specs.declared.refusal.Refusal.{Refusal}
use Rattle.marks.specs.declared.set.MarkSet.{MarkSet}
use Rattle.marks.specs.MarkSets.{marks_of, IsSet}
use Rattle.marks.specs.Refusals.{Refuses, Gives, Test}
use Rattle.marks.specs.Sets.{Marks, ◌∈◌, no_marks, with_mark, without_mark}
use Rattle.readings.specs.Books.{Book}
use Rattle.readings.specs.Readings.{LeastReading}
use Rattle.readings.specs.Says.{the_answer, the_verdict, Rounds}
use Rattle.readings.specs.declared.answer.Answer.{Answer}
use Rattle.readings.specs.declared.method.Method.{Method}
use Rattle.readings.specs.declared.verdict.Verdict.{Verdict}
use Rattle.lines.specs.declared.fare.FareLine.{FareLine}
use Rattle.settling.specs.Calls.{Unlike, LawfulFares}
use Rattle.settling.specs.Growth.{rules_of}
use Rattle.settling.specs.declared.settle.Judged.{Judged}
use Rattle.sheet.specs.Cases.{the_reply, the_state}
use Rattle.sheet.specs.declared.call.Call.{Call}
use Rattle.sheet.specs.declared.call.Call.TheVariants.{Enter, Strike, Settle, Ask}
use Rattle.sheet.specs.declared.reply.Reply.{Reply}
use Rattle.sheet.specs.declared.sheet.Sheet.{Sheet}

-- a new sheet has a width and no facts, and is unsettled
pub record NewSheet (w : ℕ) (s : Sheet) : Type 0 where
  pub facts : IsSet s.facts w no_marks
  pub unsettled : (the_state s.state).unsettled

-- a sheet that a call left as it was
pub record SameSheet (before after : Sheet) : Type 0 where
  pub facts : after.facts ≡ before.facts
  pub state : after.state ≡ before.state

-- the sheet has other facts, of the width that it had, and is unsettled
pub record FactsBecome (before after : Sheet) (F : Marks) : Type 0 where
  pub facts : IsSet after.facts before.facts.width F
  pub unsettled : (the_state after.state).unsettled

-- what the sets that the sheet was settled with say of the mark
abbrev pub Tells : Sheet → ℕ → Answer → Type 0
Tells s m a = (the_state s.state).settled (λ T U. (the_answer a).says T U m)

-- the faults that a settle can meet: the book has another width, and a line is unlawful or there are too many
unfoldable pub OtherWidth : Book → MarkSet → Type 0
OtherWidth B facts = Unlike B facts

unfoldable pub Unlawful : ℕ → List FareLine → Type 0
Unlawful w lines = LawfulFares w lines → ⊥

module _ (B : Book) (lines : List FareLine) where
  -- T and U are the least reading of the facts, which the method finds in n rounds, and v is the verdict
  pub record Finding (facts : Marks) (method : Method) (v : Verdict) (n : ℕ) (T U : Marks) : Type 0 where
    pub reading : LeastReading B (rules_of lines) facts T U
    pub rounds : Rounds B (rules_of lines) facts method n T U
    pub verdict : (the_verdict v).says B (rules_of lines) facts T U

  -- shut, so that the search takes it whole
  unfoldable pub Found : (facts : Marks) (method : Method) (v : Verdict) (n : ℕ) (T U : Marks) → Type 0
  Found = Finding

  -- what settling a set of facts gives: a reading of its width, and what was found
  pub record Outcome (facts : MarkSet) (method : Method) (j : Judged) : Type 0 where
    pub width : j.settled.reading.lower.width ≡ facts.width
    pub found : Found (marks_of facts) method j.verdict j.settled.rounds (marks_of j.settled.reading.lower) (marks_of j.settled.reading.upper)

  -- the sheet keeps its facts and is settled with their least reading
  pub record SettledBy (before after : Sheet) (method : Method) (v : Verdict) (n : ℕ) : Type 0 where
    pub facts : after.facts ≡ before.facts
    pub found : (the_state after.state).settled (Found (marks_of before.facts) method v n)

  -- Each call makes its tests in order; a refused one leaves the sheet as it was.
  abbrev pub Step : (before : Sheet) → Call → Result Reply Refusal → (after : Sheet) → Type 0
  Step s (Enter m) r s' =
      Test (s.facts.width ≤ m) (Refuses r 9 × SameSheet s s')
      (Test (m ∈ marks_of s.facts) (Refuses r 10 × SameSheet s s')
      (Gives r (λ y. (the_reply y).done × FactsBecome s s' (with_mark (marks_of s.facts) m))))
  Step s (Strike m) r s' =
      Test (s.facts.width ≤ m) (Refuses r 9 × SameSheet s s')
      (Test (m ∈ marks_of s.facts → ⊥) (Refuses r 11 × SameSheet s s')
      (Gives r (λ y. (the_reply y).done × FactsBecome s s' (without_mark (marks_of s.facts) m))))
  Step s (Settle method) r s' =
      Test (OtherWidth B s.facts) (Refuses r 7 × SameSheet s s')
      (Test (Unlawful B.width lines) (Refuses r 8 × SameSheet s s')
      (Gives r (λ y. (the_reply y).settled (SettledBy s s' method))))
  Step s (Ask m) r s' =
      Test (s.facts.width ≤ m) (Refuses r 9 × SameSheet s s')
      (Test (the_state s.state).unsettled (Refuses r 12 × SameSheet s s')
      (Gives r (λ y. (the_reply y).told (Tells s m) × SameSheet s s')))

-- what a method of the sheet answered, as the reply to its call
abbrev pub replied : {A : Type 0} → (A → Reply) → Result A Refusal → Result Reply Refusal
replied reply (Ok a) = Ok (reply a)
replied reply (Err e) = Err e
