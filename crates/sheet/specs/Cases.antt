-- What each call, reply and state is: every case, and what its values mean. Every promise that names one uses these definitions.
use Rattle.std.specs.Prelude.{◌≡◌, ℕ}
use Rattle.marks.specs.MarkSets.{marks_of}
use Rattle.marks.specs.Sets.{Marks}
use Rattle.readings.specs.declared.answer.Answer.{Answer}
use Rattle.readings.specs.declared.method.Method.{Method}
use Rattle.readings.specs.declared.verdict.Verdict.{Verdict}
use Rattle.sheet.specs.declared.call.Call.{Call}
use Rattle.sheet.specs.declared.call.Call.TheVariants.{Enter, Strike, Settle, Ask}
use Rattle.sheet.specs.declared.reply.Reply.{Reply}
use Rattle.sheet.specs.declared.reply.Reply.TheVariants.{Done, Settled as Found, Told}
use Rattle.sheet.specs.declared.sheet.State.{State}
use Rattle.sheet.specs.declared.sheet.State.TheVariants.{Unsettled, Settled}

-- A call enters a mark, strikes a mark, settles by a method, or asks for a mark.
pub record CallCase : Type 1 where
  pub enters : ℕ → Type 0
  pub strikes : ℕ → Type 0
  pub settles : Method → Type 0
  pub asks : ℕ → Type 0

abbrev pub the_call : Call → CallCase
the_call (Enter k) = record { enters = λ m. m ≡ k; strikes = λ m. ⊥; settles = λ j. ⊥; asks = λ m. ⊥ }
the_call (Strike k) = record { enters = λ m. ⊥; strikes = λ m. m ≡ k; settles = λ j. ⊥; asks = λ m. ⊥ }
the_call (Settle k) = record { enters = λ m. ⊥; strikes = λ m. ⊥; settles = λ j. j ≡ k; asks = λ m. ⊥ }
the_call (Ask k) = record { enters = λ m. ⊥; strikes = λ m. ⊥; settles = λ j. ⊥; asks = λ m. m ≡ k }

-- A reply is a bare yes, a verdict with rounds, or an answer; each is right where what is asked of its values holds.
pub record ReplyCase : Type 1 where
  pub done : Type 0
  pub settled : (says : Verdict → ℕ → Type 0) → Type 0
  pub told : (says : Answer → Type 0) → Type 0

abbrev pub the_reply : Reply → ReplyCase
the_reply Done = record { done = Unit {0}; settled = λ says. ⊥; told = λ says. ⊥ }
the_reply (Found s) = record { done = ⊥; settled = λ says. says s.verdict s.rounds; told = λ says. ⊥ }
the_reply (Told a) = record { done = ⊥; settled = λ says. ⊥; told = λ says. says a }

-- A sheet is unsettled, or settled with a reading.
pub record StateCase : Type 1 where
  pub unsettled : Type 0
  pub settled : (says : (T U : Marks) → Type 0) → Type 0

abbrev pub the_state : State → StateCase
the_state Unsettled = record { unsettled = Unit {0}; settled = λ says. ⊥ }
the_state (Settled R) = record { unsettled = ⊥; settled = λ says. says (marks_of R.lower) (marks_of R.upper) }
