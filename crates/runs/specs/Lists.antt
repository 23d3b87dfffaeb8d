-- What the call that performs a list of calls does.
use Rattle.std.specs.Prelude.{◌≡◌, ℕ, zero, suc, ◌<◌, List, [], ◌∷◌, length, drop, Ok, Result, slice_index_or}
use Rattle.marks.specs.declared.refusal.Refusal.{Refusal}
use Rattle.marks.specs.MarkSets.{BadWidth}
use Rattle.marks.specs.Refusals.{Refuses, Gives, Test}
use Rattle.readings.specs.Books.{Book}
use Rattle.lines.specs.declared.fare.FareLine.{FareLine}
use Rattle.sheet.specs.declared.call.Call.{Call}
use Rattle.sheet.specs.declared.call.Call.TheVariants.{Ask}
use Rattle.sheet.specs.declared.reply.Reply.{Reply}
use Rattle.sheet.specs.declared.reply.Reply.TheVariants.{Done}
use Rattle.runs.specs.Histories.{History}
use Rattle.runs.specs.Runs.{RightRun}

-- the history of the first n calls and the first n replies; both lists are that long where this is used
abbrev pub history : List Call → List (Result Reply Refusal) → ℕ → History
history calls replies zero = []
history calls replies (suc n) = record { call = slice_index_or calls n (Ask 0); reply = slice_index_or replies n (Ok Done) } ∷ history calls replies n

module _ (B : Book) (lines : List FareLine) where
  -- each call has its reply in the record of its index, all of them together are a right run, and the records behind them stay
  pub record RunIn (w : ℕ) (calls : List Call) (before after : List (Result Reply Refusal)) : Type 0 where
    pub run : RightRun B lines w (history calls after (length calls))
    pub others : drop (length calls) after ≡ drop (length calls) before

  -- refused for a width that no sheet has, and then for too few records; no record is written then
  abbrev pub Performs : ℕ → List Call → (before after : List (Result Reply Refusal)) → Result Unit Refusal → Type 0
  Performs w calls before after r =
      Test (BadWidth w) (Refuses r 7 × (after ≡ before))
      (Test (length before < length calls) (Refuses r 13 × (after ≡ before))
      (Gives r (λ _. RunIn w calls before after)))
