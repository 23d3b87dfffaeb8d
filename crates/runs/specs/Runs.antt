-- Right runs: what each call of a history must have been answered, by the rules alone and not by what a sheet holds.
use Rattle.std.specs.Prelude.{◌≡◌, ℕ, ◌≤◌, List, [], ◌∷◌, Result, ◌≢◌}
use Rattle.marks.specs.declared.refusal.Refusal.{Refusal}
use Rattle.marks.specs.Refusals.{Refuses, Gives, Test}
use Rattle.marks.specs.Sets.{Marks, ◌∈◌}
use Rattle.readings.specs.Books.{Book}
use Rattle.readings.specs.Readings.{LeastReading, Sound}
use Rattle.readings.specs.Says.{the_answer, the_verdict, Rounds}
use Rattle.readings.specs.declared.answer.Answer.{Answer}
use Rattle.readings.specs.declared.answer.Answer.TheVariants.{Not, Holds}
use Rattle.readings.specs.declared.method.Method.{Method}
use Rattle.readings.specs.declared.verdict.Verdict.{Verdict}
use Rattle.readings.specs.declared.verdict.Verdict.TheVariants.{Broken}
use Rattle.lines.specs.declared.fare.FareLine.{FareLine}
use Rattle.settling.specs.Calls.{LawfulFares}
use Rattle.settling.specs.Growth.{rules_of}
use Rattle.sheet.specs.Cases.{the_reply}
use Rattle.sheet.specs.declared.call.Call.{Call}
use Rattle.sheet.specs.declared.call.Call.TheVariants.{Enter, Strike, Settle, Ask}
use Rattle.sheet.specs.declared.reply.Reply.{Reply}
use Rattle.runs.specs.Histories.{Event, History, Stands, IsSettled, Standing}

-- with one book and one list of fare lines throughout
module _ (B : Book) (lines : List FareLine) where
  -- An answered settle gives the verdict of the facts that stand and its method's rounds.
  pub record SettleRight (h : History) (method : Method) (v : Verdict) (n : ℕ) : Type 0 where
    pub facts : Marks
    pub standing : Standing h facts
    pub T : Marks
    pub U : Marks
    pub reading : LeastReading B (rules_of lines) facts T U
    pub verdict : (the_verdict v).says B (rules_of lines) facts T U
    pub rounds : Rounds B (rules_of lines) facts method n T U
    -- the other method in its place would give the same
    pub either : (other : Method) → Rounds B (rules_of lines) facts other n T U
    -- when it says "broken", those facts have no sound reading
    pub broken : v ≡ Broken → (M : Marks) → Sound B (rules_of lines) facts M → ⊥

  -- An answered ask gives what the least reading of the facts that stand says of its mark.
  pub record AskRight (h : History) (m : ℕ) (a : Answer) : Type 0 where
    pub facts : Marks
    pub standing : Standing h facts
    pub T : Marks
    pub U : Marks
    pub reading : LeastReading B (rules_of lines) facts T U
    pub says : (the_answer a).says T U m
    -- a mark answered "holds" is in every sound reading of those facts, and one answered "not" is in none
    pub holds : a ≡ Holds → (M : Marks) → Sound B (rules_of lines) facts M → m ∈ M
    pub not : a ≡ Not → (M : Marks) → Sound B (rules_of lines) facts M → m ∈ M → ⊥

  -- A call after the history h, on a sheet of the width w, is refused exactly when the rules refuse it, with that number, and else
  -- answered rightly.
  abbrev pub ReplyRight : (w : ℕ) → History → Call → Result Reply Refusal → Type 0
  ReplyRight w h (Enter m) r =
      Test (w ≤ m) (Refuses r 9)
      (Test (Stands h m) (Refuses r 10)
      (Gives r (λ y. (the_reply y).done)))
  ReplyRight w h (Strike m) r =
      Test (w ≤ m) (Refuses r 9)
      (Test (Stands h m → ⊥) (Refuses r 11)
      (Gives r (λ y. (the_reply y).done)))
  ReplyRight w h (Settle method) r =
      Test (w ≢ B.width) (Refuses r 7)
      (Test (LawfulFares B.width lines → ⊥) (Refuses r 8)
      (Gives r (λ y. (the_reply y).settled (SettleRight h method))))
  ReplyRight w h (Ask m) r =
      Test (w ≤ m) (Refuses r 9)
      (Test (IsSettled h → ⊥) (Refuses r 12)
      (Gives r (λ y. (the_reply y).told (AskRight h m))))

  -- A run on a sheet of the width w that began new is right when each reply is, by the history before it.
  pub data RightRun (w : ℕ) : History → Type 0 where
    begun : RightRun w []
    more : {h : History} {e : Event} → RightRun w h → ReplyRight w h e.call e.reply → RightRun w (e ∷ h)
