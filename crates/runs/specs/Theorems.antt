-- The theorems on runs: whoever makes the calls, one by one or as a list, has a right run, and the rules leave no reply open.
use Rattle.std.specs.Prelude.{◌≡◌, ℕ, List, [], ◌∷◌, map}
use Rattle.readings.specs.Books.{Book, Lawful}
use Rattle.lines.specs.declared.fare.FareLine.{FareLine}
use Rattle.sheet.specs.Steps.{NewSheet, Step}
use Rattle.sheet.specs.declared.sheet.Sheet.{Sheet}
use Rattle.runs.specs.Histories.{Event, History}
use Rattle.runs.specs.Runs.{RightRun}

-- A chain of calls on one sheet: it began new, and each call took the sheet as the one before had left it. The contract of every
-- call on a sheet is such a step.
pub data Chain (B : Book) (lines : List FareLine) (w : ℕ) : History → Sheet → Type 0 where
  new : {s : Sheet} → NewSheet w s → Chain B lines w [] s
  call : {h : History} {s s' : Sheet} {e : Event} → Chain B lines w h s → Step B lines s e.call e.reply s' → Chain B lines w (e ∷ h) s'

-- For every book that keeps the laws and any fare lines at all, every chain is a right run.
abbrev pub ChainsAreRight : Type 0
ChainsAreRight = (B : Book) (lines : List FareLine) → Lawful B → (w : ℕ) (h : History) (s : Sheet) → Chain B lines w h s → RightRun B lines w h

-- Two right runs of the same calls have the same replies.
abbrev pub RunsDecide : Type 0
RunsDecide = (B : Book) (lines : List FareLine) (w : ℕ) (h h' : History)
    → map (λ e. e.call) h ≡ map (λ e. e.call) h' → RightRun B lines w h → RightRun B lines w h' → h ≡ h'
