-- The theorems on the host call's answers, as statements.
use Rattle.std.specs.Prelude.{◌≡◌, ℕ, ◌⊎◌, List, [], ◌∷◌}
use mathlib.Core.List.{Memᴰ}
use Rattle.tariff.specs.Numbers.{Bytes}
use Rattle.host.specs.Host.{HostAnswer}

-- of the same file, facts and output, no two outcomes differ: in the answer, or in a byte of the output
abbrev pub HostDecides : Type 0
HostDecides = (file facts before after after' : List ℕ) (a a' : ℕ) → Bytes file
    → HostAnswer file facts before after a → HostAnswer file facts before after' a' → (a ≡ a') × (after ≡ after')

-- the numbers of the verdicts, and of the refusals that the call can meet: a number of file or facts fails no test but 1 to 4, 5 is
-- never met since there is room for the most lines a file can count, 6 is for bytes left over, 13 for the output
abbrev pub verdict_answers : List ℕ
verdict_answers = 0 ∷ 1 ∷ 2 ∷ []

abbrev pub refusal_answers : List ℕ
refusal_answers = 101 ∷ 102 ∷ 103 ∷ 104 ∷ 106 ∷ 113 ∷ []

-- the call answers no other number, and with one of a refusal the output is as it was
abbrev pub HostAnswersListed : Type 0
HostAnswersListed = (file facts before after : List ℕ) (a : ℕ) → HostAnswer file facts before after a
    → Memᴰ a verdict_answers ⊎ (Memᴰ a refusal_answers × (after ≡ before))
