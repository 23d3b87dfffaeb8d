-- A turn of a loop that reads into one place behind another, i of n of them filled.
use Rattle.std.proofs.Common.{◌≡◌, ℕ, ◌+◌, ◌-◌, ◌<◌, List, [], ◌∷◌, ◌++◌, length, take, set, Ok, Result, sym, ap, ◌∙◌, append_assoc}
use Rattle.std.proofs.lemmas.List.{take_more_set}
use Rattle.tariff.specs.Readings.{mapped, many}
use Rattle.tariff.proofs.Runs.{many_more}

module _ {A E S : Type 0} (read : S → ℕ → Result (A × ℕ) E) (next : A → S → S) (n i : ℕ) (s : S) (p : ℕ) (xs : List A) where
  -- a turn that reads x
  pub fill_more : (x : A) (q : ℕ) → i < n → i < length xs → Ok (x, q) ≡ read s p → mapped (λ l. take i xs ++ l) (many read next (n - i) s p) ≡ mapped (λ l. take (i + 1) (set xs i x) ++ l) (many read next (n - (i + 1)) (next x s) q)
  fill_more x q more inside h =
      many_more (λ l. take i xs ++ l) read next n i s p x q more h
      ∙ ap (λ g. mapped g (many read next (n - (i + 1)) (next x s) q)) (λ j l. (sym (append_assoc (take i xs) (x ∷ []) l) ∙ ap (λ f. f ++ l) (sym (take_more_set xs i x inside))) j)
