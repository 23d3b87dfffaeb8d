-- The turns of a loop that makes one reading behind another, i of n of them made; g says what becomes of what is read.
use Rattle.std.proofs.Common.{◌≡◌, ℕ, suc, ◌+◌, ◌-◌, ◌<◌, ◌≤◌, List, [], ◌∷◌, Ok, Err, Result, sym, refl, ap, ◌∙◌, arith}
use Rattle.tariff.specs.Readings.{and_then, mapped, many}

-- what is read, changed by nothing, or twice
pub mapped_same : {A E : Type 0} (r : Result (A × ℕ) E) → mapped (λ x. x) r ≡ r
mapped_same (Ok x) = refl
mapped_same (Err e) = refl

pub mapped_twice : {A B C E : Type 0} (f : B → C) (g : A → B) (r : Result (A × ℕ) E) → mapped f (mapped g r) ≡ mapped (λ x. f (g x)) r
mapped_twice f g (Ok x) = refl
mapped_twice f g (Err e) = refl

module _ {A B E S : Type 0} (g : List A → B) (read : S → ℕ → Result (A × ℕ) E) (next : A → S → S) (n i : ℕ) (s : S) (p : ℕ) where
  abbrev behind : A → ℕ → Result (List A × ℕ) E
  behind x q = mapped (λ xs. x ∷ xs) (many read next (n - (i + 1)) (next x s) q)

  one : (r : Result (A × ℕ) E) → i < n → r ≡ read s p → mapped g (many read next (n - i) s p) ≡ mapped g (and_then r behind)
  one r more h = let e : n - i ≡ suc (n - (i + 1)) = omega arith in ap (λ k. mapped g (many read next k s p)) e ∙ ap (λ x. mapped g (and_then x behind)) (sym h)

  -- a turn that reads x
  pub many_more : (x : A) (q : ℕ) → i < n → Ok (x, q) ≡ read s p → mapped g (many read next (n - i) s p) ≡ mapped (λ xs. g (x ∷ xs)) (many read next (n - (i + 1)) (next x s) q)
  many_more x q more h = one (Ok (x, q)) more h ∙ mapped_twice g (λ xs. x ∷ xs) (many read next (n - (i + 1)) (next x s) q)

  -- a turn that is refused
  pub many_stop : (f : E) → i < n → Err f ≡ read s p → mapped g (many read next (n - i) s p) ≡ Err f
  many_stop f more h = one (Err f) more h

  -- the end
  pub many_all : n ≤ i → mapped g (many read next (n - i) s p) ≡ Ok (g [], p)
  many_all h = let e : n - i ≡ 0 = omega arith in ap (λ k. mapped g (many read next k s p)) e
