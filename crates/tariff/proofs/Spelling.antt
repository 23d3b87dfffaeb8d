-- The bytes of a number are its one shortest spelling.
use Rattle.std.proofs.Common.{◌≡◌, ℕ, ◌+◌, ◌/◌, ◌%◌, ◌<◌, ◌≤◌, List, [], ◌∷◌, length, arith}
use Rattle.tariff.specs.Numbers.{Bytes, spelled, Finished, Spells, encode}
use Rattle.tariff.proofs.Tests.{cond_lt}

-- what holds of the three forms holds of the bytes of a number
pub by_form : (P : List ℕ → Type 0) (n : ℕ) → (n < 128 → P (n ∷ [])) → (128 ≤ n → n < 16384 → P ((n % 128 + 128) ∷ (n / 128) ∷ [])) → (16384 ≤ n → P ((n % 128 + 128) ∷ (n / 128 % 128 + 128) ∷ (n / 16384) ∷ [])) → P (encode n)
by_form P n one two three =
    cond_lt n 128 (n ∷ []) _ P one (λ low. cond_lt n 16384 ((n % 128 + 128) ∷ (n / 128) ∷ []) _ P (two low) three)

module _ (n : ℕ) (small : n ≤ 65535) where
  encode_finished : Finished (encode n)
  encode_finished = by_form Finished n (λ h. h) (λ h k. (omega arith, omega arith)) (λ h. (omega arith, (omega arith, omega arith)))

  encode_spelled : spelled (encode n) ≡ n
  encode_spelled = by_form (λ l. spelled l ≡ n) n (λ h. omega arith) (λ h k. omega arith) (λ h. omega arith)

  encode_shortest : (es : List ℕ) → Finished es → spelled es ≡ n → length (encode n) ≤ length es
  encode_shortest [] m e = absurd m
  encode_shortest (a ∷ []) m e = by_form (λ l. length l ≤ 1) n (λ h. omega arith) (λ h k. absurd (omega arith)) (λ h. absurd (omega arith))
  encode_shortest (a ∷ b ∷ []) m e = by_form (λ l. length l ≤ 2) n (λ h. omega arith) (λ h k. omega arith) (λ h. absurd (omega arith))
  encode_shortest (a ∷ b ∷ c ∷ es) m e = by_form (λ l. length l ≤ length (a ∷ b ∷ c ∷ es)) n (λ h. omega arith) (λ h k. omega arith) (λ h. omega arith)

  pub encode_spells : Spells (encode n) n
  encode_spells = record { finished = encode_finished; value = encode_spelled; shortest = encode_shortest }

  pub spells_encode : (ds : List ℕ) → Bytes ds → Spells ds n → ds ≡ encode n
  spells_encode [] bytes s = absurd s.finished
  spells_encode (a ∷ []) bytes s =
      let m = s.finished in let v = s.value in
      by_form (λ l. a ∷ [] ≡ l) n (λ h. grind arith) (λ h k. absurd (omega arith)) (λ h. absurd (omega arith))
  spells_encode (a ∷ b ∷ []) bytes s =
      let m = s.finished in let v = s.value in let least = s.shortest (encode n) encode_finished encode_spelled in
      by_form (λ l. 2 ≤ length l → a ∷ b ∷ [] ≡ l) n (λ h k. absurd (omega arith)) (λ h k z. grind arith) (λ h z. absurd (omega arith)) least
  spells_encode (a ∷ b ∷ c ∷ []) bytes s =
      let m = s.finished in let v = s.value in let least = s.shortest (encode n) encode_finished encode_spelled in
      by_form (λ l. 3 ≤ length l → a ∷ b ∷ c ∷ [] ≡ l) n (λ h z. absurd (omega arith)) (λ h k z. absurd (omega arith)) (λ h z. grind arith) least
  spells_encode (a ∷ b ∷ c ∷ d ∷ ds) bytes s =
      let least = s.shortest (encode n) encode_finished encode_spelled in
      absurd (by_form (λ l. length (a ∷ b ∷ c ∷ d ∷ ds) ≤ length l → ⊥) n (λ h z. omega arith) (λ h k z. omega arith) (λ h z. omega arith) least)
