-- The bytes of a number decode to it, and what decodes are the bytes of a number.
use Rattle.std.proofs.Common.{◌≡◌, ℕ, ◌<◌, ◌≤◌, List, [], ◌∷◌, ◌++◌, length, get_or, drop, Ok, Fits, w8, arith}
use Rattle.std.proofs.ByRecursion.{All-from_get_or}
use Rattle.std.proofs.lemmas.Bool.Decides.{nat_tests}
use Rattle.tariff.specs.Numbers.{Bytes, encode}
use Rattle.tariff.specs.Readings.{decode}

pub decode_encode : (n : ℕ) (rest : List ℕ) → n ≤ 65535 → decode (encode n ++ rest) ≡ Ok (n, length (encode n))
decode_encode n rest small = grind (arith, nat_tests)

pub encode_decode : (bs : List ℕ) (n k : ℕ) → Bytes bs → decode bs ≡ Ok (n, k) → (n ≤ 65535) × (k ≡ length (encode n)) × (bs ≡ encode n ++ drop k bs)
encode_decode [] n k bytes e = grind (arith, nat_tests)
encode_decode (a ∷ []) n k bytes e = (grind (arith, nat_tests), grind (arith, nat_tests), grind (arith, nat_tests))
encode_decode (a ∷ b ∷ []) n k bytes e = (grind (arith, nat_tests), grind (arith, nat_tests), grind (arith, nat_tests))
encode_decode (a ∷ b ∷ c ∷ bs) n k bytes e = (grind (arith, nat_tests), grind (arith, nat_tests), grind (arith, nat_tests))

-- a slice of bytes, by what its type says of each
pub bytes_fit : (bs : List ℕ) → ((i : ℕ) → Fits w8 (get_or bs i 0)) → Bytes bs
bytes_fit bs fits = All-from_get_or (λ b. b < 256) bs 0 (λ i _. (fits i).fits)
