-- The bits of a number as a set: what the library knows of one bit, as a test.
use Rattle.std.proofs.Common.{◌≡◌, ℕ, suc, ◌+◌, ◌-◌, ◌/◌, ◌%◌, ◌^◌, ◌<◌, ◌≤◌, true, false, not, ◌&&◌, ◌||◌, eqb, ltb, w64, ⊎_elim, sym, ap, ◌∙◌, arith, shr-shr}
use lib.Bits.{bit_and, bit_or}
use lib.Count.{count_trailing_zeros}
use Rattle.std.proofs.lemmas.Bool.{cases_eq, cases_lt, eq-eqb, ne_eqb, lt-ltb, le-ltb}
use Rattle.std.proofs.lemmas.Bool.Decides.{nat_tests}
use Rattle.std.proofs.lemmas.Nat.Bits.{bit_at_lowest, bit_at-suc, bit_at-zero, bit_at_and, bit_at_or, bit_at-pow_same, bit_at-pow_other, bit_at_ones, bit_at_ones_above, bit_at_not, bit_at-trailing_zeros, bit_at-lt, same_from_bits_below, bit_at_above}
use Rattle.std.specs.Int.{bit_at}
use Rattle.marks.specs.Words.{bit}

-- the bit as a number, and as a test
bit_is : (n k d : ℕ) → bit_at n k ≡ d → bit n k ≡ eqb d 1
unfolding bit
bit_is n k d e = ap (λ (x : ℕ). eqb x 1) e

pub bit_zero : (k : ℕ) → bit 0 k ≡ false
bit_zero k = bit_is 0 k 0 (bit_at-zero k)

-- the lowest bit, and those above it
pub bit_low : (n : ℕ) → bit n 0 ≡ eqb (n % 2) 1
bit_low n = bit_is n 0 (n % 2) (bit_at_lowest n)

pub bit_suc : (n k : ℕ) → bit n (suc k) ≡ bit (n / 2) k
unfolding bit
bit_suc n k = bit_is n (suc k) (bit_at (n / 2) k) (bit_at-suc n k)

pub bit_of_and : (a b k : ℕ) → bit (bit_and a b) k ≡ (bit a k && bit b k)
unfolding bit
bit_of_and a b k =
    let e = bit_at_and a b k in
    let x = bit_at-lt a k in
    let y = bit_at-lt b k in
    grind (arith, nat_tests)

pub bit_of_or : (a b k : ℕ) → bit (bit_or a b) k ≡ (bit a k || bit b k)
unfolding bit
bit_of_or a b k =
    let e = bit_at_or a b k in
    let x = bit_at-lt a k in
    let y = bit_at-lt b k in
    grind (arith, nat_tests)

pub bit_not : (a k : ℕ) → a < 2 ^ 64 → k < 64 → bit (2 ^ 64 - 1 - a) k ≡ not (bit a k)
unfolding bit
bit_not a k h l =
    let e = bit_at_not w64 a k h l in
    let x = bit_at-lt a k in
    grind (arith, nat_tests)

-- the bit of a power of two
pub bit_pow : (j k : ℕ) → bit (2 ^ j) k ≡ eqb k j
bit_pow j k =
    ⊎_elim (λ (e : k ≡ j). ap (bit (2 ^ j)) e ∙ bit_is (2 ^ j) j 1 (bit_at-pow_same j) ∙ sym (eq-eqb k j e))
    (λ (ne : k ≡ j → ⊥). bit_is (2 ^ j) k 0 (bit_at-pow_other j k ne) ∙ sym (ne_eqb k j ne))
    (cases_eq k j)

-- the bits of a run of n ones
pub bit_run : (n k : ℕ) → bit (2 ^ n - 1) k ≡ ltb k n
bit_run n k =
    ⊎_elim (λ (l : k < n). bit_is (2 ^ n - 1) k 1 (bit_at_ones n k l) ∙ sym (lt-ltb k n l))
    (λ (h : n ≤ k). bit_is (2 ^ n - 1) k 0 (bit_at_ones_above n k h) ∙ sym (le-ltb k n h))
    (cases_lt k n)

-- the bits of a number shifted down
pub bit_shr : (n s k : ℕ) → bit (n / 2 ^ s) k ≡ bit n (s + k)
unfolding bit
bit_shr n s k = ap (λ (x : ℕ). eqb (x % 2) 1) (shr-shr n s k)

-- a number below 2 ^ n has no bit from n on
pub bit_high : (n a k : ℕ) → a < 2 ^ n → n ≤ k → bit a k ≡ false
bit_high n a k h l = bit_is a k 0 (bit_at_above a n k h l)

-- two numbers with the same bits are equal
pub bits_eq : (n a b : ℕ) → a < 2 ^ n → b < 2 ^ n → ((k : ℕ) → k < n → bit a k ≡ bit b k) → a ≡ b
unfolding bit
bits_eq n a b ha hb same = same_from_bits_below n a b ha hb one
  where
    one : (k : ℕ) → k < n → bit_at a k ≡ bit_at b k
    one k l =
        let e = same k l in
        let x = bit_at-lt a k in
        let y = bit_at-lt b k in
        grind (arith, nat_tests)

-- the lowest bit that is set is the count of the zeros below it
module _ (n : ℕ) (some : 0 < n) (h : n < 2 ^ 64) where
  pub trailing_at : bit n (count_trailing_zeros 64 n) ≡ true
  trailing_at = bit_is n (count_trailing_zeros 64 n) 1 (bit_at-trailing_zeros w64 n some h).1

  pub trailing_below : (j : ℕ) → j < count_trailing_zeros 64 n → bit n j ≡ false
  trailing_below j l = bit_is n j 0 ((bit_at-trailing_zeros w64 n some h).2 j l)
