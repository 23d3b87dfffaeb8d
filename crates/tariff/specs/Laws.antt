-- The theorems on numbers and facts strings, as statements.
use Rattle.std.specs.Prelude.{◌≡◌, ℕ, ◌≤◌, ◌↔◌, List, ◌++◌, length, take, drop, Ok, Result}
use Rattle.marks.specs.Sets.{Marks, OfWidth}
use Rattle.tariff.specs.declared.fault.NumberFault.{NumberFault}
use Rattle.tariff.specs.Numbers.{Bytes, Spells, encode}
use Rattle.tariff.specs.Readings.{decode, number_at}
use Rattle.tariff.specs.Faults.{NumberAnswer}
use Rattle.tariff.specs.Writings.{Written}
use Rattle.tariff.specs.Facts.{facts_bytes, facts_at, FactsAnswer}

-- numbers up to 65,535 and their bytes
pub record NumbersStand : Type 0 where
  -- the bytes of a number are its shortest form
  pub spells : (n : ℕ) → n ≤ 65535 → Spells (encode n) n
  -- and no other bytes are
  pub only : (n : ℕ) (ds : List ℕ) → n ≤ 65535 → Bytes ds → Spells ds n → ds ≡ encode n
  -- what was encoded decodes to itself, whatever stands behind it
  pub back : (n : ℕ) (rest : List ℕ) → n ≤ 65535 → decode (encode n ++ rest) ≡ Ok (n, length (encode n))
  -- what decodes was so encoded
  pub was : (bs : List ℕ) (n k : ℕ) → Bytes bs → decode bs ≡ Ok (n, k) → (n ≤ 65535) × (k ≡ length (encode n)) × (bs ≡ encode n ++ drop k bs)
  -- a reading at a place gives exactly what is right: the number is taken, or refused by a test, exactly when the words say
  pub answer : (low high least : ℕ) (bs : List ℕ) (p : ℕ) (r : Result (ℕ × ℕ) NumberFault) → Bytes bs → (number_at low high least bs p ≡ r) ↔ NumberAnswer low high least bs p r

-- facts strings for the widths 1 to 512
pub record FactsStand : Type 0 where
  -- a reading gives exactly what is right: the string of a set is taken as that set, other bytes are refused as the words say
  pub answer : (w : ℕ) (bs : List ℕ) (r : Result (Marks × ℕ) NumberFault) → 1 ≤ w → w ≤ 512 → Bytes bs → (facts_at w bs ≡ r) ↔ FactsAnswer w bs r
  -- what was written is read as the set that it was written from
  pub back : (w : ℕ) (S : Marks) (out after : List ℕ) (n : ℕ) → w ≤ 512 → OfWidth w S → Written out 0 (facts_bytes w S) after n → facts_at w (take n after) ≡ Ok (S, n)
  -- what was read is written as the bytes that it was read from
  pub same : (w : ℕ) (bs : List ℕ) (S : Marks) (q : ℕ) (out after : List ℕ) (n : ℕ) → 1 ≤ w → Bytes bs → facts_at w bs ≡ Ok (S, q) → Written out 0 (facts_bytes w S) after n → take n after ≡ bs
