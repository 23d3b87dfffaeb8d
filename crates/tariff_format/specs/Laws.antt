-- The theorems on tariff files, as statements.
use Rattle.std.specs.Prelude.{◌≡◌, ℕ, ◌≤◌, ◌↔◌, List, length, take, Ok, Result}
use Rattle.tariff.specs.Numbers.{Bytes}
use Rattle.tariff.specs.Writings.{Written}
use Rattle.tariff_format.specs.declared.fault.FileFault.{FileFault}
use Rattle.tariff_format.specs.Answers.{FileAnswer}
use Rattle.tariff_format.specs.Encoding.{Tariff, LawfulTariff, file_bytes}
use Rattle.tariff_format.specs.Files.{file_at}
use Rattle.tariff_format.specs.Tariffs.{WholeTariff, SameTariff}
use Rattle.tariff_format.specs.Tidy.{tidy_tariff}

-- a lawful tariff of whole records
pub record Proper (t : Tariff) : Type 0 where
  pub lawful : LawfulTariff t
  pub whole : WholeTariff t

-- tariff files, read by a caller with m fare and n term records
pub record FilesStand : Type 0 where
  -- a reading gives exactly what is right: the file of a tariff is taken as that tariff, other bytes are refused as the words say
  pub answer : (m n : ℕ) (bs : List ℕ) (r : Result (Tariff × ℕ) FileFault) → Bytes bs → (file_at m n bs ≡ r) ↔ FileAnswer m n bs r
  -- the file of every proper tariff is taken, where there is room, and gives it back with 0 in its unused places
  pub takes : (m n : ℕ) (t : Tariff) → Proper t → length t.fares ≤ m → length t.terms ≤ n → file_at m n (file_bytes t) ≡ Ok (tidy_tariff t, length (file_bytes t))
  -- which is the same tariff in all used places
  pub tidy : (t : Tariff) → Proper t → SameTariff t (tidy_tariff t)
  -- what was written is read as the tariff that it was written from
  pub back : (m n : ℕ) (t : Tariff) (out after : List ℕ) (k : ℕ) → Proper t → length t.fares ≤ m → length t.terms ≤ n → Written out 0 (file_bytes t) after k → file_at m n (take k after) ≡ Ok (tidy_tariff t, k)
  -- what was read is written as the bytes that it was read from
  pub same : (m n : ℕ) (bs : List ℕ) (t : Tariff) (q : ℕ) (out after : List ℕ) (k : ℕ) → Bytes bs → file_at m n bs ≡ Ok (t, q) → Written out 0 (file_bytes t) after k → take k after ≡ bs
  -- two proper tariffs with the same file are the same in all used places
  pub one : (t u : Tariff) → Proper t → Proper u → file_bytes t ≡ file_bytes u → SameTariff t u
