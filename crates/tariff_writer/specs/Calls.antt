-- What the calls of this crate test and answer.
use Rattle.std.specs.Prelude.{◌≡◌, ℕ, ◌<◌, ◌≤◌, List, length, take, Ok, Result}
use Rattle.marks.specs.declared.refusal.Refusal.{Refusal}
use Rattle.marks.specs.MarkSets.{BadWidth}
use Rattle.marks.specs.Refusals.{Refuses, Gives, Test}
use Rattle.lines.specs.Lawful.{LawfulFare, LawfulTerm, AllLawful}
use Rattle.tariff.specs.Numbers.{Bytes}
use Rattle.tariff.specs.Writings.{Written}
use Rattle.tariff_format.specs.Encoding.{Tariff, LawfulTariff, file_bytes}
use Rattle.tariff_format.specs.Files.{file_at}
use Rattle.tariff_format.specs.Laws.{Proper}
use Rattle.tariff_format.specs.Tidy.{tidy_tariff}

-- at most 1,024 fare and 512 term records, each lawful for the width
pub record LawfulRecords (t : Tariff) : Type 0 where
  pub fares : AllLawful (LawfulFare t.width) 1024 t.fares
  pub terms : AllLawful (LawfulTerm t.width) 512 t.terms

-- the tariff is lawful, and n is the length of its file
pub record Sized (t : Tariff) (n : ℕ) : Type 0 where
  pub lawful : LawfulTariff t
  pub exact : n ≡ length (file_bytes t)
  pub most : n ≤ 47110

-- what a call does that first asks whether the tariff is lawful: 7 exactly where the width is outside 1 to 512, then 8 where a
-- record breaks a limit; else P holds of what it gives
abbrev pub Checks : {A : Type 0} → Tariff → Result A Refusal → (A → Type 0) → Type 0
Checks t r P = Test (BadWidth t.width) (Refuses r 7) (Test (LawfulRecords t → ⊥) (Refuses r 8) (Gives r P))

-- what a call does that tells the length of a tariff's file
abbrev pub Sizes : Tariff → Result ℕ Refusal → Type 0
Sizes t r = Checks t r (Sized t)

-- the file of a lawful tariff was written over out from the first byte on, which left after, and n is its length
pub record Filed (t : Tariff) (out after : List ℕ) (n : ℕ) : Type 0 where
  pub proper : Proper t
  pub file : Written out 0 (file_bytes t) after n
  pub most : n ≤ 47110
  -- a reading of these n bytes, with room for all lines, gives the tariff back with 0 in its unused places
  pub back : (m k : ℕ) → length t.fares ≤ m → length t.terms ≤ k → file_at m k (take n after) ≡ Ok (tidy_tariff t, n)
  -- and where the tariff was read from a file, they are the bytes of that file
  pub same : (m k : ℕ) (bs : List ℕ) (q : ℕ) → Bytes bs → file_at m k bs ≡ Ok (t, q) → take n after ≡ bs

-- a call was refused with n, and changed no byte
abbrev pub Leaves : Result ℕ Refusal → ℕ → List ℕ → List ℕ → Type 0
Leaves r n out after = Refuses r n × (after ≡ out)

-- what a call does that writes a tariff's file over out: 7 exactly where the width is outside 1 to 512, then 8 where a record breaks
-- a limit, then 13 where the file has no room
abbrev pub WritesFile : Tariff → List ℕ → List ℕ → Result ℕ Refusal → Type 0
WritesFile t out after r =
    Test (BadWidth t.width) (Leaves r 7 out after)
    (Test (LawfulRecords t → ⊥) (Leaves r 8 out after) (Test (length out < length (file_bytes t)) (Leaves r 13 out after) (Gives r (Filed t out after))))
