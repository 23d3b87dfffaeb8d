-- What tables hold, as clauses see it: a tariff.
use Rattle.std.specs.Prelude.{◌≡◌, ℕ, ◌⊎◌, List, [], length}
use Rattle.tariff_format.specs.Encoding.{Tariff}
use Rattle.tariff_format.specs.Files.{file_at}
use Rattle.tariff_reader.specs.Answers.{Accepted}

-- what tables hold into which nothing was read
abbrev pub no_tariff : Tariff
no_tariff = record { width = 0; fares = []; terms = [] }

-- no lines, which a fault that is met behind the first of a file's lines would spoil
abbrev pub HasNoLines : Tariff → Type 0
HasNoLines t = (length t.fares ≡ 0) × (length t.terms ≡ 0)

-- a file can be read over what tables hold: they have no lines, or the file has no fault
abbrev pub CanReadOver : Tariff → List ℕ → Type 0
CanReadOver held file = HasNoLines held ⊎ Accepted (file_at 1024 512 file)
