-- The tariff that the bytes of a file give, or the fault.
use Rattle.std.specs.Prelude.{ℕ, cond, List, Ok, Err, Result, nat_lt}
use Rattle.marks.specs.declared.refusal.Refusal.TheVariants.{FewRecords}
use Rattle.tariff.specs.declared.fault.NumberFault.{NumberFault}
use Rattle.tariff.specs.Facts.{ended}
use Rattle.tariff.specs.Readings.{and_then, mapped, fault, number_at}
use Rattle.tariff_format.specs.declared.counts.Counts.{Counts}
use Rattle.tariff_format.specs.declared.fault.FileFault.{FileFault}
use Rattle.tariff_format.specs.Encoding.{Tariff}
use Rattle.tariff_format.specs.Faults.{outside_lines, as_lines}
use Rattle.tariff_format.specs.Lines.{fare_line_at, term_line_at, lines_at}

-- the caller has a record for each line; the two counts stand at a and b
abbrev pub room_for : ℕ → ℕ → ℕ → ℕ → Counts → ℕ → Result (Counts × ℕ) NumberFault
room_for fares terms a b h q = cond (nat_lt fares h.fares) (Err (fault FewRecords a)) (cond (nat_lt terms h.terms) (Err (fault FewRecords b)) (Ok (h, q)))

-- the width and the two counts, for a caller with so many fare and term records
abbrev pub opening_at : ℕ → ℕ → List ℕ → ℕ → Result (Counts × ℕ) NumberFault
opening_at fares terms bs p =
    and_then (number_at 1 512 0 bs p) (λ w a. and_then (number_at 0 1024 0 bs a) (λ f b. and_then (number_at 0 512 0 bs b) (λ t q. room_for fares terms a b (record { width = w; fares = f; terms = t }) q)))

-- the fare lines and then the term lines behind an opening
abbrev pub sections_at : List ℕ → Counts → ℕ → Result (Tariff × ℕ) FileFault
sections_at bs h p =
    and_then (as_lines (lines_at (fare_line_at h.width bs) h.fares 0 p)) (λ fs q. mapped (λ ts. record { width = h.width; fares = fs; terms = ts }) (as_lines (lines_at (term_line_at h.width bs) h.terms 0 q)))

-- the whole file, for a caller with so many fare and term records: nothing stands behind its lines
abbrev pub file_at : ℕ → ℕ → List ℕ → Result (Tariff × ℕ) FileFault
file_at fares terms bs = and_then (and_then (outside_lines (opening_at fares terms bs 0)) (sections_at bs)) (λ t q. outside_lines (ended bs t q))
