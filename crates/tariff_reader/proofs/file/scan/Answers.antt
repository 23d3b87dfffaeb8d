use Rattle.std.proofs.Common.{◌≡◌, ℕ, ◌≤◌, ltb, List, length, Ok, sym, ap, ◌∙◌, subst, arith}
use Rattle.std.proofs.lemmas.Bool.{cond-false, le-ltb}
use Rattle.tariff.specs.Facts.{ended}
use Rattle.tariff.specs.Readings.{and_then, mapped}
use Rattle.tariff_format.specs.declared.counts.Counts.{Counts}
use Rattle.tariff_format.specs.Encoding.{Tariff}
use Rattle.tariff_format.specs.Faults.{outside_lines, as_lines}
use Rattle.tariff_format.specs.Files.{opening_at, sections_at, file_at}
use Rattle.tariff_format.specs.Lines.{fare_line_at, term_line_at, lines_at}
use Rattle.tariff_reader.specs.Answers.{Accepted, Tested, Reads, answer}
use Rattle.tariff_reader.proofs.file.scan.Goals as goal

-- an opening, so many lines of each section, and nothing behind them
checked : (fares terms : ℕ) (bs : List ℕ) (h : Counts) (p q e : ℕ) → Ok (h, p) ≡ opening_at fares terms bs 0 → Reads (lines_at (fare_line_at h.width bs) h.fares 0 p) h.fares q → Reads (lines_at (term_line_at h.width bs) h.terms 0 q) h.terms e → length bs ≤ e → Tested (file_at fares terms bs) (Ok h)
checked fares terms bs h p q e opening first second whole =
    let t : Tariff = record { width = h.width; fares = first.lines; terms = second.lines } in
    let file : file_at fares terms bs ≡ Ok (t, e) =
    ap (λ r. and_then (and_then (outside_lines r) (sections_at bs)) (λ x z. outside_lines (ended bs x z))) (sym opening)
    ∙ ap (λ r. and_then (and_then (as_lines r) (λ fs z. mapped (λ ts. record { width = h.width; fares = fs; terms = ts }) (as_lines (lines_at (term_line_at h.width bs) h.terms 0 z)))) (λ x z. outside_lines (ended bs x z))) first.value
    ∙ ap (λ r. and_then (mapped (λ ts. record { width = h.width; fares = first.lines; terms = ts }) (as_lines r)) (λ x z. outside_lines (ended bs x z))) second.value
    ∙ ap outside_lines (cond-false (ltb e (length bs)) _ _ (le-ltb e (length bs) whole)) in
    (subst Accepted (sym file) tt, ap answer file ∙ (λ i. Ok (record { width = h.width; fares = first.count i; terms = second.count i })))

pub returns : goal.returns
returns c =
    let h = c.in_ok-counts.counts in
    let p : ℕ = c.read_opening.new.reader.place in
    let q : ℕ = c.skim.new.reader.place in
    let e : ℕ = c.skim-2.new.reader.place in
    let new = c.new-reader.ensures in
    let opening = c.in_ok-counts.ensures in
    let first = c.in_ok-skim.ensures in
    let second = c.in_ok-skim-2.ensures in
    let same = opening.same ∙ new.bytes in
    checked c.args.fares c.args.terms c.args.bytes.now h p q e
    (opening.value ∙ (λ i. opening_at c.args.fares c.args.terms (new.bytes i) (new.place i)))
    (subst (λ t. Reads (lines_at (fare_line_at h.width t) h.fares 0 p) h.fares q) same first.value)
    (subst (λ t. Reads (lines_at (term_line_at h.width t) h.terms 0 q) h.terms e) (first.same ∙ same) second.value) (omega (arith, ap length (second.same ∙ first.same ∙ same)))
