-- The lines behind the opening of a file are read exactly, and a file is its opening and its lines.
use Rattle.std.proofs.Common.{◌≡◌, ℕ, List, [], ◌∷◌, ◌++◌, map, length, sym, refl, ap, ◌∙◌, append_assoc}
use Rattle.std.specs.List.{flat_map, AllByRecursion}
use Rattle.lines.specs.declared.fare.FareLine.{FareLine}
use Rattle.lines.specs.declared.term.TermLine.{TermLine}
use Rattle.tariff.specs.Numbers.{Bytes, encode}
use Rattle.tariff.specs.Readings.{mapped}
use Rattle.tariff_format.specs.declared.counts.Counts.{Counts}
use Rattle.tariff_format.specs.declared.fault.FileFault.{FileFault}
use Rattle.tariff_format.specs.declared.fault.Section.TheVariants.{Fare, Term}
use Rattle.tariff_format.specs.Encoding.{Tariff, fare_bytes, term_bytes, file_bytes}
use Rattle.tariff_format.specs.Faults.{as_lines}
use Rattle.tariff_format.specs.Files.{sections_at}
use Rattle.tariff_format.specs.Lines.{fare_at, term_at, fare_line_at, term_line_at, lines_at}
use Rattle.tariff_format.specs.Places.{opening_bytes, RightCounts}
use Rattle.tariff_format.specs.Tariffs.{tariff_of, counts_of}
use Rattle.tariff_format.specs.Tidy.{Tidy, TidyFare, TidyTerm}
use Rattle.tariff_format.proofs.Exact.{Stops, EitherStop, Exact, mapped_exact, chosen_exact}
use Rattle.tariff_format.proofs.ExactLines.{fare_stops, term_stops, section_stops, fare_exact, term_exact, section_exact}

-- records that are all tidy
pub all_tidy : {R : Type 0} (L : R → Type 0) (tidy : R → R) (xs : List R) → AllByRecursion L xs → map tidy xs ≡ xs → AllByRecursion (Tidy L tidy) xs
all_tidy L tidy [] lawful zeros = tt
all_tidy L tidy (x ∷ xs) lawful zeros =
    let here : tidy x ≡ x = cc in
    let rest : map tidy xs ≡ xs = cc in
    (record { lawful = lawful.0; zeros = here }, all_tidy L tidy xs lawful.1 rest)

pub tidy_all : {R : Type 0} (L : R → Type 0) (tidy : R → R) (xs : List R) → AllByRecursion (Tidy L tidy) xs → AllByRecursion L xs × (map tidy xs ≡ xs)
tidy_all L tidy [] h = (tt, refl)
tidy_all L tidy (x ∷ xs) h = let rest = tidy_all L tidy xs h.1 in ((h.0.lawful, rest.0), (λ i. h.0.zeros i ∷ rest.1 i))

abbrev pub lines_bytes : Tariff → List ℕ
lines_bytes t = flat_map fare_bytes t.fares ++ flat_map term_bytes t.terms

pub file_split : (t : Tariff) → file_bytes t ≡ opening_bytes (counts_of t) ++ lines_bytes t
file_split t = sym (append_assoc (encode t.width) (encode (length t.fares) ++ encode (length t.terms)) (lines_bytes t) ∙ ap (λ l. encode t.width ++ l) (append_assoc (encode (length t.fares)) (encode (length t.terms)) (lines_bytes t)))

module _ (bs : List ℕ) (bytes : Bytes bs) where
  -- the lines behind an opening
  module _ (h : Counts) (right : RightCounts h) where
    abbrev pub fares_ok : List FareLine → Type 0
    fares_ok fs = AllByRecursion (TidyFare h.width) fs × (length fs ≡ h.fares)

    abbrev pub terms_ok : List TermLine → Type 0
    terms_ok ts = AllByRecursion (TidyTerm h.width) ts × (length ts ≡ h.terms)

    abbrev pub fares_stops : Stops FileFault
    fares_stops = section_stops Fare fare_bytes (TidyFare h.width) (fare_stops h.width) h.fares

    abbrev pub terms_stops : Stops FileFault
    terms_stops = section_stops Term term_bytes (TidyTerm h.width) (term_stops h.width) h.terms

    abbrev pub lines_ok : Tariff → Type 0
    lines_ok t = fares_ok t.fares × (terms_ok t.terms × (tariff_of h.width t.fares t.terms ≡ t))

    abbrev pub lines_stops : Stops FileFault
    lines_stops = EitherStop (flat_map fare_bytes) fares_ok fares_stops (λ _. terms_stops)

    pub sections_exact : Exact bs (sections_at bs h) lines_bytes lines_ok lines_stops
    sections_exact =
        chosen_exact bs (λ p. as_lines (lines_at (fare_line_at h.width bs) h.fares 0 p)) (λ fs q. mapped (tariff_of h.width fs) (as_lines (lines_at (term_line_at h.width bs) h.terms 0 q)))
        (flat_map fare_bytes) fares_ok fares_stops (λ _ t. flat_map term_bytes t.terms) (λ fs t. terms_ok t.terms × (tariff_of h.width fs t.terms ≡ t)) (λ _. terms_stops) (λ t. t.fares)
        (λ fs t k. sym (ap (λ (d : Tariff). d.fares) k.1))
        (section_exact bs Fare (fare_at h.width bs) fare_bytes (TidyFare h.width) (fare_stops h.width) (fare_exact bs bytes h.width right.width.0 right.width.1) h.fares)
        (λ fs _. mapped_exact bs (λ q. as_lines (lines_at (term_line_at h.width bs) h.terms 0 q)) (flat_map term_bytes) terms_ok terms_stops (tariff_of h.width fs) (λ t. t.terms) (λ _ _. refl)
        (section_exact bs Term (term_at h.width bs) term_bytes (TidyTerm h.width) (term_stops h.width) (term_exact bs bytes h.width right.width.0 right.width.1) h.terms))
