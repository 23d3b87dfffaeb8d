-- The reading of a list's marks gives what is right to answer, and marks that stand in the bytes are read.
use Rattle.std.proofs.Common.{◌≡◌, ℕ, ◌+◌, ◌-◌, ◌<◌, ◌≤◌, List, ◌∷◌, ◌++◌, length, drop, Ok, Err, Result, sym, refl, ap, ◌∙◌, arith}
use Rattle.std.specs.List.{flat_map}
use Rattle.tariff.specs.declared.fault.NumberFault.{NumberFault}
use Rattle.tariff.specs.Numbers.{Bytes, encode}
use Rattle.tariff.specs.Readings.{mapped}
use Rattle.tariff.specs.Faults.{FaultIs, NumberAnswer}
use Rattle.tariff.specs.Lists.{mark_at, marks_at, Ascending, least_behind}
use Rattle.tariff.proofs.Answering.{right_answer, only_answer}
use Rattle.tariff.proofs.Rows.{behind, AllSaid, OneSaid, all_said, all_read}

-- what lies behind a number that ends at q
pub behind_number : (bs : List ℕ) (p n q : ℕ) (rest : List ℕ) → drop p bs ≡ encode n ++ rest → q ≡ p + length (encode n) → drop q bs ≡ rest
behind_number bs p n q rest h e = ap (λ i. drop i bs) e ∙ behind bs p (encode n) rest h

module _ (w : ℕ) (bs : List ℕ) where
  -- a mark that is refused
  abbrev MarkFails : ℕ → ℕ → NumberFault → Type 0
  MarkFails least p f = FaultIs 0 (w - 1) least bs p f

  -- what is right to answer of n marks from p on
  abbrev pub MarksAnswer : ℕ → ℕ → ℕ → Result (List ℕ × ℕ) NumberFault → Type 0
  MarksAnswer = AllSaid bs encode (Ascending w) least_behind MarkFails

  module _ (some : 1 ≤ w) (bytes : Bytes bs) where
    abbrev mark_ok : ℕ → ℕ → Type 0
    mark_ok least m = (least ≤ m) × (m < w)

    one_mark : (least p : ℕ) (r : Result (ℕ × ℕ) NumberFault) → NumberAnswer 0 (w - 1) least bs p r → OneSaid bs encode mark_ok MarkFails least p r
    one_mark least p (Ok x) h =
        let low = h.limit.1 in (
          (h.ascent, omega arith),
          h.stands.front ∙ ap (λ l. encode x.0 ++ l) (sym (behind_number bs p x.0 x.1 h.stands.rest h.stands.front h.behind)),
          h.behind,
        )
    one_mark least p (Err f) h = h

    pub right_marks : (n least p : ℕ) → MarksAnswer n least p (marks_at w bs n least p)
    right_marks = all_said bs (mark_at w bs) (λ m _. m + 1) encode (Ascending w) least_behind (λ _. refl) (λ _ _ _. refl) mark_ok MarkFails (λ _. tt) (λ least m ms h rest. (h.0, h.1, rest)) (λ least p. one_mark least p (mark_at w bs least p) (right_answer 0 (w - 1) least bs p bytes))

  module _ (small : w ≤ 512) where
    -- a mark that stands in the bytes is read
    mark_read : (least p m : ℕ) (ms rest : List ℕ) → Ascending w least (m ∷ ms) → drop p bs ≡ encode m ++ rest → (mark_at w bs least p ≡ Ok (m, p + length (encode m))) × Ascending w (m + 1) ms
    mark_read least p m ms rest asc h =
        let low = asc.1 in
        (only_answer 0 (w - 1) least bs p (Ok (m, p + length (encode m))) (record { stands = record { small = omega arith; rest = rest; front = h }; limit = (omega arith, omega arith); ascent = asc.0; behind = refl }), asc.2)

    pub marks_read : (ms : List ℕ) (n least p : ℕ) (rest : List ℕ) → length ms ≤ n → Ascending w least ms → drop p bs ≡ flat_map encode ms ++ rest → marks_at w bs n least p ≡ mapped (λ l. ms ++ l) (marks_at w bs (n - length ms) (least_behind least ms) (p + length (flat_map encode ms)))
    marks_read = all_read bs (mark_at w bs) (λ m _. m + 1) encode (Ascending w) least_behind (λ _. refl) (λ _ _ _. refl) mark_read
