-- The reading of a file gives what is right to answer, and nothing else is right.
use Rattle.std.proofs.Common.{◌≡◌, ℕ, ◌+◌, ◌<◌, ◌≤◌, ltb, List, [], ◌++◌, length, drop, Ok, Err, Result, sym, refl, ap, ◌∙◌, subst, append_assoc, arith, length-append, length-drop}
use Rattle.std.specs.List.{flat_map, AllByRecursion}
use Rattle.std.proofs.lemmas.List.{append-nil, drop_all}
use Rattle.std.proofs.lemmas.Bool.{cond-true, cond-false, lt-ltb, le-ltb}
use Rattle.lines.specs.Lawful.{LawfulFare, LawfulTerm}
use Rattle.marks.specs.declared.refusal.Refusal.{Refusal}
use Rattle.marks.specs.declared.refusal.Refusal.TheVariants.{BytesRemain}
use Rattle.tariff.specs.declared.fault.NumberFault.{NumberFault}
use Rattle.tariff.specs.Facts.{ended}
use Rattle.tariff.specs.Numbers.{Bytes}
use Rattle.tariff.specs.Readings.{and_then, fault}
use Rattle.tariff.proofs.Tests.{cond_lt}
use Rattle.tariff_format.specs.declared.counts.Counts.{Counts}
use Rattle.tariff_format.specs.declared.fault.FileFault.{FileFault}
use Rattle.tariff_format.specs.declared.fault.FileFault.TheVariants.{Number, Line}
use Rattle.tariff_format.specs.declared.fault.LineFault.{LineFault}
use Rattle.tariff_format.specs.declared.fault.Section.{Section}
use Rattle.tariff_format.specs.declared.fault.Section.TheVariants.{Fare, Term}
use Rattle.tariff_format.specs.Answers.{file_fault, FailsAt, Taken, FileHasFault, at_number, few_fares, few_terms, left_over, FileAnswer}
use Rattle.tariff_format.specs.Encoding.{Tariff, fare_bytes, term_bytes, file_bytes}
use Rattle.tariff_format.specs.Faults.{line_fault, outside_lines}
use Rattle.tariff_format.specs.Files.{opening_at, sections_at, file_at}
use Rattle.tariff_format.specs.Places.{Limits, opening_bytes, HasRoom, fare_before, term_before, FilePlace, the_width, the_fares, the_terms, fare_line, term_line, file_before, file_limits, place_line, FileReached}
use Rattle.tariff_format.specs.Tariffs.{tariff_of, counts_of}
use Rattle.tariff_format.specs.Tidy.{tidy_fare, tidy_term, TidyFare, TidyTerm}
use Rattle.tariff_format.proofs.Exact.{in_first, in_second, Read, Says}
use Rattle.tariff_format.proofs.ExactLists.{as_is}
use Rattle.tariff_format.proofs.Openings.{OpeningSays, opening_says, after, opening_read, width_refused, fares_refused, terms_refused, fares_short, terms_short}
use Rattle.tariff_format.proofs.Sections.{all_tidy, tidy_all, lines_bytes, file_split, lines_ok, lines_stops, sections_exact}

-- the fault of a number in the line of an index, handed up to the file
abbrev from_line : Section → ℕ → NumberFault → FileFault
from_line s i f = Line (line_fault (record { section = s; index = i }) f)

handed_up : (s : Section) (i : ℕ) (up : NumberFault → FileFault) (line : NumberFault → LineFault) (low : NumberFault → NumberFault) → up ≡ (λ f. Line (line f)) → line ≡ (λ f. line_fault (record { section = s; index = 0 + i }) (low f)) → low ≡ as_is → up ≡ from_line s i
handed_up s i up line low a b c =
    let none : 0 + i ≡ i = omega arith in
    a ∙ (λ j f. Line (b j f)) ∙ (λ j f. from_line s (0 + i) (c j f)) ∙ ap (from_line s) none

module _ (m n : ℕ) (bs : List ℕ) (bytes : Bytes bs) where
  -- the rest of a file behind its lines
  abbrev close : Tariff → ℕ → Result (Tariff × ℕ) FileFault
  close t q = outside_lines (ended bs t q)

  -- behind an opening that ends at p
  module _ (h : Counts) (p : ℕ) (room : HasRoom m n h) (far : p ≡ length (opening_bytes h)) (front : bs ≡ opening_bytes h ++ drop p bs) where
    -- a number in a line is refused
    line_refused : (place : FilePlace) (tail : List ℕ) → opening_bytes h ++ tail ≡ file_before place → FileReached m n place → (e : FileFault) (before : List ℕ) (at : Limits) (up : NumberFault → FileFault) (why : Refusal) (rest : List ℕ) → before ≡ tail → at ≡ file_limits place → up ≡ file_fault (place_line place) → drop p bs ≡ before ++ rest → FailsAt at rest why → e ≡ up (fault why (p + length before)) → FileHasFault m n bs e
    line_refused place tail shape reached e before at up why rest cut within same there test is =
        let whole : opening_bytes h ++ before ≡ file_before place = ap (λ l. opening_bytes h ++ l) cut ∙ shape in
        let byte : p + length before ≡ length (file_before place) = omega (arith, far, length-append (opening_bytes h) before, ap length whole) in
        at_number (record {
          place = place;
          reached = reached;
          rest = rest;
          front = front ∙ ap (λ l. opening_bytes h ++ l) there ∙ sym (append_assoc (opening_bytes h) before rest) ∙ ap (λ l. l ++ rest) whole;
          why = why;
          test = subst (λ (l : Limits). FailsAt l rest why) within test;
          is = is ∙ (λ i. same i (fault why (byte i)));
        })

    by_stop : (e : FileFault) (before : List ℕ) (at : Limits) (up : NumberFault → FileFault) (why : Refusal) (rest : List ℕ) → lines_stops bs bytes h room.right before at up → drop p bs ≡ before ++ rest → FailsAt at rest why → e ≡ up (fault why (p + length before)) → FileHasFault m n bs e
    by_stop e before at up why rest (in_first s) there test is =
        let row = s.stop in
        let line = row.stop.stop in
        line_refused (fare_line h row.done line.place) (flat_map fare_bytes row.done ++ fare_before line.place) refl
        (room, row.lawful, row.few, line.reached) e before at up why rest
        (row.split ∙ ap (λ l. flat_map fare_bytes row.done ++ l) line.front) line.within
        (handed_up Fare (length row.done) up s.below row.stop.below s.same row.stop.same line.same) there test is
    by_stop e before at up why rest (in_second fs more all split s) there test is =
        let row = s.stop in
        let line = row.stop.stop in
        line_refused (term_line h fs row.done line.place) (flat_map fare_bytes fs ++ (flat_map term_bytes row.done ++ term_before line.place)) refl
        (room, all, row.lawful, row.few, line.reached) e before at up why rest
        (split ∙ ap (λ l. flat_map fare_bytes fs ++ l) (row.split ∙ ap (λ l. flat_map term_bytes row.done ++ l) line.front)) line.within
        (handed_up Term (length row.done) up s.below row.stop.below s.same row.stop.same line.same) there test is

    -- the tariff that was read
    module _ (t : Tariff) (q : ℕ) (lines : Read bs lines_bytes (lines_ok bs bytes h room.right) p t q) where
      wide : h.width ≡ t.width
      wide = ap (λ (d : Tariff). d.width) lines.lawful.1.1

      counted : h ≡ counts_of t
      counted = (λ i. record { width = wide i; fares = sym lines.lawful.0.1 i; terms = sym lines.lawful.1.0.1 i })

      taken : Taken m n t
      taken =
          let has = subst (HasRoom m n) counted room in
          let fares = tidy_all (LawfulFare t.width) tidy_fare t.fares (subst (λ w. AllByRecursion (TidyFare w) t.fares) wide lines.lawful.0.0) in
          let terms = tidy_all (LawfulTerm t.width) tidy_term t.terms (subst (λ w. AllByRecursion (TidyTerm w) t.terms) wide lines.lawful.1.0.0) in
          record {
            tidy = record {
              lawful = record {
                some = has.right.width.0;
                few = has.right.width.1;
                fares = record { few = has.right.fares.1; each = fares.0 };
                terms = record { few = has.right.terms.1; each = terms.0 };
              };
              zeros = (λ i. tariff_of t.width (fares.1 i) (terms.1 i));
            };
            fares = has.fares;
            terms = has.terms;
          }

      whole : opening_bytes h ++ lines_bytes t ≡ file_bytes t
      whole = ap (λ c. opening_bytes c ++ lines_bytes t) counted ∙ sym (file_split t)

      file_front : bs ≡ file_bytes t ++ drop q bs
      file_front = front ∙ ap (λ l. opening_bytes h ++ l) lines.front ∙ sym (append_assoc (opening_bytes h) (lines_bytes t) (drop q bs)) ∙ ap (λ l. l ++ drop q bs) whole

      file_far : q ≡ length (file_bytes t)
      file_far = omega (arith, lines.place, far, length-append (opening_bytes h) (lines_bytes t), ap length whole)

      by_end : FileAnswer m n bs (close t q)
      by_end =
          cond_lt q (length bs) _ _ (λ r. FileAnswer m n bs (outside_lines r))
          (λ more.
          let some : 0 < length (drop q bs) = omega (arith, length-drop q bs) in
          left_over t (drop q bs) taken file_front some (ap (λ k. Number (fault BytesRemain k)) file_far))
          (λ past.
          let all : bs ≡ file_bytes t = file_front ∙ ap (λ l. file_bytes t ++ l) (drop_all q bs past) ∙ append-nil (file_bytes t) in
          (record { taken = taken; bytes = all }, file_far ∙ ap length (sym all)))

    by_lines : (r : Result (Tariff × ℕ) FileFault) → Says bs lines_bytes (lines_ok bs bytes h room.right) (lines_stops bs bytes h room.right) p r → FileAnswer m n bs (and_then r close)
    by_lines (Ok x) lines = by_end x.0 x.1 lines
    by_lines (Err e) r = by_stop e r.before r.at r.up r.why r.rest r.stop r.front r.test r.is

  by_opening : (r : Result (Counts × ℕ) NumberFault) → OpeningSays m n bs bytes r → FileAnswer m n bs (and_then (and_then (outside_lines r) (sections_at bs)) close)
  by_opening (Ok x) o = by_lines x.0 x.1 o.0 o.1 o.2 (sections_at bs x.0 x.1) ((sections_exact bs bytes x.0 o.0.right).says x.1)
  by_opening (Err e) o = o

  pub right_file : FileAnswer m n bs (file_at m n bs)
  right_file = by_opening (opening_at m n bs 0) (opening_says m n bs bytes)

  -- an opening that is refused
  opening_refused : (e : NumberFault) → opening_at m n bs 0 ≡ Err e → file_at m n bs ≡ Err (Number e)
  opening_refused e h = ap (λ r. and_then (and_then (outside_lines r) (sections_at bs)) close) h

  -- an opening that is taken
  opening_taken : (h : Counts) (rest : List ℕ) → HasRoom m n h → bs ≡ opening_bytes h ++ rest → (file_at m n bs ≡ and_then (sections_at bs h (length (opening_bytes h))) close) × (drop (length (opening_bytes h)) bs ≡ rest)
  opening_taken h rest room front =
      (ap (λ r. and_then (and_then (outside_lines r) (sections_at bs)) close) (opening_read m n bs bytes h rest room front), after m n bs bytes (opening_bytes h) rest front)

  -- lines that are refused
  line_stops : (h : Counts) (tail rest : List ℕ) (at : Limits) (up : NumberFault → FileFault) (why : Refusal) (room : HasRoom m n h) → bs ≡ (opening_bytes h ++ tail) ++ rest → lines_stops bs bytes h room.right tail at up → FailsAt at rest why → file_at m n bs ≡ Err (up (fault why (length (opening_bytes h ++ tail))))
  line_stops h tail rest at up why room front stop test =
      let q : ℕ = length (opening_bytes h) in
      let start = opening_taken h (tail ++ rest) room (front ∙ append_assoc (opening_bytes h) tail rest) in
      start.0
      ∙ ap (λ r. and_then r close) ((sections_exact bs bytes h room.right).refuses q _ (record { before = tail; at = at; up = up; why = why; rest = rest; stop = stop; front = start.1; test = test; is = refl }))
      ∙ ap (λ k. Err (up (fault why k))) (sym (length-append (opening_bytes h) tail))

  only_number : (place : FilePlace) (rest : List ℕ) (why : Refusal) → FileReached m n place → bs ≡ file_before place ++ rest → FailsAt (file_limits place) rest why → file_at m n bs ≡ Err (file_fault (place_line place) (fault why (length (file_before place))))
  only_number the_width rest why reached front test = opening_refused _ (width_refused m n bs bytes rest why front test)
  only_number (the_fares w) rest why reached front test = opening_refused _ (fares_refused m n bs bytes w rest why reached front test)
  only_number (the_terms w f) rest why reached front test = opening_refused _ (terms_refused m n bs bytes w f rest why reached.0 reached.1 front test)
  only_number (fare_line h fs place) rest why reached front test =
      let none : 0 + length fs ≡ length fs = omega arith in
      line_stops h _ rest _ (from_line Fare (0 + length fs)) why reached.0 front
      (in_first (record {
        below = line_fault (record { section = Fare; index = 0 + length fs });
        same = refl;
        stop = record {
          done = fs;
          more = fare_before place;
          lawful = reached.1;
          few = reached.2;
          split = refl;
          stop = record { below = as_is; same = refl; stop = record { place = place; reached = reached.3; front = refl; within = refl; same = refl } };
        };
      })) test
      ∙ ap (λ i. Err (from_line Fare i (fault why (length (file_before (fare_line h fs place)))))) none
  only_number (term_line h fs ts place) rest why reached front test =
      let none : 0 + length ts ≡ length ts = omega arith in
      line_stops h _ rest _ (from_line Term (0 + length ts)) why reached.0 front
      (in_second fs (flat_map term_bytes ts ++ term_before place) reached.1 refl (record {
        below = line_fault (record { section = Term; index = 0 + length ts });
        same = refl;
        stop = record {
          done = ts;
          more = term_before place;
          lawful = reached.2;
          few = reached.3;
          split = refl;
          stop = record { below = as_is; same = refl; stop = record { place = place; reached = reached.4; front = refl; within = refl; same = refl } };
        };
      })) test
      ∙ ap (λ i. Err (from_line Term i (fault why (length (file_before (term_line h fs ts place)))))) none

  -- the file of a tariff, with something behind it or not
  whole_read : (t : Tariff) (rest : List ℕ) → Taken m n t → bs ≡ file_bytes t ++ rest → file_at m n bs ≡ close t (length (file_bytes t))
  whole_read t rest taken front =
      let law = taken.tidy.lawful in
      let h : Counts = counts_of t in
      let room : HasRoom m n h = record {
        right = record { width = (law.some, law.few); fares = (omega arith, law.fares.few); terms = (omega arith, law.terms.few) };
        fares = taken.fares;
        terms = taken.terms;
      } in
      let zeros = taken.tidy.zeros in
      let fares = all_tidy (LawfulFare t.width) tidy_fare t.fares law.fares.each (ap (λ (d : Tariff). d.fares) zeros) in
      let terms = all_tidy (LawfulTerm t.width) tidy_term t.terms law.terms.each (ap (λ (d : Tariff). d.terms) zeros) in
      let q : ℕ = length (opening_bytes h) in
      let start = opening_taken h (lines_bytes t ++ rest) room (front ∙ ap (λ l. l ++ rest) (file_split t) ∙ append_assoc (opening_bytes h) (lines_bytes t) rest) in
      let far : q + length (lines_bytes t) ≡ length (file_bytes t) = sym (length-append (opening_bytes h) (lines_bytes t)) ∙ ap length (sym (file_split t)) in
      start.0
      ∙ ap (λ r. and_then r close) ((sections_exact bs bytes h room.right).reads t q rest ((fares, refl), ((terms, refl), refl)) start.1)
      ∙ ap (close t) far

  only_fault : (f : FileFault) → FileHasFault m n bs f → file_at m n bs ≡ Err f
  only_fault f (at_number r) = only_number r.place r.rest r.why r.reached r.front r.test ∙ ap Err (sym r.is)
  only_fault f (few_fares h opened short is) = opening_refused _ (fares_short m n bs bytes h opened short) ∙ ap Err (sym is)
  only_fault f (few_terms h opened enough short is) = opening_refused _ (terms_short m n bs bytes h opened enough short) ∙ ap Err (sym is)
  only_fault f (left_over t rest taken front some is) =
      let more : length (file_bytes t) < length bs = omega (arith, ap length front, length-append (file_bytes t) rest) in
      whole_read t rest taken front ∙ ap outside_lines (cond-true (ltb (length (file_bytes t)) (length bs)) _ _ (lt-ltb (length (file_bytes t)) (length bs) more)) ∙ ap Err (sym is)

  pub only_file : (r : Result (Tariff × ℕ) FileFault) → FileAnswer m n bs r → file_at m n bs ≡ r
  only_file (Ok x) h =
      let t : Tariff = x.0 in
      let all : length bs ≤ length (file_bytes t) = omega (arith, ap length h.0.bytes) in
      whole_read t [] h.0.taken (h.0.bytes ∙ sym (append-nil (file_bytes t)))
      ∙ ap outside_lines (cond-false (ltb (length (file_bytes t)) (length bs)) _ _ (le-ltb (length (file_bytes t)) (length bs) all))
      ∙ ap (λ q. Ok (t, q)) (ap length (sym h.0.bytes) ∙ sym h.1)
  only_file (Err f) h = only_fault f h
