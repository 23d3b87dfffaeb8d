-- Fare lines, term lines and sections of lines are read exactly.
use Rattle.std.proofs.Common.{◌≡◌, ℕ, ◌-◌, ◌<◌, ◌≤◌, eqb, List, [], ◌++◌, length, Result, sym, refl, ap, ◌∙◌, arith}
use Rattle.std.specs.List.{flat_map, AllByRecursion}
use Rattle.std.proofs.lemmas.List.{append-nil}
use Rattle.std.proofs.lemmas.Bool.{cond_both, eqb-true, eqb-false}
use Rattle.lines.specs.declared.fare.FareLine.{FareLine}
use Rattle.lines.specs.declared.list.MarkList.{MarkList}
use Rattle.lines.specs.declared.term.Kind.{Kind}
use Rattle.lines.specs.declared.term.Kind.TheVariants.{Gives, Denies}
use Rattle.lines.specs.declared.term.TermLine.{TermLine}
use Rattle.lines.specs.Records.{the_kind}
use Rattle.tariff.specs.declared.fault.NumberFault.{NumberFault}
use Rattle.tariff.specs.Faults.{Within}
use Rattle.tariff.specs.Numbers.{Bytes, encode}
use Rattle.tariff.specs.Readings.{and_then, mapped, number_at}
use Rattle.tariff_format.specs.declared.fault.FileFault.{FileFault}
use Rattle.tariff_format.specs.declared.fault.FileFault.TheVariants.{Line}
use Rattle.tariff_format.specs.declared.fault.LineFault.{LineFault}
use Rattle.tariff_format.specs.declared.fault.Section.{Section}
use Rattle.tariff_format.specs.Encoding.{list_bytes, fare_bytes, head_bytes, term_bytes}
use Rattle.tariff_format.specs.Faults.{line_fault, in_line, as_lines}
use Rattle.tariff_format.specs.Lines.{list_at, fare_at, kind_of, term_behind, term_at, lines_at}
use Rattle.tariff_format.specs.Places.{Limits, from_to, a_mark, list_before, FarePlace, the_head, in_conditions, in_unless, fare_before, fare_limits, FareReached, TermPlace, its_kind, its_head, conditions_of, term_before, term_limits, TermReached}
use Rattle.tariff_format.specs.Tidy.{TidyList, TidyFare, TidyTerm}
use Rattle.tariff_format.proofs.Exact.{Stops, EitherStop, in_first, in_second, LiftedStop, Exact, reworded_exact, mapped_exact, lifted_exact, chosen_exact}
use Rattle.tariff_format.proofs.ExactRows.{LinesStop, lines_exact}
use Rattle.tariff_format.proofs.ExactLists.{as_is, Starts, AtPlace, list_stops, number_exact, list_exact}

abbrev pub fare_stops : ℕ → Stops NumberFault
fare_stops w = AtPlace fare_before (fare_limits w) (FareReached w)

abbrev pub term_stops : ℕ → Stops NumberFault
term_stops w = AtPlace term_before (term_limits w) (TermReached w)

-- the line of a section that has the index i
abbrev pub row_stops : Section → Stops NumberFault → ℕ → Stops LineFault
row_stops s stops i = LiftedStop (line_fault (record { section = s; index = i })) stops

abbrev fare_of : ℕ → MarkList → MarkList → FareLine
fare_of m cs us = record { head = m; conditions = cs; unless = us }

abbrev term_of : Kind → ℕ → MarkList → TermLine
term_of k m cs = record { kind = k; head = m; conditions = cs }

number_kind : (n : ℕ) → Within 1 2 n × (0 ≤ n) → (the_kind (kind_of n)).number ≡ n
number_kind n h =
    let low = h.0.0 in let high = h.0.1 in
    cond_both (eqb n 1) Gives Denies (λ k. (the_kind k).number ≡ n) (λ e. sym (eqb-true n 1 e)) (λ e. omega (arith, eqb-false n 1 e))

each_kind : (k : Kind) → (Within 1 2 (the_kind k).number × (0 ≤ (the_kind k).number)) × (kind_of (the_kind k).number ≡ k)
each_kind Gives = (((omega arith, omega arith), omega arith), refl)
each_kind Denies = (((omega arith, omega arith), omega arith), refl)

module _ (bs : List ℕ) (bytes : Bytes bs) (w : ℕ) (some : 1 ≤ w) (small : w ≤ 512) where
  abbrev head_ok : ℕ → Type 0
  head_ok m = Within 0 (w - 1) m × (0 ≤ m)

  head_low : (m : ℕ) → m < w → head_ok m
  head_low m h = ((omega arith, omega arith), omega arith)

  low_head : (m : ℕ) → head_ok m → m < w
  low_head m h = let l = h.0.1 in omega arith

  head_exact : Exact bs (number_at 0 (w - 1) 0 bs) encode head_ok (Starts (a_mark w))
  head_exact = number_exact bs bytes 0 (w - 1) 0 (omega arith)

  lists : Exact bs (list_at w bs) list_bytes (TidyList w) (list_stops w)
  lists = list_exact bs bytes w some small

  -- a fare line behind its head
  abbrev lists_ok : ℕ → FareLine → Type 0
  lists_ok m l = TidyList w l.conditions × (TidyList w l.unless × (fare_of m l.conditions l.unless ≡ l))

  abbrev lists_stops : Stops NumberFault
  lists_stops = EitherStop list_bytes (TidyList w) (list_stops w) (λ _. list_stops w)

  abbrev parts_stops : Stops NumberFault
  parts_stops = EitherStop encode head_ok (Starts (a_mark w)) (λ _. lists_stops)

  lists_exact : (m : ℕ) → Exact bs (λ a. and_then (list_at w bs a) (λ cs b. mapped (fare_of m cs) (list_at w bs b))) (λ l. list_bytes l.conditions ++ list_bytes l.unless) (lists_ok m) lists_stops
  lists_exact m =
      chosen_exact bs (list_at w bs) (λ cs b. mapped (fare_of m cs) (list_at w bs b)) list_bytes (TidyList w) (list_stops w) (λ _ l. list_bytes l.unless) (λ cs l. TidyList w l.unless × (fare_of m cs l.unless ≡ l)) (λ _. list_stops w) (λ l. l.conditions)
      (λ cs l h. sym (ap (λ (f : FareLine). f.conditions) h.1))
      lists
      (λ cs _. mapped_exact bs (list_at w bs) list_bytes (TidyList w) (list_stops w) (fare_of m cs) (λ l. l.unless) (λ _ _. refl) lists)

  fare_parts : Exact bs (fare_at w bs) fare_bytes (λ l. head_ok l.head × lists_ok l.head l) parts_stops
  fare_parts =
      chosen_exact bs (number_at 0 (w - 1) 0 bs) (λ m a. and_then (list_at w bs a) (λ cs b. mapped (fare_of m cs) (list_at w bs b))) encode head_ok (Starts (a_mark w)) (λ _ l. list_bytes l.conditions ++ list_bytes l.unless) lists_ok (λ _. lists_stops) (λ l. l.head)
      (λ m l h. sym (ap (λ (f : FareLine). f.head) h.1.1))
      head_exact (λ m _. lists_exact m)

  to_fare : (l : FareLine) → TidyFare w l → head_ok l.head × lists_ok l.head l
  to_fare l h = (
    head_low l.head h.lawful.head,
    (
      record { lawful = h.lawful.conditions; zeros = ap (λ (f : FareLine). f.conditions) h.zeros },
      (record { lawful = h.lawful.unless; zeros = ap (λ (f : FareLine). f.unless) h.zeros }, refl),
    ),
  )

  from_fare : (l : FareLine) → head_ok l.head × lists_ok l.head l → TidyFare w l
  from_fare l h = record {
    lawful = record { head = low_head l.head h.0; conditions = h.1.0.lawful; unless = h.1.1.0.lawful };
    zeros = (λ i. fare_of l.head (h.1.0.zeros i) (h.1.1.0.zeros i));
  }

  to_fare_stop : (before : List ℕ) (at : Limits) (up : NumberFault → NumberFault) (place : FarePlace) → FareReached w place → before ≡ fare_before place → at ≡ fare_limits w place → up ≡ as_is → parts_stops before at up
  to_fare_stop before at up the_head reached front within same = in_first (record { none = front; within = within; same = same })
  to_fare_stop before at up (in_conditions m place) reached front within same =
      in_second m (list_before place) (head_low m reached.0) front
      (in_first (record { place = place; reached = reached.1; front = refl; within = within; same = same }))
  to_fare_stop before at up (in_unless m cs place) reached front within same =
      in_second m (list_bytes cs ++ list_before place) (head_low m reached.0) front
      (in_second cs (list_before place) reached.1 refl (record { place = place; reached = reached.2; front = refl; within = within; same = same }))

  from_fare_stop : (before : List ℕ) (at : Limits) (up : NumberFault → NumberFault) → parts_stops before at up → fare_stops w before at up
  from_fare_stop before at up (in_first s) = record { place = the_head; reached = tt; front = s.none; within = s.within; same = s.same }
  from_fare_stop before at up (in_second m more lawful split (in_first s)) = record {
    place = in_conditions m s.place;
    reached = (low_head m lawful, s.reached);
    front = split ∙ ap (λ l. encode m ++ l) s.front;
    within = s.within;
    same = s.same;
  }
  from_fare_stop before at up (in_second m more lawful split (in_second cs rest tidy cut s)) = record {
    place = in_unless m cs s.place;
    reached = (low_head m lawful, tidy, s.reached);
    front = split ∙ ap (λ l. encode m ++ l) (cut ∙ ap (λ l. list_bytes cs ++ l) s.front);
    within = s.within;
    same = s.same;
  }

  pub fare_exact : Exact bs (fare_at w bs) fare_bytes (TidyFare w) (fare_stops w)
  fare_exact =
      reworded_exact bs (fare_at w bs) fare_bytes (λ l. head_ok l.head × lists_ok l.head l) (TidyFare w) parts_stops (fare_stops w)
      to_fare from_fare
      (λ before at up s. to_fare_stop before at up s.place s.reached s.front s.within s.same)
      from_fare_stop
      fare_parts

  -- a term line behind its kind
  abbrev behind_ok : Kind → TermLine → Type 0
  behind_ok Gives l = head_ok l.head × (TidyList w l.conditions × (term_of Gives l.head l.conditions ≡ l))
  behind_ok Denies l = TidyList w l.conditions × (term_of Denies 0 l.conditions ≡ l)

  abbrev behind_stops : Kind → Stops NumberFault
  behind_stops Gives = EitherStop encode head_ok (Starts (a_mark w)) (λ _. list_stops w)
  behind_stops Denies = list_stops w

  behind_exact : (k : Kind) → Exact bs (term_behind w bs k) (λ l. head_bytes k l.head ++ list_bytes l.conditions) (behind_ok k) (behind_stops k)
  behind_exact Gives =
      chosen_exact bs (number_at 0 (w - 1) 0 bs) (λ m q. mapped (term_of Gives m) (list_at w bs q)) encode head_ok (Starts (a_mark w)) (λ _ l. list_bytes l.conditions) (λ m l. TidyList w l.conditions × (term_of Gives m l.conditions ≡ l)) (λ _. list_stops w) (λ l. l.head)
      (λ m l h. sym (ap (λ (t : TermLine). t.head) h.1))
      head_exact
      (λ m _. mapped_exact bs (list_at w bs) list_bytes (TidyList w) (list_stops w) (term_of Gives m) (λ l. l.conditions) (λ _ _. refl) lists)
  behind_exact Denies = mapped_exact bs (list_at w bs) list_bytes (TidyList w) (list_stops w) (term_of Denies 0) (λ l. l.conditions) (λ _ _. refl) lists

  abbrev kind_ok : Kind → Type 0
  kind_ok k = (Within 1 2 (the_kind k).number × (0 ≤ (the_kind k).number)) × (kind_of (the_kind k).number ≡ k)

  abbrev kind_stops : Stops NumberFault
  kind_stops = EitherStop (λ k. encode (the_kind k).number) kind_ok (Starts (from_to 1 2)) behind_stops

  shows_kind : (k : Kind) (l : TermLine) → behind_ok k l → l.kind ≡ k
  shows_kind Gives l h = sym (ap (λ (t : TermLine). t.kind) h.1.1)
  shows_kind Denies l h = sym (ap (λ (t : TermLine). t.kind) h.1)

  term_parts : Exact bs (term_at w bs) term_bytes (λ l. kind_ok l.kind × behind_ok l.kind l) kind_stops
  term_parts =
      chosen_exact bs (λ p. mapped kind_of (number_at 1 2 0 bs p)) (term_behind w bs) (λ k. encode (the_kind k).number) kind_ok (Starts (from_to 1 2)) (λ k l. head_bytes k l.head ++ list_bytes l.conditions) behind_ok behind_stops (λ l. l.kind) shows_kind
      (mapped_exact bs (number_at 1 2 0 bs) encode (λ n. Within 1 2 n × (0 ≤ n)) (Starts (from_to 1 2)) kind_of (λ k. (the_kind k).number) number_kind (number_exact bs bytes 1 2 0 (omega arith)))
      (λ k _. behind_exact k)

  to_term : (k : Kind) (m : ℕ) (cs : MarkList) → TidyTerm w (term_of k m cs) → behind_ok k (term_of k m cs)
  to_term Gives m cs h = (head_low m h.lawful.head, (record { lawful = h.lawful.conditions; zeros = ap (λ (t : TermLine). t.conditions) h.zeros }, refl))
  to_term Denies m cs h =
      (record { lawful = h.lawful.conditions; zeros = ap (λ (t : TermLine). t.conditions) h.zeros }, ap (λ n. term_of Denies n cs) (ap (λ (t : TermLine). t.head) h.zeros))

  from_term : (k : Kind) (m : ℕ) (cs : MarkList) → behind_ok k (term_of k m cs) → TidyTerm w (term_of k m cs)
  from_term Gives m cs h = record { lawful = record { head = low_head m h.0; conditions = h.1.0.lawful }; zeros = ap (term_of Gives m) h.1.0.zeros }
  from_term Denies m cs h = record {
    lawful = record { head = tt; conditions = h.0.lawful };
    zeros = ap (term_of Denies 0) h.0.zeros ∙ h.1;
  }

  to_term_stop : (before : List ℕ) (at : Limits) (up : NumberFault → NumberFault) (place : TermPlace) → TermReached w place → before ≡ term_before place → at ≡ term_limits w place → up ≡ as_is → kind_stops before at up
  to_term_stop before at up its_kind reached front within same = in_first (record { none = front; within = within; same = same })
  to_term_stop before at up its_head reached front within same =
      in_second Gives [] (each_kind Gives) (front ∙ sym (append-nil (encode 1))) (in_first (record { none = refl; within = within; same = same }))
  to_term_stop before at up (conditions_of Gives m place) reached front within same =
      in_second Gives (encode m ++ list_before place) (each_kind Gives) front
      (in_second m (list_before place) (head_low m reached.0) refl (record { place = place; reached = reached.1; front = refl; within = within; same = same }))
  to_term_stop before at up (conditions_of Denies m place) reached front within same =
      in_second Denies (list_before place) (each_kind Denies) front (record { place = place; reached = reached.1; front = refl; within = within; same = same })

  from_term_stop : (before : List ℕ) (at : Limits) (up : NumberFault → NumberFault) → kind_stops before at up → term_stops w before at up
  from_term_stop before at up (in_first s) = record { place = its_kind; reached = tt; front = s.none; within = s.within; same = s.same }
  from_term_stop before at up (in_second Gives more lawful split (in_first s)) = record {
    place = its_head;
    reached = tt;
    front = split ∙ ap (λ l. encode 1 ++ l) s.none ∙ append-nil (encode 1);
    within = s.within;
    same = s.same;
  }
  from_term_stop before at up (in_second Gives more lawful split (in_second m rest low cut s)) = record {
    place = conditions_of Gives m s.place;
    reached = (low_head m low, s.reached);
    front = split ∙ ap (λ l. encode 1 ++ l) (cut ∙ ap (λ l. encode m ++ l) s.front);
    within = s.within;
    same = s.same;
  }
  from_term_stop before at up (in_second Denies more lawful split s) = record {
    place = conditions_of Denies 0 s.place;
    reached = (tt, s.reached);
    front = split ∙ ap (λ l. encode 2 ++ l) s.front;
    within = s.within;
    same = s.same;
  }

  pub term_exact : Exact bs (term_at w bs) term_bytes (TidyTerm w) (term_stops w)
  term_exact =
      reworded_exact bs (term_at w bs) term_bytes (λ l. kind_ok l.kind × behind_ok l.kind l) (TidyTerm w) kind_stops (term_stops w)
      (λ l h. (each_kind l.kind, to_term l.kind l.head l.conditions h))
      (λ l h. from_term l.kind l.head l.conditions h.1)
      (λ before at up s. to_term_stop before at up s.place s.reached s.front s.within s.same)
      from_term_stop
      term_parts

-- n lines of a section
abbrev pub section_stops : {L : Type 0} → Section → (L → List ℕ) → (L → Type 0) → Stops NumberFault → ℕ → Stops FileFault
section_stops s enc ok stops n = LiftedStop Line (LinesStop enc ok (row_stops s stops) n)

pub section_exact : {L : Type 0} (bs : List ℕ) (s : Section) (read : ℕ → Result (L × ℕ) NumberFault) (enc : L → List ℕ) (ok : L → Type 0) (stops : Stops NumberFault) → Exact bs read enc ok stops → (n : ℕ) → Exact bs (λ p. as_lines (lines_at (λ i q. in_line (record { section = s; index = i }) (read q)) n 0 p)) (flat_map enc) (λ ls. AllByRecursion ok ls × (length ls ≡ n)) (section_stops s enc ok stops n)
section_exact bs s read enc ok stops exact n =
    lifted_exact bs (lines_at (λ i q. in_line (record { section = s; index = i }) (read q)) n 0) (flat_map enc) (λ ls. AllByRecursion ok ls × (length ls ≡ n)) (LinesStop enc ok (row_stops s stops) n) Line as_lines (λ _. refl) (λ _. refl)
    (lines_exact bs (λ i q. in_line (record { section = s; index = i }) (read q)) enc ok (row_stops s stops)
    (λ i. lifted_exact bs read enc ok stops (line_fault (record { section = s; index = i })) (in_line (record { section = s; index = i })) (λ _. refl) (λ _. refl) exact) n)
