-- Numbers, marks and lists are read exactly.
use Rattle.std.proofs.Common.{◌≡◌, ℕ, ◌+◌, ◌-◌, ◌≤◌, List, [], ◌++◌, length, drop, replicate, Ok, Err, Result, sym, refl, ap, ◌∙◌, subst, add-zero, arith}
use Rattle.std.specs.List.{flat_map}
use Rattle.std.proofs.lemmas.List.{append-nil, take_at}
use Rattle.lines.specs.declared.list.MarkList.{MarkList}
use Rattle.lines.specs.Records.{used}
use Rattle.tariff.specs.declared.fault.NumberFault.{NumberFault}
use Rattle.tariff.specs.Faults.{Within, Fails, NumberAnswer}
use Rattle.tariff.specs.Lists.{mark_at, marks_at, Ascending, least_behind}
use Rattle.tariff.specs.Numbers.{Bytes, encode}
use Rattle.tariff.specs.Readings.{mapped, fault, number_at}
use Rattle.tariff.proofs.Answering.{right_answer, only_answer}
use Rattle.tariff.proofs.Rows.{behind}
use Rattle.tariff_format.specs.Answers.{FailsAt}
use Rattle.tariff_format.specs.Encoding.{list_bytes}
use Rattle.tariff_format.specs.Lines.{held, list_at}
use Rattle.tariff_format.specs.Places.{Limits, from_to, ListPlace, the_count, mark_of, list_before, list_limits, ListReached}
use Rattle.tariff_format.specs.Tidy.{TidyList}
use Rattle.tariff_format.proofs.Ascents.{ascends_ascending, ascending_ascends}
use Rattle.tariff_format.proofs.Exact.{Stops, EitherStop, in_first, in_second, Says, Exact, reworded_exact, mapped_exact, chosen_exact}
use Rattle.tariff_format.proofs.ExactRows.{EachStop, each_exact}

-- a number's fault as it is
abbrev pub as_is : NumberFault → NumberFault
as_is f = f

-- a reading of one number stops where it starts
pub record Starts (limits : Limits) (before : List ℕ) (at : Limits) (up : NumberFault → NumberFault) : Type 0 where
  pub none : before ≡ []
  pub within : at ≡ limits
  pub same : up ≡ as_is

-- a reading stops at one of these places
pub record AtPlace {P : Type 0} (prefix : P → List ℕ) (limits : P → Limits) (right : P → Type 0) (before : List ℕ) (at : Limits) (up : NumberFault → NumberFault) : Type 0 where
  pub place : P
  pub reached : right place
  pub front : before ≡ prefix place
  pub within : at ≡ limits place
  pub same : up ≡ as_is

abbrev pub list_stops : ℕ → Stops NumberFault
list_stops w = AtPlace list_before (list_limits w) (ListReached w)

-- the places of k marks
abbrev MarksStop : ℕ → ℕ → Stops NumberFault
MarksStop w k = EachStop encode (Ascending w) least_behind (λ least. Starts (record { low = 0; high = w - 1; least = least })) k 0

-- the marks of a record that holds them
pub used_held : (ms : List ℕ) → used (held ms) ≡ ms
used_held ms = take_at ms (replicate (8 - length ms) 0) (length ms) refl

module _ (bs : List ℕ) (bytes : Bytes bs) where
  pub number_exact : (low high least : ℕ) → high ≤ 65535 → Exact bs (number_at low high least bs) encode (λ n. Within low high n × (least ≤ n)) (Starts (record { low = low; high = high; least = least }))
  number_exact low high least small = record {
    says = λ p. other p (number_at low high least bs p) (right_answer low high least bs p bytes);
    reads = λ n p rest lawful h. let most = lawful.0.1 in only_answer low high least bs p (Ok (n, p + length (encode n))) (record { stands = record { small = omega arith; rest = rest; front = h }; limit = lawful.0; ascent = lawful.1; behind = refl });
    refuses = λ p e r.
        let s = r.stop in
        let none : drop p bs ≡ r.rest = r.front ∙ ap (λ l. l ++ r.rest) s.none in
        let byte : p ≡ p + length r.before = omega (arith, ap length s.none) in
        only_answer low high least bs p (Err (fault r.why p)) (record { test = subst (λ (l : List ℕ). Fails low high least l r.why) (sym none) (subst (λ (a : Limits). FailsAt a r.rest r.why) s.within r.test); start = refl })
        ∙ ap (λ n. Err (fault r.why n)) byte
        ∙ ap Err (sym (r.is ∙ ap (λ (u : NumberFault → NumberFault). u (fault r.why (p + length r.before))) s.same));
  }
    where
      other : (p : ℕ) (r : Result (ℕ × ℕ) NumberFault) → NumberAnswer low high least bs p r → Says bs encode (λ n. Within low high n × (least ≤ n)) (Starts (record { low = low; high = high; least = least })) p r
      other p (Ok x) h = record {
        lawful = (h.limit, h.ascent);
        place = h.behind;
        front = h.stands.front ∙ ap (λ l. encode x.0 ++ l) (sym (ap (λ n. drop n bs) h.behind ∙ behind bs p (encode x.0) h.stands.rest h.stands.front));
      }
      other p (Err e) h = record {
        before = [];
        at = record { low = low; high = high; least = least };
        up = as_is;
        why = e.refusal;
        rest = drop p bs;
        stop = record { none = refl; within = refl; same = refl };
        front = refl;
        test = h.test;
        is = ap (fault e.refusal) (h.start ∙ sym (add-zero p));
      }

  module _ (w : ℕ) (some : 1 ≤ w) (small : w ≤ 512) where
    abbrev marks_ok : ℕ → List ℕ → Type 0
    marks_ok k ms = Ascending w 0 ms × (length ms ≡ k)

    marks_exact : (k : ℕ) → Exact bs (marks_at w bs k 0) (flat_map encode) (marks_ok k) (MarksStop w k)
    marks_exact k =
        each_exact bs (mark_at w bs) (λ m _. m + 1) encode (λ least m. Within 0 (w - 1) m × (least ≤ m)) (λ least. Starts (record { low = 0; high = w - 1; least = least })) (λ least. number_exact 0 (w - 1) least (omega arith))
        (Ascending w) least_behind (λ _. tt) (λ least m ms h rest. let low = h.0.1 in (h.1, omega arith, rest)) (λ least m ms h. let low = h.1 in (((omega arith, omega arith), h.0), h.2)) (λ _. refl) (λ _ _ _. refl) k 0

    -- the marks of a list of which the count is k
    abbrev rest_ok : ℕ → MarkList → Type 0
    rest_ok k l = marks_ok k (used l) × (held (used l) ≡ l)

    abbrev count_ok : ℕ → Type 0
    count_ok k = Within 0 8 k × (0 ≤ k)

    abbrev parts_stops : Stops NumberFault
    parts_stops = EitherStop encode count_ok (Starts (from_to 0 8)) (MarksStop w)

    shows_count : (k : ℕ) (l : MarkList) → rest_ok k l → l.count ≡ k
    shows_count k l h = sym (ap (λ (m : MarkList). m.count) h.1) ∙ h.0.1

    parts_exact : Exact bs (list_at w bs) list_bytes (λ l. count_ok l.count × rest_ok l.count l) parts_stops
    parts_exact =
        chosen_exact bs (number_at 0 8 0 bs) (λ k q. mapped held (marks_at w bs k 0 q)) encode count_ok (Starts (from_to 0 8)) (λ _ l. flat_map encode (used l)) rest_ok (MarksStop w) (λ l. l.count) shows_count
        (number_exact 0 8 0 (omega arith))
        (λ k _. mapped_exact bs (marks_at w bs k 0) (flat_map encode) (marks_ok k) (MarksStop w k) held used (λ ms _. used_held ms) (marks_exact k))

    to_parts : (l : MarkList) → TidyList w l → count_ok l.count × rest_ok l.count l
    to_parts l h =
        let count = ap (λ (m : MarkList). m.count) h.zeros in
        (((omega arith, h.lawful.count), omega arith), ((ascends_ascending w (used l) h.lawful.ascends h.lawful.below, count), h.zeros))

    from_parts : (l : MarkList) → count_ok l.count × rest_ok l.count l → TidyList w l
    from_parts l h =
        let lawful = ascending_ascends w 0 (used l) h.1.0.0 in
        record { lawful = record { count = h.0.0.1; ascends = lawful.0; below = lawful.1 }; zeros = h.1.1 }

    to_stop : (before : List ℕ) (at : Limits) (up : NumberFault → NumberFault) (place : ListPlace) → ListReached w place → before ≡ list_before place → at ≡ list_limits w place → up ≡ as_is → parts_stops before at up
    to_stop before at up the_count reached front within same = in_first (record { none = front; within = within; same = same })
    to_stop before at up (mark_of k ms) reached front within same =
        in_second k (flat_map encode ms) ((omega arith, reached.0), omega arith) front
        (record { done = ms; more = []; lawful = reached.2; few = reached.1; split = sym (append-nil (flat_map encode ms)); stop = record { none = refl; within = within; same = same } })

    from_stop : (before : List ℕ) (at : Limits) (up : NumberFault → NumberFault) → parts_stops before at up → list_stops w before at up
    from_stop before at up (in_first s) = record { place = the_count; reached = tt; front = s.none; within = s.within; same = s.same }
    from_stop before at up (in_second k more lawful split s) = record {
      place = mark_of k s.done;
      reached = (lawful.0.1, s.few, s.lawful);
      front = split ∙ ap (λ l. encode k ++ l) (s.split ∙ ap (λ l. flat_map encode s.done ++ l) s.stop.none ∙ append-nil (flat_map encode s.done));
      within = s.stop.within;
      same = s.stop.same;
    }

    pub list_exact : Exact bs (list_at w bs) list_bytes (TidyList w) (list_stops w)
    list_exact =
        reworded_exact bs (list_at w bs) list_bytes (λ l. count_ok l.count × rest_ok l.count l) (TidyList w) parts_stops (list_stops w)
        to_parts from_parts
        (λ before at up s. to_stop before at up s.place s.reached s.front s.within s.same)
        from_stop
        parts_exact
