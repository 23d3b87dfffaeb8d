-- The reading of a facts string gives what is right to answer, and nothing else is right.
use Rattle.std.proofs.Common.{◌≡◌, ℕ, suc, ◌+◌, ◌-◌, ◌≤◌, ltb, List, [], ◌∷◌, ◌++◌, length, drop, Ok, Err, Result, sym, refl, ap, ◌∙◌, ap₂, append_assoc, arith, length-append}
use Rattle.std.specs.List.{flat_map}
use Rattle.std.proofs.lemmas.List.{append-nil, drop_all}
use Rattle.std.proofs.lemmas.Bool.{cond-true, cond-false, lt-ltb, le-ltb}
use Rattle.marks.specs.Sets.{Marks, no_marks, size}
use Rattle.marks.proofs.Sizes.{size_le}
use Rattle.tariff.specs.declared.fault.NumberFault.{NumberFault}
use Rattle.tariff.specs.Numbers.{Bytes, encode}
use Rattle.tariff.specs.Readings.{and_then, mapped, number_at}
use Rattle.tariff.specs.Faults.{NumberIs, NumberAnswer}
use Rattle.tariff.specs.Facts.{members, facts_bytes, adding, ended, facts_at, Begun, FactsFault, at_count, at_mark, left_over, FactsAnswer}
use Rattle.tariff.specs.Lists.{marks_at, Ascending, least_behind}
use Rattle.tariff.proofs.Tests.{cond_lt}
use Rattle.tariff.proofs.Answering.{right_answer, only_answer}
use Rattle.tariff.proofs.Listing.{MarksAnswer, behind_number, right_marks, marks_read}
use Rattle.tariff.proofs.Members.{length_members, members_ascending, adding_inside, none_inside, adding_members, members_adding}

module _ (w : ℕ) (bs : List ℕ) where
  module _ (some : 1 ≤ w) (bytes : Bytes bs) where
    -- the facts behind a count k that ends at p
    module _ (k p : ℕ) (h : NumberIs 0 512 0 bs 0 k p) where
      after_count : bs ≡ encode k ++ drop p bs
      after_count = h.stands.front ∙ ap (λ l. encode k ++ l) (sym (behind_number bs 0 k p h.stands.rest h.stands.front h.behind))

      begun : (ms rest : List ℕ) (q : ℕ) → length ms ≤ k → Ascending w 0 ms → drop p bs ≡ flat_map encode ms ++ rest → q ≡ p + length (flat_map encode ms) → Begun w bs k ms q
      begun ms rest q few asc front place = record {
        count = h.limit.1;
        some = few;
        ascending = asc;
        rest = rest;
        front = after_count ∙ ap (λ l. encode k ++ l) front ∙ sym (append_assoc (encode k) (flat_map encode ms) rest);
        place = omega (arith, place, h.behind, length-append (encode k) (flat_map encode ms));
      }

      by_end : (ms : List ℕ) (q : ℕ) → MarksAnswer w bs k 0 p (Ok (ms, q)) → FactsAnswer w bs (ended bs (adding no_marks ms) q)
      by_end ms q g =
          let start = begun ms (drop q bs) q (let e = g.many in omega arith) g.lawful g.front g.place in
          cond_lt q (length bs) _ _ (FactsAnswer w bs)
          (λ more. left_over k ms q start g.many more refl)
          (λ past.
          let whole : bs ≡ encode k ++ flat_map encode ms = after_count ∙ ap (λ l. encode k ++ l) (g.front ∙ ap (λ l. flat_map encode ms ++ l) (drop_all q bs past) ∙ append-nil (flat_map encode ms)) in
          let list = members_adding w ms g.lawful in
          let count : k ≡ size w (adding no_marks ms) = sym g.many ∙ ap length (sym list) ∙ length_members w (adding no_marks ms) in (
            record {
              inside = adding_inside w 0 no_marks ms (none_inside w) g.lawful;
              string = whole ∙ ap₂ (λ (n : ℕ) (l : List ℕ). encode n ++ flat_map encode l) count (sym list);
            },
            start.place ∙ ap length (sym whole),
          ))

      by_marks : (r : Result (List ℕ × ℕ) NumberFault) → MarksAnswer w bs k 0 p r → FactsAnswer w bs (and_then (mapped (adding no_marks) r) (ended bs))
      by_marks (Ok x) g = by_end x.0 x.1 g
      by_marks (Err f) g = at_mark k g.done (p + length (flat_map encode g.done)) (begun g.done g.rest _ (let l = g.few in omega arith) g.lawful g.front refl) g.few g.refused

    by_count : (r : Result (ℕ × ℕ) NumberFault) → NumberAnswer 0 512 0 bs 0 r → FactsAnswer w bs (and_then r (λ k p. and_then (mapped (adding no_marks) (marks_at w bs k 0 p)) (ended bs)))
    by_count (Ok x) h = by_marks x.0 x.1 h (marks_at w bs x.0 0 x.1) (right_marks w bs some bytes x.0 0 x.1)
    by_count (Err f) h = at_count h

    pub right_facts : FactsAnswer w bs (facts_at w bs)
    right_facts = by_count (number_at 0 512 0 bs 0) (right_answer 0 512 0 bs 0 bytes)

  module _ (small : w ≤ 512) where
    -- where the bytes begin right, what is left decides
    begun_read : (k : ℕ) (ms : List ℕ) (q : ℕ) → Begun w bs k ms q → facts_at w bs ≡ and_then (mapped (adding no_marks) (mapped (λ l. ms ++ l) (marks_at w bs (k - length ms) (least_behind 0 ms) q))) (ended bs)
    begun_read k ms q b =
        let p : ℕ = length (encode k) in
        let c = b.count in
        let split : bs ≡ encode k ++ (flat_map encode ms ++ b.rest) = b.front ∙ append_assoc (encode k) (flat_map encode ms) b.rest in
        let count : number_at 0 512 0 bs 0 ≡ Ok (k, p) =
        only_answer 0 512 0 bs 0 (Ok (k, p)) (record { stands = record { small = omega arith; rest = flat_map encode ms ++ b.rest; front = split }; limit = (omega arith, c); ascent = omega arith; behind = omega arith }) in
        let read = marks_read w bs small ms k 0 p b.rest b.some b.ascending (behind_number bs 0 k p (flat_map encode ms ++ b.rest) split (omega arith)) in
        let place : p + length (flat_map encode ms) ≡ q = omega (arith, b.place, length-append (encode k) (flat_map encode ms)) in
        ap (λ r. and_then r (λ n e. and_then (mapped (adding no_marks) (marks_at w bs n 0 e)) (ended bs))) count
        ∙ ap (λ r. and_then (mapped (adding no_marks) r) (ended bs)) (read ∙ ap (λ e. mapped (λ l. ms ++ l) (marks_at w bs (k - length ms) (least_behind 0 ms) e)) place)

    -- all marks are there
    begun_all : (k : ℕ) (ms : List ℕ) (q : ℕ) → Begun w bs k ms q → length ms ≡ k → facts_at w bs ≡ ended bs (adding no_marks ms) q
    begun_all k ms q b all =
        let none : k - length ms ≡ 0 = omega arith in
        begun_read k ms q b
        ∙ ap (λ n. and_then (mapped (adding no_marks) (mapped (λ l. ms ++ l) (marks_at w bs n (least_behind 0 ms) q))) (ended bs)) none
        ∙ ap (λ l. ended bs (adding no_marks l) q) (append-nil ms)

    only_fault : (f : NumberFault) → FactsFault w bs f → facts_at w bs ≡ Err f
    only_fault f (at_count h) = ap (λ r. and_then r (λ k p. and_then (mapped (adding no_marks) (marks_at w bs k 0 p)) (ended bs))) (only_answer 0 512 0 bs 0 (Err f) h)
    only_fault f (at_mark k ms q b few h) =
        let more : k - length ms ≡ suc (k - (length ms + 1)) = omega arith in
        begun_read k ms q b
        ∙ ap (λ n. and_then (mapped (adding no_marks) (mapped (λ l. ms ++ l) (marks_at w bs n (least_behind 0 ms) q))) (ended bs)) more
        ∙ ap (λ r. and_then (mapped (adding no_marks) (mapped (λ l. ms ++ l) (and_then r (λ m e. mapped (λ l. m ∷ l) (marks_at w bs (k - (length ms + 1)) (m + 1) e))))) (ended bs)) (only_answer 0 (w - 1) (least_behind 0 ms) bs q (Err f) h)
    only_fault f (left_over k ms q b all rest is) = begun_all k ms q b all ∙ cond-true (ltb q (length bs)) _ _ (lt-ltb q (length bs) rest) ∙ ap Err (sym is)

    string_begun : (S : Marks) → bs ≡ facts_bytes w S → Begun w bs (size w S) (members w S) (length bs)
    string_begun S e = record {
      count = let l = size_le w S in omega arith;
      some = omega (arith, length_members w S);
      ascending = members_ascending w S;
      rest = [];
      front = e ∙ sym (append-nil (facts_bytes w S));
      place = ap length e;
    }

    pub only_facts : (r : Result (Marks × ℕ) NumberFault) → FactsAnswer w bs r → facts_at w bs ≡ r
    only_facts (Err f) h = only_fault f h
    only_facts (Ok x) h =
        let S : Marks = x.0 in
        begun_all (size w S) (members w S) (length bs) (string_begun S h.0.string) (length_members w S)
        ∙ cond-false (ltb (length bs) (length bs)) _ _ (le-ltb (length bs) (length bs) (omega arith))
        ∙ ap₂ (λ (X : Marks) (q : ℕ). Ok (X, q)) (adding_members w S h.0.inside) (sym h.1)
