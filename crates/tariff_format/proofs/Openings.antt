-- What a file opens with is read exactly: the width, the two counts, and the test of the caller's room.
use Rattle.std.proofs.Common.{◌≡◌, ℕ, ◌+◌, ◌<◌, ◌≤◌, ltb, List, [], ◌++◌, length, drop, Ok, Err, Result, sym, refl, ap, ◌∙◌, subst, append_assoc, arith, length-append}
use Rattle.std.proofs.lemmas.List.{drop_at}
use Rattle.std.proofs.lemmas.Bool.{cond-true, cond-false, lt-ltb, le-ltb}
use Rattle.marks.specs.declared.refusal.Refusal.{Refusal}
use Rattle.marks.specs.declared.refusal.Refusal.TheVariants.{FewRecords}
use Rattle.tariff.specs.declared.fault.NumberFault.{NumberFault}
use Rattle.tariff.specs.Faults.{Within}
use Rattle.tariff.specs.Numbers.{Bytes, encode}
use Rattle.tariff.specs.Readings.{and_then, fault, number_at}
use Rattle.tariff.proofs.Tests.{cond_lt}
use Rattle.tariff_format.specs.declared.counts.Counts.{Counts}
use Rattle.tariff_format.specs.declared.fault.FileFault.{FileFault}
use Rattle.tariff_format.specs.declared.fault.FileFault.TheVariants.{Number}
use Rattle.tariff_format.specs.Answers.{file_fault, FailsAt, Opened, FileHasFault, at_number, few_fares, few_terms}
use Rattle.tariff_format.specs.Files.{room_for, opening_at}
use Rattle.tariff_format.specs.Places.{Limits, from_to, opening_bytes, RightCounts, HasRoom, FilePlace, the_width, the_fares, the_terms, file_before, file_limits, place_line, FileReached}
use Rattle.tariff_format.proofs.Exact.{Read, Refused, Says}
use Rattle.tariff_format.proofs.ExactLists.{as_is, Starts, number_exact}

abbrev counts : ℕ → ℕ → ℕ → Counts
counts w f t = record { width = w; fares = f; terms = t }

-- a number from low to high, which needs no ascent
abbrev In : ℕ → ℕ → ℕ → Type 0
In low high n = Within low high n × (0 ≤ n)

module _ (m n : ℕ) (bs : List ℕ) (bytes : Bytes bs) where
  abbrev pub OpeningSays : Result (Counts × ℕ) NumberFault → Type 0
  OpeningSays (Ok x) = HasRoom m n x.0 × (x.1 ≡ length (opening_bytes x.0)) × (bs ≡ opening_bytes x.0 ++ drop x.1 bs)
  OpeningSays (Err e) = FileHasFault m n bs (Number e)

  -- what follows the width, and what follows the fare count
  abbrev behind_fares : ℕ → ℕ → ℕ → ℕ → Result (Counts × ℕ) NumberFault
  behind_fares w a f b = and_then (number_at 0 512 0 bs b) (λ t q. room_for m n a b (counts w f t) q)

  abbrev behind_width : ℕ → ℕ → Result (Counts × ℕ) NumberFault
  behind_width w a = and_then (number_at 0 1024 0 bs a) (behind_fares w a)

  -- a number outside the lines is refused
  number_refused : (place : FilePlace) (p : ℕ) → FileReached m n place → file_fault (place_line place) ≡ Number → p ≡ length (file_before place) → bs ≡ file_before place ++ drop p bs → (e : NumberFault) → Refused bs (Starts (file_limits place)) p e → FileHasFault m n bs (Number e)
  number_refused place p reached outside far front e r =
      let s = r.stop in
      let byte : p + length r.before ≡ length (file_before place) = omega (arith, far, ap length s.none) in
      at_number (record {
        place = place;
        reached = reached;
        rest = r.rest;
        front = front ∙ ap (λ l. file_before place ++ l) (r.front ∙ ap (λ l. l ++ r.rest) s.none);
        why = r.why;
        test = subst (λ (at : Limits). FailsAt at r.rest r.why) s.within r.test;
        is = ap Number (r.is ∙ ap (λ (u : NumberFault → NumberFault). u (fault r.why (p + length r.before))) s.same ∙ ap (fault r.why) byte)
            ∙ ap (λ (u : NumberFault → FileFault). u (fault r.why (length (file_before place)))) (sym outside);
      })

  by_room : (w a f b t q : ℕ) → RightCounts (counts w f t) → a ≡ length (encode w) → b ≡ length (encode w ++ encode f) → q ≡ length (opening_bytes (counts w f t)) → bs ≡ opening_bytes (counts w f t) ++ drop q bs → OpeningSays (room_for m n a b (counts w f t) q)
  by_room w a f b t q right ea eb eq front =
      let opened : Opened bs (counts w f t) = record { right = right; rest = drop q bs; front = front } in
      cond_lt m f _ _ OpeningSays
      (λ short. few_fares (counts w f t) opened short (ap (λ k. Number (fault FewRecords k)) ea)) (λ fares.
      cond_lt n t _ _ OpeningSays
      (λ short. few_terms (counts w f t) opened fares short (ap (λ k. Number (fault FewRecords k)) eb))
      (λ terms. (record { right = right; fares = fares; terms = terms }, eq, front)))

  module _ (w a : ℕ) (one : Read bs encode (In 1 512) 0 w a) where
    module _ (f b : ℕ) (two : Read bs encode (In 0 1024) a f b) where
      two_front : bs ≡ (encode w ++ encode f) ++ drop b bs
      two_front = one.front ∙ ap (λ l. encode w ++ l) two.front ∙ sym (append_assoc (encode w) (encode f) (drop b bs))

      two_far : b ≡ length (encode w ++ encode f)
      two_far = omega (arith, one.place, two.place, length-append (encode w) (encode f))

      by_terms : (r : Result (ℕ × ℕ) NumberFault) → Says bs encode (In 0 512) (Starts (from_to 0 512)) b r → OpeningSays (and_then r (λ t q. room_for m n a b (counts w f t) q))
      by_terms (Ok x) three =
          let t : ℕ = x.0 in
          let same : (encode w ++ encode f) ++ encode t ≡ opening_bytes (counts w f t) = append_assoc (encode w) (encode f) (encode t) in
          by_room w a f b t x.1 (record { width = one.lawful.0; fares = two.lawful.0; terms = three.lawful.0 }) (omega (arith, one.place)) two_far
          (omega (arith, two_far, three.place, length-append (encode w ++ encode f) (encode t), ap length same))
          (two_front ∙ ap (λ l. (encode w ++ encode f) ++ l) three.front ∙ sym (append_assoc (encode w ++ encode f) (encode t) (drop x.1 bs)) ∙ ap (λ l. l ++ drop x.1 bs) same)
      by_terms (Err e) three = number_refused (the_terms w f) b (one.lawful.0, two.lawful.0) refl two_far two_front e three

    by_fares : (r : Result (ℕ × ℕ) NumberFault) → Says bs encode (In 0 1024) (Starts (from_to 0 1024)) a r → OpeningSays (and_then r (behind_fares w a))
    by_fares (Ok x) two = by_terms x.0 x.1 two (number_at 0 512 0 bs x.1) ((number_exact bs bytes 0 512 0 (omega arith)).says x.1)
    by_fares (Err e) two = number_refused (the_fares w) a one.lawful.0 refl (omega (arith, one.place)) one.front e two

  by_width : (r : Result (ℕ × ℕ) NumberFault) → Says bs encode (In 1 512) (Starts (from_to 1 512)) 0 r → OpeningSays (and_then r behind_width)
  by_width (Ok x) one = by_fares x.0 x.1 one (number_at 0 1024 0 bs x.1) ((number_exact bs bytes 0 1024 0 (omega arith)).says x.1)
  by_width (Err e) one = number_refused the_width 0 tt refl refl refl e one

  pub opening_says : OpeningSays (opening_at m n bs 0)
  opening_says = by_width (number_at 1 512 0 bs 0) ((number_exact bs bytes 1 512 0 (omega arith)).says 0)

  -- what lies behind the first bytes
  pub after : (xs rest : List ℕ) → bs ≡ xs ++ rest → drop (length xs) bs ≡ rest
  after xs rest h = ap (drop (length xs)) h ∙ drop_at xs rest (length xs) refl

  -- numbers that stand in the bytes are read
  width_read : (w : ℕ) (rest : List ℕ) → Within 1 512 w → bs ≡ encode w ++ rest → (opening_at m n bs 0 ≡ behind_width w (length (encode w))) × (drop (length (encode w)) bs ≡ rest)
  width_read w rest right front =
      let far : 0 + length (encode w) ≡ length (encode w) = omega arith in (
        ap (λ r. and_then r behind_width) ((number_exact bs bytes 1 512 0 (omega arith)).reads w 0 rest (right, omega arith) front) ∙ ap (behind_width w) far,
        after (encode w) rest front,
      )

  fares_read : (w f : ℕ) (rest : List ℕ) → Within 1 512 w → Within 0 1024 f → bs ≡ (encode w ++ encode f) ++ rest → (opening_at m n bs 0 ≡ behind_fares w (length (encode w)) f (length (encode w ++ encode f))) × (drop (length (encode w ++ encode f)) bs ≡ rest)
  fares_read w f rest wide many front =
      let first = width_read w (encode f ++ rest) wide (front ∙ append_assoc (encode w) (encode f) rest) in
      let a : ℕ = length (encode w) in
      let far : a + length (encode f) ≡ length (encode w ++ encode f) = sym (length-append (encode w) (encode f)) in (
        first.0
            ∙ ap (λ r. and_then r (behind_fares w a)) ((number_exact bs bytes 0 1024 0 (omega arith)).reads f a rest (many, omega arith) first.1)
            ∙ ap (behind_fares w a f) far,
        after (encode w ++ encode f) rest front,
      )

  counts_read : (h : Counts) (rest : List ℕ) → RightCounts h → bs ≡ opening_bytes h ++ rest → opening_at m n bs 0 ≡ room_for m n (length (encode h.width)) (length (encode h.width ++ encode h.fares)) h (length (opening_bytes h))
  counts_read h rest right front =
      let before : List ℕ = encode h.width ++ encode h.fares in
      let same : before ++ encode h.terms ≡ opening_bytes h = append_assoc (encode h.width) (encode h.fares) (encode h.terms) in
      let split : bs ≡ before ++ (encode h.terms ++ rest) = front ∙ ap (λ l. l ++ rest) (sym same) ∙ append_assoc before (encode h.terms) rest in
      let two = fares_read h.width h.fares (encode h.terms ++ rest) right.width right.fares split in
      let far : length before + length (encode h.terms) ≡ length (opening_bytes h) = sym (length-append before (encode h.terms)) ∙ ap length same in
      two.0
      ∙ ap (λ r. and_then r (λ t q. room_for m n (length (encode h.width)) (length before) (counts h.width h.fares t) q)) ((number_exact bs bytes 0 512 0 (omega arith)).reads h.terms (length before) rest (right.terms, omega arith) two.1)
      ∙ ap (room_for m n (length (encode h.width)) (length before) h) far

  pub opening_read : (h : Counts) (rest : List ℕ) → HasRoom m n h → bs ≡ opening_bytes h ++ rest → opening_at m n bs 0 ≡ Ok (h, length (opening_bytes h))
  opening_read h rest room front =
      counts_read h rest room.right front
      ∙ cond-false (ltb m h.fares) _ _ (le-ltb m h.fares room.fares)
      ∙ cond-false (ltb n h.terms) _ _ (le-ltb n h.terms room.terms)

  -- a number that is refused outside the lines
  refused_at : (low high p : ℕ) (rest : List ℕ) (why : Refusal) → high ≤ 65535 → drop p bs ≡ rest → FailsAt (from_to low high) rest why → number_at low high 0 bs p ≡ Err (fault why p)
  refused_at low high p rest why small front test =
      (number_exact bs bytes low high 0 small).refuses p (fault why p)
      (record { before = []; at = from_to low high; up = as_is; why = why; rest = rest; stop = record { none = refl; within = refl; same = refl }; front = front; test = test; is = ap (fault why) (omega arith) })

  pub width_refused : (rest : List ℕ) (why : Refusal) → bs ≡ rest → FailsAt (from_to 1 512) rest why → opening_at m n bs 0 ≡ Err (fault why 0)
  width_refused rest why front test = ap (λ r. and_then r behind_width) (refused_at 1 512 0 rest why (omega arith) front test)

  pub fares_refused : (w : ℕ) (rest : List ℕ) (why : Refusal) → Within 1 512 w → bs ≡ encode w ++ rest → FailsAt (from_to 0 1024) rest why → opening_at m n bs 0 ≡ Err (fault why (length (encode w)))
  fares_refused w rest why wide front test =
      let one = width_read w rest wide front in
      one.0 ∙ ap (λ r. and_then r (behind_fares w (length (encode w)))) (refused_at 0 1024 (length (encode w)) rest why (omega arith) one.1 test)

  pub terms_refused : (w f : ℕ) (rest : List ℕ) (why : Refusal) → Within 1 512 w → Within 0 1024 f → bs ≡ (encode w ++ encode f) ++ rest → FailsAt (from_to 0 512) rest why → opening_at m n bs 0 ≡ Err (fault why (length (encode w ++ encode f)))
  terms_refused w f rest why wide many front test =
      let two = fares_read w f rest wide many front in
      two.0 ∙ ap (λ r. and_then r (λ t q. room_for m n (length (encode w)) (length (encode w ++ encode f)) (counts w f t) q)) (refused_at 0 512 (length (encode w ++ encode f)) rest why (omega arith) two.1 test)

  pub fares_short : (h : Counts) → Opened bs h → m < h.fares → opening_at m n bs 0 ≡ Err (fault FewRecords (length (encode h.width)))
  fares_short h opened short = counts_read h opened.rest opened.right opened.front ∙ cond-true (ltb m h.fares) _ _ (lt-ltb m h.fares short)

  pub terms_short : (h : Counts) → Opened bs h → h.fares ≤ m → n < h.terms → opening_at m n bs 0 ≡ Err (fault FewRecords (length (encode h.width ++ encode h.fares)))
  terms_short h opened enough short =
      counts_read h opened.rest opened.right opened.front
      ∙ cond-false (ltb m h.fares) _ _ (le-ltb m h.fares enough)
      ∙ cond-true (ltb n h.terms) _ _ (lt-ltb n h.terms short)
