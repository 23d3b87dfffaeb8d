-- A reading of a number gives what is right to answer, and nothing else is right.
use Rattle.std.proofs.Common.{◌≡◌, ℕ, ◌+◌, ◌-◌, ◌*◌, ◌%◌, ◌<◌, ◌≤◌, eqb, ltb, ◌⊎◌, List, [], ◌∷◌, ◌++◌, length, drop, Ok, Err, Result, sym, refl, ap, ◌∙◌, inl, inr, ⊎_elim, arith}
use Rattle.std.proofs.ByRecursion.{All-drop}
use Rattle.std.proofs.lemmas.Bool.{cond_both, cond-true, cond-false, ltb-false, eqb-true, cases_lt}
use Rattle.std.proofs.lemmas.Bool.Decides.{nat_tests}
use Rattle.marks.specs.declared.refusal.Refusal.{Refusal}
use Rattle.marks.specs.declared.refusal.Refusal.TheVariants.{BytesEnd, Malformed, OutsideLimit, NotAscending, FewRecords, BytesRemain, Width, Record, MarkTooHigh, FactStands, NoSuchFact, NotSettled, OutputShort}
use Rattle.tariff.specs.declared.fault.NumberFault.{NumberFault}
use Rattle.tariff.specs.Numbers.{Bytes, spelled, Finished, encode, Begins}
use Rattle.tariff.specs.Readings.{second, third, decode, fault, tested, number_at}
use Rattle.tariff.specs.Faults.{Unfinished, TooLong, ShorterForm, Misspelled, Outside, Within, Fails, NumberAnswer}
use Rattle.tariff.proofs.Tests.{cond_lt}
use Rattle.tariff.proofs.Decoding.{decode_encode, encode_decode}

module _ (low high least : ℕ) where
  -- what is right to say of the front of the bytes
  abbrev Decoded : List ℕ → Result (ℕ × ℕ) Refusal → Type 0
  Decoded bs (Ok x) = Begins x.0 bs × (x.1 ≡ length (encode x.0))
  Decoded bs (Err why) = Fails low high least bs why

  taken : (bs : List ℕ) (n k : ℕ) → Bytes bs → decode bs ≡ Ok (n, k) → Decoded bs (Ok (n, k))
  taken bs n k bytes e = let w = encode_decode bs n k bytes e in (record { small = w.0; rest = drop k bs; front = w.2 }, w.1)

  -- a third byte that is not taken
  not_taken : (a b c : ℕ) (bs : List ℕ) → 128 ≤ a → 128 ≤ b → 4 ≤ c → TooLong (a ∷ b ∷ c ∷ bs) ⊎ Misspelled (a ∷ b ∷ c ∷ bs)
  not_taken a b c bs ha hb hc =
      ⊎_elim
      (λ (h : c < 128). inr (record { form = a ∷ b ∷ c ∷ []; rest = bs; front = refl; finished = (ha, (hb, h)); few = omega arith; wrong = inr (omega arith) }))
      (λ (h : 128 ≤ c). inl (omega arith, (ha, (hb, (h, tt)))))
      (cases_lt c 128)

  decoded_third : (a b : ℕ) (bs : List ℕ) → Bytes (a ∷ b ∷ bs) → 128 ≤ a → 128 ≤ b → ((n k : ℕ) → third a b bs ≡ Ok (n, k) → decode (a ∷ b ∷ bs) ≡ Ok (n, k)) → Decoded (a ∷ b ∷ bs) (third a b bs)
  decoded_third a b [] bytes ha hb is = (omega arith, (ha, (hb, tt)))
  decoded_third a b (c ∷ bs) bytes ha hb is =
      cond_both (eqb c 0) (Err Malformed) _ (Decoded (a ∷ b ∷ c ∷ bs))
      (λ e.
      let z = eqb-true c 0 e in
      let short : ShorterForm (a ∷ b ∷ c ∷ []) = record { form = a ∷ (b % 128) ∷ []; finished = (ha, omega arith); value = omega arith; shorter = omega arith } in
      inr (record { form = a ∷ b ∷ c ∷ []; rest = bs; front = refl; finished = (ha, (hb, omega arith)); few = omega arith; wrong = inl short }))
      (λ e.
      cond_both (ltb c 4) (Ok (a - 128 + 128 * (b - 128) + 16384 * c, 3)) _ (Decoded (a ∷ b ∷ c ∷ bs))
      (λ f. taken (a ∷ b ∷ c ∷ bs) _ 3 bytes (is _ 3 (cond-false (eqb c 0) _ _ e ∙ cond-true (ltb c 4) _ _ f)))
      (λ f. not_taken a b c bs ha hb (ltb-false c 4 f)))

  decoded_second : (a : ℕ) (bs : List ℕ) → Bytes (a ∷ bs) → 128 ≤ a → ((n k : ℕ) → second a bs ≡ Ok (n, k) → decode (a ∷ bs) ≡ Ok (n, k)) → Decoded (a ∷ bs) (second a bs)
  decoded_second a [] bytes ha is = (omega arith, (ha, tt))
  decoded_second a (b ∷ bs) bytes ha is =
      cond_both (eqb b 0) (Err Malformed) _ (Decoded (a ∷ b ∷ bs))
      (λ e.
      let z = eqb-true b 0 e in
      let short : ShorterForm (a ∷ b ∷ []) = record { form = (a % 128) ∷ []; finished = omega arith; value = omega arith; shorter = omega arith } in
      inr (record { form = a ∷ b ∷ []; rest = bs; front = refl; finished = (ha, omega arith); few = omega arith; wrong = inl short }))
      (λ e.
      cond_both (ltb b 128) (Ok (a - 128 + 128 * b, 2)) _ (Decoded (a ∷ b ∷ bs))
      (λ f. taken (a ∷ b ∷ bs) _ 2 bytes (is _ 2 (cond-false (eqb b 0) _ _ e ∙ cond-true (ltb b 128) _ _ f)))
      (λ f. decoded_third a b bs bytes ha (ltb-false b 128 f) (λ n k h. is n k (cond-false (eqb b 0) _ _ e ∙ cond-false (ltb b 128) _ _ f ∙ h))))

  decoded : (bs : List ℕ) → Bytes bs → Decoded bs (decode bs)
  decoded [] bytes = (omega arith, tt)
  decoded (a ∷ bs) bytes =
      cond_both (ltb a 128) (Ok (a, 1)) _ (Decoded (a ∷ bs))
      (λ e. taken (a ∷ bs) a 1 bytes (cond-true (ltb a 128) _ _ e))
      (λ e. decoded_second a bs bytes (ltb-false a 128 e) (λ n k h. cond-false (ltb a 128) _ _ e ∙ h))

  module _ (bs : List ℕ) (p : ℕ) where
    passed : (n k : ℕ) → Begins n (drop p bs) → k ≡ length (encode n) → NumberAnswer low high least bs p (tested low high least p (Ok (n, k)))
    passed n k b e =
        cond_lt n low _ _ (NumberAnswer low high least bs p) (λ below. record { test = (n, b, inl below); start = refl }) (λ from.
        cond_lt high n _ _ (NumberAnswer low high least bs p) (λ above. record { test = (n, b, inr above); start = refl }) (λ to.
        cond_lt n least _ _ (NumberAnswer low high least bs p) (λ falls. record { test = (n, b, ((from, to), falls)); start = refl }) (λ ascent.
        record { stands = b; limit = (from, to); ascent = ascent; behind = ap (λ m. p + m) e })))

    by_front : (r : Result (ℕ × ℕ) Refusal) → Decoded (drop p bs) r → NumberAnswer low high least bs p (tested low high least p r)
    by_front (Ok x) d = passed x.0 x.1 d.0 d.1
    by_front (Err why) d = record { test = d; start = refl }

    pub right_answer : Bytes bs → NumberAnswer low high least bs p (number_at low high least bs p)
    right_answer bytes = by_front (decode (drop p bs)) (decoded (drop p bs) (All-drop (λ b. b < 256) p bs bytes))

  -- bytes that end too soon, or are malformed, decode to nothing
  unfinished_ends : (bs : List ℕ) → Unfinished bs → decode bs ≡ Err BytesEnd
  unfinished_ends [] h = refl
  unfinished_ends (a ∷ []) h = let ha = h.1.0 in grind (arith, nat_tests)
  unfinished_ends (a ∷ b ∷ []) h = let ha = h.1.0 in let hb = h.1.1.0 in grind (arith, nat_tests)
  unfinished_ends (a ∷ b ∷ c ∷ bs) h = absurd (omega arith)

  too_long_malformed : (bs : List ℕ) → TooLong bs → decode bs ≡ Err Malformed
  too_long_malformed [] h = absurd (omega arith)
  too_long_malformed (a ∷ []) h = absurd (omega arith)
  too_long_malformed (a ∷ b ∷ []) h = absurd (omega arith)
  too_long_malformed (a ∷ b ∷ c ∷ bs) h = let ha = h.1.0 in let hb = h.1.1.0 in let hc = h.1.1.1.0 in grind (arith, nat_tests)

  -- a form of two or three bytes that has a shorter one ends in 0
  ends_in_zero : (a b : ℕ) → b < 128 → ShorterForm (a ∷ b ∷ []) → b ≡ 0
  ends_in_zero a b hb s = by s.form s.finished s.value s.shorter
    where
      by : (es : List ℕ) → Finished es → spelled es ≡ spelled (a ∷ b ∷ []) → length es < 2 → b ≡ 0
      by [] f e l = absurd f
      by (x ∷ []) f e l = omega arith
      by (x ∷ y ∷ es) f e l = absurd (omega arith)

  ends_in_zero_3 : (a b c : ℕ) → c < 128 → ShorterForm (a ∷ b ∷ c ∷ []) → c ≡ 0
  ends_in_zero_3 a b c hc s = by s.form s.finished s.value s.shorter
    where
      by : (es : List ℕ) → Finished es → spelled es ≡ spelled (a ∷ b ∷ c ∷ []) → length es < 3 → c ≡ 0
      by [] f e l = absurd f
      by (x ∷ []) f e l = omega arith
      by (x ∷ y ∷ []) f e l = omega arith
      by (x ∷ y ∷ z ∷ es) f e l = absurd (omega arith)

  misspelled_form : (form rest : List ℕ) → Finished form → length form ≤ 3 → ShorterForm form ⊎ (65535 < spelled form) → decode (form ++ rest) ≡ Err Malformed
  misspelled_form [] rest f l w = absurd f
  misspelled_form (a ∷ []) rest f l w = ⊎_elim (λ s. absurd (none s.form s.finished s.shorter)) (λ h. absurd (omega arith)) w
    where
      none : (es : List ℕ) → Finished es → length es < 1 → ⊥
      none [] f l = f
      none (x ∷ es) f l = omega arith
  misspelled_form (a ∷ b ∷ []) rest f l w =
      let ha = f.0 in let hb = f.1 in
      ⊎_elim (λ s. let z = ends_in_zero a b hb s in grind (arith, nat_tests)) (λ h. absurd (omega arith)) w
  misspelled_form (a ∷ b ∷ c ∷ []) rest f l w =
      let ha = f.0 in let hb = f.1.0 in let hc = f.1.1 in
      ⊎_elim (λ s. let z = ends_in_zero_3 a b c hc s in grind (arith, nat_tests)) (λ (h : 65535 < spelled (a ∷ b ∷ c ∷ [])). let big : 4 ≤ c = omega arith in grind (arith, nat_tests)) w
  misspelled_form (a ∷ b ∷ c ∷ d ∷ form) rest f l w = absurd (omega arith)

  malformed_is : (bs : List ℕ) → TooLong bs ⊎ Misspelled bs → decode bs ≡ Err Malformed
  malformed_is bs (inl h) = too_long_malformed bs h
  malformed_is bs (inr m) = ap decode m.front ∙ misspelled_form m.form m.rest m.finished m.few m.wrong

  begins_decode : (n : ℕ) (bs : List ℕ) → Begins n bs → decode bs ≡ Ok (n, length (encode n))
  begins_decode n bs b = ap decode b.front ∙ decode_encode n b.rest b.small

  module _ (bs : List ℕ) (p : ℕ) where
    only_fault : (why : Refusal) → Fails low high least (drop p bs) why → number_at low high least bs p ≡ Err (fault why p)
    only_fault BytesEnd h = ap (tested low high least p) (unfinished_ends (drop p bs) h)
    only_fault Malformed h = ap (tested low high least p) (malformed_is (drop p bs) h)
    only_fault OutsideLimit h = ap (tested low high least p) (begins_decode h.0 (drop p bs) h.1) ∙ outside h.0 (length (encode h.0)) h.2
      where
        outside : (n k : ℕ) → Outside low high n → tested low high least p (Ok (n, k)) ≡ Err (fault OutsideLimit p)
        outside n k (inl l) = grind (arith, nat_tests)
        outside n k (inr l) = grind (arith, nat_tests)
    only_fault NotAscending h = ap (tested low high least p) (begins_decode h.0 (drop p bs) h.1) ∙ falls h.0 (length (encode h.0)) h.2.0 h.2.1
      where
        falls : (n k : ℕ) → Within low high n → n < least → tested low high least p (Ok (n, k)) ≡ Err (fault NotAscending p)
        falls n k w l = grind (arith, nat_tests)
    only_fault FewRecords h = absurd h
    only_fault BytesRemain h = absurd h
    only_fault Width h = absurd h
    only_fault Record h = absurd h
    only_fault MarkTooHigh h = absurd h
    only_fault FactStands h = absurd h
    only_fault NoSuchFact h = absurd h
    only_fault NotSettled h = absurd h
    only_fault OutputShort h = absurd h

    taken_is : (n k : ℕ) → Within low high n → least ≤ n → tested low high least p (Ok (n, k)) ≡ Ok (n, p + k)
    taken_is n k w l = grind (arith, nat_tests)

    pub only_answer : (r : Result (ℕ × ℕ) NumberFault) → NumberAnswer low high least bs p r → number_at low high least bs p ≡ r
    only_answer (Ok x) h = ap (tested low high least p) (begins_decode x.0 (drop p bs) h.stands) ∙ taken_is x.0 _ h.limit h.ascent ∙ ap (λ q. Ok (x.0, q)) (sym h.behind)
    only_answer (Err f) h = only_fault f.refusal h.test ∙ ap (λ q. Err (fault f.refusal q)) (sym h.start)
