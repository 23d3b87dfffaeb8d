-- Things of one kind, one behind the other, are read exactly where each of them is.
use Rattle.std.proofs.Common.{◌≡◌, ℕ, suc, ◌+◌, ◌-◌, ◌<◌, ◌≤◌, List, [], ◌∷◌, ◌++◌, length, drop, Ok, Err, Result, sym, refl, ap, ◌∙◌, add-zero, arith}
use Rattle.std.specs.List.{flat_map, AllByRecursion}
use Rattle.std.proofs.lemmas.List.{append-nil}
use Rattle.tariff.specs.declared.fault.NumberFault.{NumberFault}
use Rattle.tariff.specs.Readings.{and_then, mapped, many}
use Rattle.tariff.proofs.Rows.{behind, AllSaid, OneSaid, all_said, all_read}
use Rattle.tariff_format.specs.Places.{Limits}
use Rattle.tariff_format.proofs.Exact.{Stops, parted, Refused, from_before, from_behind, Says, Exact}

-- the places of a reading that goes by a state, for each of n behind those before it
pub record EachStop {A E S : Type 0} (enc : A → List ℕ) (right : S → List A → Type 0) (state : S → List A → S) (one : S → Stops E) (n : ℕ) (s : S) (before : List ℕ) (at : Limits) (up : NumberFault → E) : Type 0 where
  pub done : List A
  pub more : List ℕ
  pub lawful : right s done
  pub few : length done < n
  pub split : before ≡ flat_map enc done ++ more
  pub stop : one (state s done) more at up

module _ (bs : List ℕ) {A E S : Type 0} (read : S → ℕ → Result (A × ℕ) E) (next : A → S → S) (enc : A → List ℕ) (ok : S → A → Type 0) (stops : S → Stops E) (exact : (s : S) → Exact bs (read s) enc (ok s) (stops s)) where
  module _ (right : S → List A → Type 0) (state : S → List A → S) (none : (s : S) → right s []) (more : (s : S) (x : A) (xs : List A) → ok s x → right (next x s) xs → right s (x ∷ xs)) (first : (s : S) (x : A) (xs : List A) → right s (x ∷ xs) → ok s x × right (next x s) xs) (start : (s : S) → state s [] ≡ s) (on : (s : S) (x : A) (xs : List A) → state (next x s) xs ≡ state s (x ∷ xs)) where
    abbrev all_ok : ℕ → S → List A → Type 0
    all_ok n s xs = right s xs × (length xs ≡ n)

    abbrev all_stops : ℕ → S → Stops E
    all_stops = EachStop enc right state stops

    -- one that is refused
    abbrev OneFails : S → ℕ → E → Type 0
    OneFails s p e = Refused bs (stops s) p e

    one_said : (s : S) (p : ℕ) (r : Result (A × ℕ) E) → Says bs enc (ok s) (stops s) p r → OneSaid bs enc ok OneFails s p r
    one_said s p (Ok x) h = (h.lawful, h.front, h.place)
    one_said s p (Err e) h = h

    all_say : (n : ℕ) (s : S) (p : ℕ) (r : Result (List A × ℕ) E) → AllSaid bs enc right state OneFails n s p r → Says bs (flat_map enc) (all_ok n s) (all_stops n s) p r
    all_say n s p (Ok x) h = record { lawful = (h.lawful, h.many); place = h.place; front = h.front }
    all_say n s p (Err e) h =
        let done : List ℕ = flat_map enc h.done in
        let one = h.refused in
        from_before bs (stops (state s h.done)) (all_stops n s) e p (p + length done) done refl (h.front ∙ ap (λ l. done ++ l) (sym (behind bs p done h.rest h.front))) one (record {
          done = h.done;
          more = one.before;
          lawful = h.lawful;
          few = h.few;
          split = refl;
          stop = one.stop;
        })

    one_read : (s : S) (p : ℕ) (x : A) (xs : List A) (rest : List ℕ) → right s (x ∷ xs) → drop p bs ≡ enc x ++ rest → (read s p ≡ Ok (x, p + length (enc x))) × right (next x s) xs
    one_read s p x xs rest lawful h = let both = first s x xs lawful in ((exact s).reads x p rest both.0 h, both.1)

    -- those that stand in the bytes are read
    past : (xs : List A) (n : ℕ) (s : S) (p : ℕ) (rest : List ℕ) → length xs ≤ n → right s xs → drop p bs ≡ flat_map enc xs ++ rest → many read next n s p ≡ mapped (λ l. xs ++ l) (many read next (n - length xs) (state s xs) (p + length (flat_map enc xs)))
    past = all_read bs read next enc right state start on one_read

    pub each_exact : (n : ℕ) (s : S) → Exact bs (many read next n s) (flat_map enc) (λ xs. right s xs × (length xs ≡ n)) (EachStop enc right state stops n s)
    each_exact n s = record {
      says = λ p. all_say n s p (many read next n s p) (all_said bs read next enc right state start on ok OneFails none more (λ t q. one_said t q (read t q) ((exact t).says q)) n s p);
      reads = λ xs p rest lawful h.
          let q : ℕ = p + length (flat_map enc xs) in
          let all : n - length xs ≡ 0 = omega (arith, lawful.1) in
          past xs n s p rest (omega (arith, lawful.1)) lawful.0 h ∙ ap (λ k. mapped (λ l. xs ++ l) (many read next k (state s xs) q)) all ∙ ap (λ l. Ok (l, q)) (append-nil xs);
      refuses = λ p e r.
          let z = r.stop in
          let fewer = z.few in
          let left : ℕ = n - (length z.done + 1) in
          let count : n - length z.done ≡ suc left = omega arith in
          let done : List ℕ = flat_map enc z.done in
          let stopped = (exact (state s z.done)).refuses (p + length done) e (from_behind bs (all_stops n s) (stops (state s z.done)) e p done z.more r z.split z.stop) in
          past z.done n s p (z.more ++ r.rest) (omega arith) z.lawful (parted bs p done z.more r.rest r.before z.split r.front)
          ∙ ap (λ k. mapped (λ l. z.done ++ l) (many read next k (state s z.done) (p + length done))) count
          ∙ ap (λ y. mapped (λ l. z.done ++ l) (and_then y (λ a m. mapped (λ l. a ∷ l) (many read next left (next a (state s z.done)) m)))) stopped;
    }

-- lines go by their index
abbrev pub LinesStop : {A E : Type 0} → (A → List ℕ) → (A → Type 0) → (ℕ → Stops E) → ℕ → Stops E
LinesStop enc ok one n = EachStop enc (λ _ xs. AllByRecursion ok xs) (λ i xs. i + length xs) one n 0

pub lines_exact : (bs : List ℕ) {A E : Type 0} (read : ℕ → ℕ → Result (A × ℕ) E) (enc : A → List ℕ) (ok : A → Type 0) (stops : ℕ → Stops E) → ((i : ℕ) → Exact bs (read i) enc ok (stops i)) → (n : ℕ) → Exact bs (many read (λ _ j. j + 1) n 0) (flat_map enc) (λ xs. AllByRecursion ok xs × (length xs ≡ n)) (LinesStop enc ok stops n)
lines_exact bs {A} read enc ok stops exact n =
    each_exact bs read (λ _ j. j + 1) enc (λ _. ok) stops exact (λ _ xs. AllByRecursion ok xs) (λ i xs. i + length xs) (λ _. tt) (λ _ x xs h rest. (h, rest)) (λ _ x xs h. h) add-zero next_index n 0
  where
    next_index : (i : ℕ) (x : A) (xs : List A) → (i + 1) + length xs ≡ i + length (x ∷ xs)
    next_index i x xs = omega arith
