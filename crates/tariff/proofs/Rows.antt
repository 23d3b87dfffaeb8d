-- Readings of one kind, one behind the other: what is right to say of them all, by what is right to say of each, and that what
-- stands in the bytes is read. Each goes by a state, which what it gives moves on; `at` is the state behind some things.
use Rattle.std.proofs.Common.{◌≡◌, ℕ, zero, suc, ◌+◌, ◌-◌, ◌<◌, ◌≤◌, List, [], ◌∷◌, ◌++◌, length, drop, Ok, Err, Result, sym, refl, ap, ◌∙◌, subst, append_assoc, add-zero, arith, length-append}
use Rattle.std.specs.List.{flat_map}
use Rattle.std.proofs.lemmas.List.{drop_at, drop-drop}
use Rattle.tariff.specs.Readings.{and_then, mapped, many}
use Rattle.tariff.proofs.Runs.{mapped_same, mapped_twice}

-- what lies behind xs
pub behind : (bs : List ℕ) (p : ℕ) (xs rest : List ℕ) → drop p bs ≡ xs ++ rest → drop (p + length xs) bs ≡ rest
behind bs p xs rest h = sym (drop-drop (length xs) p bs) ∙ ap (drop (length xs)) h ∙ drop_at xs rest (length xs) refl

-- n things that were read from p on, and the place behind them
pub record AllRead {A S : Type 0} (bs : List ℕ) (enc : A → List ℕ) (right : S → List A → Type 0) (n : ℕ) (s : S) (p : ℕ) (xs : List A) (q : ℕ) : Type 0 where
  pub many : length xs ≡ n
  pub lawful : right s xs
  pub front : drop p bs ≡ flat_map enc xs ++ drop q bs
  pub place : q ≡ p + length (flat_map enc xs)

-- fewer than n things, and then one that is refused
pub record OneRefused {A E S : Type 0} (bs : List ℕ) (enc : A → List ℕ) (right : S → List A → Type 0) (at : S → List A → S) (stop : S → ℕ → E → Type 0) (n : ℕ) (s : S) (p : ℕ) (e : E) : Type 0 where
  pub done : List A
  pub few : length done < n
  pub lawful : right s done
  pub rest : List ℕ
  pub front : drop p bs ≡ flat_map enc done ++ rest
  pub refused : stop (at s done) (p + length (flat_map enc done)) e

-- what is right to say of n things from p on
abbrev pub AllSaid : {A E S : Type 0} → List ℕ → (A → List ℕ) → (S → List A → Type 0) → (S → List A → S) → (S → ℕ → E → Type 0) → ℕ → S → ℕ → Result (List A × ℕ) E → Type 0
AllSaid bs enc right at stop n s p (Ok x) = AllRead bs enc right n s p x.0 x.1
AllSaid bs enc right at stop n s p (Err e) = OneRefused bs enc right at stop n s p e

-- and of one
abbrev pub OneSaid : {A E S : Type 0} → List ℕ → (A → List ℕ) → (S → A → Type 0) → (S → ℕ → E → Type 0) → S → ℕ → Result (A × ℕ) E → Type 0
OneSaid bs enc ok stop s p (Ok x) = ok s x.0 × (drop p bs ≡ enc x.0 ++ drop x.1 bs) × (x.1 ≡ p + length (enc x.0))
OneSaid bs enc ok stop s p (Err e) = stop s p e

module _ {A E S : Type 0} (bs : List ℕ) (read : S → ℕ → Result (A × ℕ) E) (next : A → S → S) (enc : A → List ℕ) (right : S → List A → Type 0) (at : S → List A → S) (start : (s : S) → at s [] ≡ s) (on : (s : S) (x : A) (xs : List A) → at (next x s) xs ≡ at s (x ∷ xs)) where
  module _ (ok : S → A → Type 0) (stop : S → ℕ → E → Type 0) (none : (s : S) → right s []) (more : (s : S) (x : A) (xs : List A) → ok s x → right (next x s) xs → right s (x ∷ xs)) (one : (s : S) (p : ℕ) → OneSaid bs enc ok stop s p (read s p)) where
    abbrev Said : ℕ → S → ℕ → Result (List A × ℕ) E → Type 0
    Said = AllSaid bs enc right at stop

    by_one : (n : ℕ) (s : S) (p : ℕ) (r : Result (A × ℕ) E) → OneSaid bs enc ok stop s p r → ((x : A) (q : ℕ) → Said n (next x s) q (many read next n (next x s) q)) → Said (suc n) s p (and_then r (λ x q. mapped (λ xs. x ∷ xs) (many read next n (next x s) q)))
    by_one n s p (Err e) h go = record {
      done = [];
      few = omega arith;
      lawful = none s;
      rest = drop p bs;
      front = refl;
      refused = subst (λ i. stop (at s []) i e) (sym (add-zero p)) (subst (λ t. stop t p e) (sym (start s)) h);
    }
    by_one n s p (Ok x) h go = by_rest (many read next n (next x.0 s) x.1) (go x.0 x.1)
      where
        joins : (xs : List A) (rest : List ℕ) → drop x.1 bs ≡ flat_map enc xs ++ rest → drop p bs ≡ flat_map enc (x.0 ∷ xs) ++ rest
        joins xs rest e = h.1 ∙ ap (λ l. enc x.0 ++ l) e ∙ sym (append_assoc (enc x.0) (flat_map enc xs) rest)

        far : (xs : List A) → x.1 + length (flat_map enc xs) ≡ p + length (flat_map enc (x.0 ∷ xs))
        far xs = omega (arith, h.2, length-append (enc x.0) (flat_map enc xs))

        by_rest : (r : Result (List A × ℕ) E) → Said n (next x.0 s) x.1 r → Said (suc n) s p (mapped (λ xs. x.0 ∷ xs) r)
        by_rest (Ok y) g = record { many = ap suc g.many; lawful = more s x.0 y.0 h.0 g.lawful; front = joins y.0 (drop y.1 bs) g.front; place = g.place ∙ far y.0 }
        by_rest (Err f) g = record {
          done = x.0 ∷ g.done;
          few = let l = g.few in omega arith;
          lawful = more s x.0 g.done h.0 g.lawful;
          rest = g.rest;
          front = joins g.done g.rest g.front;
          refused = subst (λ i. stop (at s (x.0 ∷ g.done)) i f) (far g.done) (subst (λ t. stop t (x.1 + length (flat_map enc g.done)) f) (on s x.0 g.done) g.refused);
        }

    pub all_said : (n : ℕ) (s : S) (p : ℕ) → Said n s p (many read next n s p)
    all_said zero s p = record { many = refl; lawful = none s; front = refl; place = sym (add-zero p) }
    all_said (suc n) s p = by_one n s p (read s p) (one s p) (λ x q. all_said n (next x s) q)

  -- things that stand in the bytes are read, and the rest decides
  module _ (reads : (s : S) (p : ℕ) (x : A) (xs : List A) (rest : List ℕ) → right s (x ∷ xs) → drop p bs ≡ enc x ++ rest → (read s p ≡ Ok (x, p + length (enc x))) × right (next x s) xs) where
    pub all_read : (xs : List A) (n : ℕ) (s : S) (p : ℕ) (rest : List ℕ) → length xs ≤ n → right s xs → drop p bs ≡ flat_map enc xs ++ rest → many read next n s p ≡ mapped (λ l. xs ++ l) (many read next (n - length xs) (at s xs) (p + length (flat_map enc xs)))
    all_read [] n s p rest few lawful h =
        let e : n - 0 ≡ n = omega arith in
        sym (mapped_same (many read next (n - 0) (at s []) (p + 0)) ∙ (λ k. many read next (e k) (start s k) (add-zero p k)))
    all_read (x ∷ xs) zero s p rest few lawful h = absurd (omega arith)
    all_read (x ∷ xs) (suc n) s p rest few lawful h =
        let split : drop p bs ≡ enc x ++ (flat_map enc xs ++ rest) = h ∙ append_assoc (enc x) (flat_map enc xs) rest in
        let q : ℕ = p + length (enc x) in
        let one = reads s p x xs (flat_map enc xs ++ rest) lawful split in
        let more = all_read xs n (next x s) q rest (omega arith) one.1 (behind bs p (enc x) (flat_map enc xs ++ rest) split) in
        let left : n - length xs ≡ suc n - suc (length xs) = omega arith in
        let far : q + length (flat_map enc xs) ≡ p + length (flat_map enc (x ∷ xs)) = omega (arith, length-append (enc x) (flat_map enc xs)) in
        ap (λ r. and_then r (λ y e. mapped (λ l. y ∷ l) (many read next n (next y s) e))) one.0
        ∙ ap (mapped (λ l. x ∷ l)) more
        ∙ mapped_twice (λ l. x ∷ l) (λ l. xs ++ l) (many read next (n - length xs) (at (next x s) xs) (q + length (flat_map enc xs)))
        ∙ (λ k. mapped (λ l. x ∷ (xs ++ l)) (many read next (left k) (on s x xs k) (far k)))
