-- Readings that are exact, put together: they take what is encoded and nothing else, and where they refuse, all numbers before
-- the fault are right and the one that starts there fails its tests.
use Rattle.std.proofs.Common.{◌≡◌, ℕ, ◌+◌, List, ◌++◌, length, drop, Ok, Err, Result, sym, refl, ap, ◌∙◌, subst, append_assoc, arith, length-append}
use Rattle.marks.specs.declared.refusal.Refusal.{Refusal}
use Rattle.tariff.specs.declared.fault.NumberFault.{NumberFault}
use Rattle.tariff.specs.Readings.{and_then, mapped, fault}
use Rattle.tariff.proofs.Rows.{behind}
use Rattle.tariff_format.specs.Answers.{FailsAt}
use Rattle.tariff_format.specs.Places.{Limits}

-- Where a reading may be refused: the bytes before such a place, the limits of the number there, and what its fault is handed up as.
abbrev pub Stops : Type 0 → Type 1
Stops E = List ℕ → Limits → (NumberFault → E) → Type 0

-- the places of one reading, and then those of another, which goes by what the first gave
pub data EitherStop {A E : Type 0} (enc : A → List ℕ) (ok : A → Type 0) (one : Stops E) (two : A → Stops E) (before : List ℕ) (at : Limits) (up : NumberFault → E) : Type 0 where
  in_first : one before at up → EitherStop enc ok one two before at up
  in_second : (x : A) (more : List ℕ) → ok x → before ≡ enc x ++ more → two x more at up → EitherStop enc ok one two before at up

-- the places of a reading, whose faults are handed up once more
pub record LiftedStop {E F : Type 0} (lift : E → F) (one : Stops E) (before : List ℕ) (at : Limits) (up : NumberFault → F) : Type 0 where
  pub below : NumberFault → E
  pub same : up ≡ (λ f. lift (below f))
  pub stop : one before at below

-- how far it is past xs and more
far : (p q : ℕ) (xs more : List ℕ) → q ≡ p + length xs → q + length more ≡ p + length (xs ++ more)
far p q xs more e = omega (arith, e, length-append xs more)

-- xs stands at p, and ys behind it
joins : (bs : List ℕ) (p q : ℕ) (xs ys rest : List ℕ) → drop p bs ≡ xs ++ drop q bs → drop q bs ≡ ys ++ rest → drop p bs ≡ (xs ++ ys) ++ rest
joins bs p q xs ys rest one two = one ∙ ap (λ l. xs ++ l) two ∙ sym (append_assoc xs ys rest)

-- what stands at p is xs and what follows it
pub parted : (bs : List ℕ) (p : ℕ) (xs more rest before : List ℕ) → before ≡ xs ++ more → drop p bs ≡ before ++ rest → drop p bs ≡ xs ++ (more ++ rest)
parted bs p xs more rest before split front = front ∙ ap (λ l. l ++ rest) split ∙ append_assoc xs more rest

module _ (bs : List ℕ) where
  -- x was read from p to q
  pub record Read {A : Type 0} (enc : A → List ℕ) (ok : A → Type 0) (p : ℕ) (x : A) (q : ℕ) : Type 0 where
    pub lawful : ok x
    pub place : q ≡ p + length (enc x)
    pub front : drop p bs ≡ enc x ++ drop q bs

  -- what was to be read from p on was refused
  pub record Refused {E : Type 0} (stops : Stops E) (p : ℕ) (e : E) : Type 0 where
    pub before : List ℕ
    pub at : Limits
    pub up : NumberFault → E
    pub why : Refusal
    pub rest : List ℕ
    pub stop : stops before at up
    pub front : drop p bs ≡ before ++ rest
    pub test : FailsAt at rest why
    pub is : e ≡ up (fault why (p + length before))

  module _ {E : Type 0} (stops stops' : Stops E) (e : E) where
    -- the same refusal among other places
    among : (p : ℕ) (r : Refused stops p e) → stops' r.before r.at r.up → Refused stops' p e
    among p r s = record { before = r.before; at = r.at; up = r.up; why = r.why; rest = r.rest; stop = s; front = r.front; test = r.test; is = r.is }

    -- a refusal behind xs, seen from where xs starts
    pub from_before : (p q : ℕ) (xs : List ℕ) → q ≡ p + length xs → drop p bs ≡ xs ++ drop q bs → (r : Refused stops q e) → stops' (xs ++ r.before) r.at r.up → Refused stops' p e
    from_before p q xs place front r s = record {
      before = xs ++ r.before;
      at = r.at;
      up = r.up;
      why = r.why;
      rest = r.rest;
      stop = s;
      front = joins bs p q xs r.before r.rest front r.front;
      test = r.test;
      is = r.is ∙ ap (λ n. r.up (fault r.why n)) (far p q xs r.before place);
    }

    -- and seen from behind xs
    pub from_behind : (p : ℕ) (xs more : List ℕ) (r : Refused stops p e) → r.before ≡ xs ++ more → stops' more r.at r.up → Refused stops' (p + length xs) e
    from_behind p xs more r split s = record {
      before = more;
      at = r.at;
      up = r.up;
      why = r.why;
      rest = r.rest;
      stop = s;
      front = behind bs p xs (more ++ r.rest) (parted bs p xs more r.rest r.before split r.front);
      test = r.test;
      is = r.is ∙ ap (λ n. r.up (fault r.why n)) (ap (λ l. p + length l) split ∙ sym (far p (p + length xs) xs more refl));
    }

  abbrev pub Says : {A E : Type 0} → (A → List ℕ) → (A → Type 0) → Stops E → ℕ → Result (A × ℕ) E → Type 0
  Says enc ok stops p (Ok x) = Read enc ok p x.0 x.1
  Says enc ok stops p (Err e) = Refused stops p e

  pub record Exact {A E : Type 0} (f : ℕ → Result (A × ℕ) E) (enc : A → List ℕ) (ok : A → Type 0) (stops : Stops E) : Type 0 where
    pub says : (p : ℕ) → Says enc ok stops p (f p)
    pub reads : (x : A) (p : ℕ) (rest : List ℕ) → ok x → drop p bs ≡ enc x ++ rest → f p ≡ Ok (x, p + length (enc x))
    pub refuses : (p : ℕ) (e : E) → Refused stops p e → f p ≡ Err e

  -- the same in other words
  pub reworded_exact : {A E : Type 0} (f : ℕ → Result (A × ℕ) E) (enc : A → List ℕ) (ok ok' : A → Type 0) (stops stops' : Stops E) → ((x : A) → ok' x → ok x) → ((x : A) → ok x → ok' x) → ((before : List ℕ) (at : Limits) (up : NumberFault → E) → stops' before at up → stops before at up) → ((before : List ℕ) (at : Limits) (up : NumberFault → E) → stops before at up → stops' before at up) → Exact f enc ok stops → Exact f enc ok' stops'
  reworded_exact {A} {E} f enc ok ok' stops stops' to from to_stop from_stop exact = record {
    says = λ p. other p (f p) (exact.says p);
    reads = λ x p rest lawful h. exact.reads x p rest (to x lawful) h;
    refuses = λ p e r. exact.refuses p e (among stops' stops e p r (to_stop r.before r.at r.up r.stop));
  }
    where
      other : (p : ℕ) (r : Result (A × ℕ) E) → Says enc ok stops p r → Says enc ok' stops' p r
      other p (Ok x) h = record { lawful = from x.0 h.lawful; place = h.place; front = h.front }
      other p (Err e) h = among stops stops' e p h (from_stop h.before h.at h.up h.stop)

  -- a reading whose result is changed by f, with g the way back
  pub mapped_exact : {A B E : Type 0} (read : ℕ → Result (A × ℕ) E) (enc : A → List ℕ) (ok : A → Type 0) (stops : Stops E) (f : A → B) (g : B → A) → ((x : A) → ok x → g (f x) ≡ x) → Exact read enc ok stops → Exact (λ p. mapped f (read p)) (λ y. enc (g y)) (λ y. ok (g y) × (f (g y) ≡ y)) stops
  mapped_exact {A} {B} {E} read enc ok stops f g undo exact = record {
    says = λ p. other p (read p) (exact.says p);
    reads = λ y p rest lawful h. ap (mapped f) (exact.reads (g y) p rest lawful.0 h) ∙ ap (λ z. Ok (z, p + length (enc (g y)))) lawful.1;
    refuses = λ p e r. ap (mapped f) (exact.refuses p e r);
  }
    where
      other : (p : ℕ) (r : Result (A × ℕ) E) → Says enc ok stops p r → Says (λ y. enc (g y)) (λ y. ok (g y) × (f (g y) ≡ y)) stops p (mapped f r)
      other p (Ok x) h =
          let back : g (f x.0) ≡ x.0 = undo x.0 h.lawful in
          record {
            lawful = (subst ok (sym back) h.lawful, ap f back);
            place = h.place ∙ ap (λ z. p + length (enc z)) (sym back);
            front = h.front ∙ ap (λ z. enc z ++ drop x.1 bs) (sym back);
          }
      other p (Err e) h = h

  -- a fault that is handed up changes nothing else
  pub lifted_exact : {A E F : Type 0} (read : ℕ → Result (A × ℕ) E) (enc : A → List ℕ) (ok : A → Type 0) (stops : Stops E) (lift : E → F) (lifted : Result (A × ℕ) E → Result (A × ℕ) F) → ((x : A × ℕ) → lifted (Ok x) ≡ Ok x) → ((e : E) → lifted (Err e) ≡ Err (lift e)) → Exact read enc ok stops → Exact (λ p. lifted (read p)) enc ok (LiftedStop lift stops)
  lifted_exact {A} {E} {F} read enc ok stops lift lifted same up exact = record {
    says = λ p. other p (read p) (exact.says p);
    reads = λ x p rest lawful h. ap lifted (exact.reads x p rest lawful h) ∙ same (x, p + length (enc x));
    refuses = λ p e r.
        let below : E = r.stop.below (fault r.why (p + length r.before)) in
        ap lifted (exact.refuses p below (record { before = r.before; at = r.at; up = r.stop.below; why = r.why; rest = r.rest; stop = r.stop.stop; front = r.front; test = r.test; is = refl }))
        ∙ up below
        ∙ ap Err (sym (r.is ∙ ap (λ (u : NumberFault → F). u (fault r.why (p + length r.before))) r.stop.same));
  }
    where
      other : (p : ℕ) (r : Result (A × ℕ) E) → Says enc ok stops p r → Says enc ok (LiftedStop lift stops) p (lifted r)
      other p (Ok x) h = subst (Says enc ok (LiftedStop lift stops) p) (sym (same x)) h
      other p (Err e) h =
          subst (Says enc ok (LiftedStop lift stops) p) (sym (up e))
          (record { before = h.before; at = h.at; up = λ f. lift (h.up f); why = h.why; rest = h.rest; stop = record { below = h.up; same = refl; stop = h.stop }; front = h.front; test = h.test; is = ap lift h.is })

  -- one reading and then another that goes by what the first gave, and whose result shows what that was
  module _ {A B E : Type 0} (f : ℕ → Result (A × ℕ) E) (g : A → ℕ → Result (B × ℕ) E) (encA : A → List ℕ) (okA : A → Type 0) (stopsA : Stops E) (encB : A → B → List ℕ) (okB : A → B → Type 0) (stopsB : A → Stops E) (key : B → A) (shows : (x : A) (y : B) → okB x y → key y ≡ x) (first : Exact f encA okA stopsA) (second : (x : A) → okA x → Exact (g x) (encB x) (okB x) (stopsB x)) where
    abbrev both_enc : B → List ℕ
    both_enc y = encA (key y) ++ encB (key y) y

    abbrev both_ok : B → Type 0
    both_ok y = okA (key y) × okB (key y) y

    abbrev both_stops : Stops E
    both_stops = EitherStop encA okA stopsA stopsB

    by_second : (p : ℕ) (x : A) (m : ℕ) → Read encA okA p x m → (r : Result (B × ℕ) E) → Says (encB x) (okB x) (stopsB x) m r → Says both_enc both_ok both_stops p r
    by_second p x m one (Ok y) two =
        let back : x ≡ key y.0 = sym (shows x y.0 two.lawful) in
        record {
          lawful = subst (λ d. okA d × okB d y.0) back (one.lawful, two.lawful);
          place = two.place ∙ far p m (encA x) (encB x y.0) one.place ∙ ap (λ d. p + length (encA d ++ encB d y.0)) back;
          front = joins bs p m (encA x) (encB x y.0) (drop y.1 bs) one.front two.front ∙ ap (λ d. (encA d ++ encB d y.0) ++ drop y.1 bs) back;
        }
    by_second p x m one (Err e) two = from_before (stopsB x) both_stops e p m (encA x) one.place one.front two (in_second x two.before one.lawful refl two.stop)

    by_first : (p : ℕ) (r : Result (A × ℕ) E) → Says encA okA stopsA p r → Says both_enc both_ok both_stops p (and_then r g)
    by_first p (Ok x) one = by_second p x.0 x.1 one (g x.0 x.1) ((second x.0 one.lawful).says x.1)
    by_first p (Err e) one = among stopsA both_stops e p one (in_first one.stop)

    -- past the first
    past : (p : ℕ) (x : A) (rest : List ℕ) → okA x → drop p bs ≡ encA x ++ rest → and_then (f p) g ≡ g x (p + length (encA x))
    past p x rest lawful h = ap (λ r. and_then r g) (first.reads x p rest lawful h)

    by_stop : (p : ℕ) (e : E) (r : Refused both_stops p e) → both_stops r.before r.at r.up → and_then (f p) g ≡ Err e
    by_stop p e r (in_first s) = ap (λ z. and_then z g) (first.refuses p e (among both_stops stopsA e p r s))
    by_stop p e r (in_second x more lawful split s) =
        past p x (more ++ r.rest) lawful (parted bs p (encA x) more r.rest r.before split r.front)
        ∙ (second x lawful).refuses (p + length (encA x)) e (from_behind both_stops (stopsB x) e p (encA x) more r split s)

    pub chosen_exact : Exact (λ p. and_then (f p) g) (λ y. encA (key y) ++ encB (key y) y) (λ y. okA (key y) × okB (key y) y) (EitherStop encA okA stopsA stopsB)
    chosen_exact = record {
      says = λ p. by_first p (f p) (first.says p);
      reads = λ y p rest lawful h.
          let x : A = key y in
          let q : ℕ = p + length (encA x) in
          let split : drop p bs ≡ encA x ++ (encB x y ++ rest) = h ∙ append_assoc (encA x) (encB x y) rest in
          past p x (encB x y ++ rest) lawful.0 split
          ∙ (second x lawful.0).reads y q rest lawful.1 (behind bs p (encA x) (encB x y ++ rest) split)
          ∙ ap (λ n. Ok (y, n)) (far p q (encA x) (encB x y) refl);
      refuses = λ p e r. by_stop p e r r.stop;
    }
