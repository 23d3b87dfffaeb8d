-- What stands at a place of the bytes. A reading at a place gives what is read and the place behind it, or a fault.
use Rattle.std.specs.Prelude.{◌≡◌, ℕ, zero, suc, ◌+◌, ◌-◌, ◌*◌, cond, List, [], ◌∷◌, drop, Ok, Err, Result, ◌==◌, nat_lt}
use Rattle.marks.specs.declared.refusal.Refusal.{Refusal}
use Rattle.marks.specs.declared.refusal.Refusal.TheVariants.{BytesEnd, Malformed, OutsideLimit, NotAscending}
use Rattle.tariff.specs.declared.cursor.Reader.{Reader}
use Rattle.tariff.specs.declared.fault.NumberFault.{NumberFault}

-- the bytes that a reader stands in
abbrev pub text : Reader → List ℕ
text r = r.bytes.now

-- a result with the place behind what was read
abbrev pub placed : {A E : Type 0} → Result A E → ℕ → Result (A × ℕ) E
placed (Ok x) q = Ok (x, q)
placed (Err f) q = Err f

-- a reader that was refused at p stays there
abbrev pub Stays : {A E : Type 0} → Result A E → ℕ → ℕ → Type 0
Stays (Ok x) p q = Unit {0}
Stays (Err f) p q = q ≡ p

-- one reading and then another, which goes by what the first gave
abbrev pub and_then : {A B E : Type 0} → Result (A × ℕ) E → (A → ℕ → Result (B × ℕ) E) → Result (B × ℕ) E
and_then (Ok x) next = next x.0 x.1
and_then (Err e) next = Err e

-- what a reading gives, changed by a function
abbrev pub mapped : {A B E : Type 0} → (A → B) → Result (A × ℕ) E → Result (B × ℕ) E
mapped f (Ok x) = Ok (f x.0, x.1)
mapped f (Err e) = Err e

-- k readings, one behind the other; each goes by a state, which what it gives moves on
abbrev pub many : {A E S : Type 0} → (S → ℕ → Result (A × ℕ) E) → (A → S → S) → ℕ → S → ℕ → Result (List A × ℕ) E
many read next zero s p = Ok ([], p)
many read next (suc k) s p = and_then (read s p) (λ x q. mapped (λ xs. x ∷ xs) (many read next k (next x s) q))

-- the third byte of a number, after a and b: it is the last, it is not 0, and the number is at most 65,535
abbrev pub third : ℕ → ℕ → List ℕ → Result (ℕ × ℕ) Refusal
third a b [] = Err BytesEnd
third a b (c ∷ cs) = cond (c == 0) (Err Malformed) (cond (nat_lt c 4) (Ok (a - 128 + 128 * (b - 128) + 16384 * c, 3)) (Err Malformed))

abbrev pub second : ℕ → List ℕ → Result (ℕ × ℕ) Refusal
second a [] = Err BytesEnd
second a (b ∷ bs) = cond (b == 0) (Err Malformed) (cond (nat_lt b 128) (Ok (a - 128 + 128 * b, 2)) (third a b bs))

-- the number at the front of the bytes, and how many bytes it takes
abbrev pub decode : List ℕ → Result (ℕ × ℕ) Refusal
decode [] = Err BytesEnd
decode (a ∷ bs) = cond (nat_lt a 128) (Ok (a, 1)) (second a bs)

abbrev pub fault : Refusal → ℕ → NumberFault
fault why p = record { refusal = why; byte = p }

-- the tests of a number that is well formed: the limit of its place first, then the ascent
abbrev pub tested : ℕ → ℕ → ℕ → ℕ → Result (ℕ × ℕ) Refusal → Result (ℕ × ℕ) NumberFault
tested low high least p (Err why) = Err (fault why p)
tested low high least p (Ok x) =
    cond (nat_lt x.0 low) (Err (fault OutsideLimit p))
    (cond (nat_lt high x.0) (Err (fault OutsideLimit p)) (cond (nat_lt x.0 least) (Err (fault NotAscending p)) (Ok (x.0, p + x.1))))

-- the number that starts at p, which must lie from low to high and not below least; 0 for least asks for no ascent
abbrev pub number_at : ℕ → ℕ → ℕ → List ℕ → ℕ → Result (ℕ × ℕ) NumberFault
number_at low high least bs p = tested low high least p (decode (drop p bs))
