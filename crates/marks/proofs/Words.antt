-- The marks that words hold: after a write, a word at a time, from a place on.
use Rattle.std.proofs.Common.{◌≡◌, ℕ, zero, suc, ◌+◌, ◌-◌, ◌*◌, ◌/◌, ◌%◌, ◌^◌, ◌<◌, ◌≤◌, Bool, true, false, cond, not, ◌&&◌, ◌||◌, T, eqb, ◌⊎◌, List, [], ◌∷◌, length, sum_by, get_or, set, replicate, sym, refl, ap, ◌∙◌, ap₂, subst, inl, inr, ⊎_elim, arith, get_or-set_other, get_or-set_same}
use mathlib.Core.Path.{fun_ext}
use lib.Bits.{bit_and, bit_or, and_le_l}
use lib.Count.{ones, count_trailing_zeros}
use lib.ListN.{get_or-eq_default}
use Rattle.std.proofs.lemmas.Nat.{one_shl, shr_le}
use Rattle.std.proofs.lemmas.List.Sums.{sum_by-cons}
use Rattle.std.proofs.lemmas.Bool.{cases_eq, cases_lt, eq-eqb, ne_eqb, both_ways}
use Rattle.std.proofs.lemmas.Bool.Decides.{nat_tests}
use Rattle.std.specs.Array.{IsFromFnResult, IsFromFnResultFrom}
use denote.Param.Members.{Mut, Called}
use Rattle.marks.specs.Sets.{Marks, ◌∈◌, no_marks, with_mark, without_mark, size}
use Rattle.marks.specs.Words.{bit, held}
use Rattle.marks.proofs.Bits.{bit_zero, bit_of_and, bit_of_or, bit_pow, bit_not, bit_shr, bit_high, bits_eq, trailing_at, trailing_below}
use Rattle.marks.proofs.Sets.{holds, is_true, is_false}
use Rattle.marks.proofs.Sizes.{size_add, size_same, ones_size}

-- words of zeros hold nothing
pub held_zeros : (n : ℕ) → held (replicate n 0) ≡ no_marks
held_zeros n = fun_ext (λ m. ap (λ (x : ℕ). bit x (m % 64)) (zeros n (m / 64)) ∙ bit_zero (m % 64))
  where
    zeros : (n i : ℕ) → get_or {A = ℕ} (replicate n 0) i 0 ≡ 0
    zeros zero i = refl
    zeros (suc n) zero = refl
    zeros (suc n) (suc i) = zeros n i

-- nothing is held past the last word
pub held_past : (ws : List ℕ) (m : ℕ) → length ws ≤ m / 64 → held ws m ≡ false
held_past ws m h = ap (λ (x : ℕ). bit x (m % 64)) (get_or-eq_default ws 0 h) ∙ bit_zero (m % 64)

-- a word written at a place
held_set : (ws : List ℕ) (i v k : ℕ) → i < length ws → held (set ws i v) k ≡ cond (eqb (k / 64) i) (bit v (k % 64)) (held ws k)
held_set ws i v k h = go (cases_eq (k / 64) i)
  where
    go : (k / 64 ≡ i) ⊎ (k / 64 ≡ i → ⊥) → held (set ws i v) k ≡ cond (eqb (k / 64) i) (bit v (k % 64)) (held ws k)
    go (inl e) =
        ap (λ (x : ℕ). bit x (k % 64)) (ap (λ (x : ℕ). get_or (set ws i v) x 0) e ∙ get_or-set_same ws i v 0 h)
        ∙ ap (λ (b : Bool). cond b (bit v (k % 64)) (held ws k)) (sym (eq-eqb (k / 64) i e))
    go (inr ne) =
        ap (λ (x : ℕ). bit x (k % 64)) (get_or-set_other ws i (k / 64) v 0 ne)
        ∙ ap (λ (b : Bool). cond b (bit v (k % 64)) (held ws k)) (sym (ne_eqb (k / 64) i ne))

-- `words[m / 64] |= 1 << (m % 64)`
held_insert : (ws : List ℕ) (m k : ℕ) → m / 64 < length ws
    → held (set ws (m / 64) (bit_or (get_or ws (m / 64) 0) (1 * 2 ^ (m % 64) % 2 ^ 64))) k ≡ (eqb k m || held ws k)
held_insert ws m k h =
    let w = get_or ws (m / 64) 0 in
    let flag : bit (1 * 2 ^ (m % 64) % 2 ^ 64) (k % 64) ≡ eqb (k % 64) (m % 64) =
    ap (λ (x : ℕ). bit x (k % 64)) (one_shl (m % 64) 64 (omega arith)) ∙ bit_pow (m % 64) (k % 64) in
    held_set ws (m / 64) (bit_or w (1 * 2 ^ (m % 64) % 2 ^ 64)) k h
    ∙ ap (λ (b : Bool). cond (eqb (k / 64) (m / 64)) b (held ws k)) (bit_of_or w (1 * 2 ^ (m % 64) % 2 ^ 64) (k % 64) ∙ ap (λ (b : Bool). bit w (k % 64) || b) flag)
    ∙ go (cases_eq (k / 64) (m / 64))
  where
    go : (k / 64 ≡ m / 64) ⊎ (k / 64 ≡ m / 64 → ⊥)
        → cond (eqb (k / 64) (m / 64)) (bit (get_or ws (m / 64) 0) (k % 64) || eqb (k % 64) (m % 64)) (held ws k) ≡ (eqb k m || held ws k)
    go (inl e) = let f : get_or ws (k / 64) 0 ≡ get_or ws (m / 64) 0 = ap (λ (x : ℕ). get_or ws x 0) e in grind (arith, nat_tests)
    go (inr ne) = grind (arith, nat_tests)

pub held_put : (ws : List ℕ) (m : ℕ) → m / 64 < length ws → held (set ws (m / 64) (bit_or (get_or ws (m / 64) 0) (1 * 2 ^ (m % 64) % 2 ^ 64))) ≡ with_mark (held ws) m
held_put ws m h = fun_ext (λ k. held_insert ws m k h)

-- `words[m / 64] &= !(1 << (m % 64))`
held_remove : (ws : List ℕ) (m k : ℕ) → m / 64 < length ws
    → held (set ws (m / 64) (bit_and (get_or ws (m / 64) 0) (2 ^ 64 - 1 - 1 * 2 ^ (m % 64) % 2 ^ 64))) k ≡ (not (eqb k m) && held ws k)
held_remove ws m k h =
    let w = get_or ws (m / 64) 0 in
    let v = 1 * 2 ^ (m % 64) % 2 ^ 64 in
    let flag : bit (2 ^ 64 - 1 - v) (k % 64) ≡ not (eqb (k % 64) (m % 64)) =
    bit_not v (k % 64) (omega arith) (omega arith)
    ∙ ap (λ (x : ℕ). not (bit x (k % 64))) (one_shl (m % 64) 64 (omega arith)) ∙ ap not (bit_pow (m % 64) (k % 64)) in
    held_set ws (m / 64) (bit_and w (2 ^ 64 - 1 - v)) k h
    ∙ ap (λ (b : Bool). cond (eqb (k / 64) (m / 64)) b (held ws k)) (bit_of_and w (2 ^ 64 - 1 - v) (k % 64) ∙ ap (λ (b : Bool). bit w (k % 64) && b) flag)
    ∙ go (cases_eq (k / 64) (m / 64))
  where
    go : (k / 64 ≡ m / 64) ⊎ (k / 64 ≡ m / 64 → ⊥)
        → cond (eqb (k / 64) (m / 64)) (bit (get_or ws (m / 64) 0) (k % 64) && not (eqb (k % 64) (m % 64))) (held ws k) ≡ (not (eqb k m) && held ws k)
    go (inl e) = let f : get_or ws (k / 64) 0 ≡ get_or ws (m / 64) 0 = ap (λ (x : ℕ). get_or ws x 0) e in grind (arith, nat_tests)
    go (inr ne) = grind (arith, nat_tests)

pub held_take : (ws : List ℕ) (m : ℕ) → m / 64 < length ws → held (set ws (m / 64) (bit_and (get_or ws (m / 64) 0) (2 ^ 64 - 1 - 1 * 2 ^ (m % 64) % 2 ^ 64))) ≡ without_mark (held ws) m
held_take ws m h = fun_ext (λ k. held_remove ws m k h)

-- the marks of the word i
pub held_word : (ws : List ℕ) (i k : ℕ) → k < 64 → held ws (64 * i + k) ≡ bit (get_or ws i 0) k
held_word ws i k l = ap₂ (λ (x y : ℕ). bit (get_or ws x 0) y) (omega arith) (omega arith)

-- eight words, each made by a call at its index, hold the marks of S if each call gives the marks of its word
module _ {F : Type 0} {g : Mut F (ℕ × Unit {0}) ℕ} {f : F} (S : Marks) (ws : List ℕ)
    (step : (i v : ℕ) (f' : F) → Called g f (i, tt) v f' → (f' ≡ f) × ((k : ℕ) → k < 64 → bit v k ≡ S (64 * i + k))) where
  made_from : (n i : ℕ) → IsFromFnResultFrom g f ws i n → (j k : ℕ) → i ≤ j → j < i + n → k < 64 → bit (get_or ws j 0) k ≡ S (64 * j + k)
  made_from zero i all j k h l b = absurd (omega arith)
  made_from (suc n) i (f', v, at, call, all) j k h l b =
      let one = step i v f' call in
      ⊎_elim (λ e. ap (λ (x : ℕ). bit (get_or ws x 0) k) e ∙ ap (λ (x : ℕ). bit x k) (at.1 0) ∙ one.1 k b ∙ ap (λ (x : ℕ). S (64 * x + k)) (sym e))
      (λ ne. made_from n (i + 1) (subst (λ (p : F). IsFromFnResultFrom g p ws (i + 1) n) one.0 all) j k (omega arith) (omega arith) b)
      (cases_eq j i)

  pub made_held : IsFromFnResult g f ws 8 → ((m : ℕ) → 512 ≤ m → S m ≡ false) → held ws ≡ S
  made_held all none = fun_ext (λ m. ⊎_elim (below m) (past m) (cases_lt m 512))
    where
      below : (m : ℕ) → m < 512 → held ws m ≡ S m
      below m l = made_from 8 0 all.each (m / 64) (m % 64) (omega arith) (omega arith) (omega arith) ∙ ap S (let e : 64 * (m / 64) + m % 64 ≡ m = omega arith in e)

      past : (m : ℕ) → 512 ≤ m → held ws m ≡ S m
      past m h = let n = all.long in held_past ws m (omega arith) ∙ sym (none m h)

-- two sets that hold the same have the same words
pub words_same : (xs ys : List ℕ) (i : ℕ) → get_or xs i 0 < 2 ^ 64 → get_or ys i 0 < 2 ^ 64 → held xs ≡ held ys → get_or xs i 0 ≡ get_or ys i 0
words_same xs ys i hx hy same =
    bits_eq 64 (get_or xs i 0) (get_or ys i 0) hx hy (λ k l. sym (held_word xs i k l) ∙ ap (λ (S : Marks). S (64 * i + k)) same ∙ held_word ys i k l)

-- where no bit of a lies outside b, every bit of a is one of b
pub word_within : (a b k : ℕ) → b < 2 ^ 64 → k < 64 → bit_and a (2 ^ 64 - 1 - b) ≡ 0 → k ∈ bit a → k ∈ bit b
word_within a b k hb hk z t = holds (go (bit a k) (bit b k) (is_true (bit a k) t) none)
  where
    none : (bit a k && not (bit b k)) ≡ false
    none = ap (λ (x : Bool). bit a k && x) (sym (bit_not b k hb hk)) ∙ sym (bit_of_and a (2 ^ 64 - 1 - b) k) ∙ ap (λ (x : ℕ). bit x k) z ∙ bit_zero k

    go : (x y : Bool) → x ≡ true → (x && not y) ≡ false → y ≡ true
    go x y e f = grind (arith, nat_tests)

-- and where every bit of a is one of b, none lies outside
pub word_no_more : (a b : ℕ) → a < 2 ^ 64 → b < 2 ^ 64 → ((k : ℕ) → k < 64 → k ∈ bit a → k ∈ bit b) → bit_and a (2 ^ 64 - 1 - b) ≡ 0
word_no_more a b ha hb within = bits_eq 64 (bit_and a (2 ^ 64 - 1 - b)) 0 small (omega arith) (λ k h. here k h ∙ sym (bit_zero k))
  where
    go : (x y : Bool) → (T x → T y) → T (x && not y) → ⊥
    go true true f t = t
    go true false f t = f tt
    go false y f t = t

    small : bit_and a (2 ^ 64 - 1 - b) < 2 ^ 64
    small = let l = and_le_l a (2 ^ 64 - 1 - b) in omega arith

    here : (k : ℕ) → k < 64 → bit (bit_and a (2 ^ 64 - 1 - b)) k ≡ false
    here k h =
        bit_of_and a (2 ^ 64 - 1 - b) k ∙ ap (λ (x : Bool). bit a k && x) (bit_not b k hb h)
        ∙ is_false (bit a k && not (bit b k)) (λ t. go (bit a k) (bit b k) (within k h) t)

-- the marks from `from` to the end of its word are the digits of what is left of that word
held_from : (ws : List ℕ) (from k : ℕ) → from ≤ k → k / 64 ≡ from / 64 → held ws k ≡ bit (get_or ws (from / 64) 0 / 2 ^ (from % 64)) (k - from)
held_from ws from k h e =
    let f : k % 64 ≡ from % 64 + (k - from) = omega arith in
    ap₂ (λ (x y : ℕ). bit (get_or ws x 0) y) e f ∙ sym (bit_shr (get_or ws (from / 64) 0) (from % 64) (k - from))

pub none_left : (ws : List ℕ) (from k : ℕ) → get_or ws (from / 64) 0 / 2 ^ (from % 64) ≡ 0 → from ≤ k → k < (from / 64 + 1) * 64 → held ws k ≡ false
none_left ws from k z h l = held_from ws from k h (omega arith) ∙ ap (λ (x : ℕ). bit x (k - from)) z ∙ bit_zero (k - from)

module _ (ws : List ℕ) (from : ℕ) (small : get_or ws (from / 64) 0 < 2 ^ 64) (some : 0 < get_or ws (from / 64) 0 / 2 ^ (from % 64)) where
  lead_held : bit (get_or ws (from / 64) 0 / 2 ^ (from % 64)) (count_trailing_zeros 64 (get_or ws (from / 64) 0 / 2 ^ (from % 64))) ≡ true
  lead_held =
      let n = get_or ws (from / 64) 0 / 2 ^ (from % 64) in
      let le = shr_le (get_or ws (from / 64) 0) (from % 64) in
      trailing_at n some (omega arith)

  lead_inside : from % 64 + count_trailing_zeros 64 (get_or ws (from / 64) 0 / 2 ^ (from % 64)) < 64
  lead_inside =
      let w = get_or ws (from / 64) 0 in
      let t = count_trailing_zeros 64 (w / 2 ^ (from % 64)) in
      ⊎_elim (λ h. h)
      (λ (h : 64 ≤ from % 64 + t). absurd (both_ways (bit w (from % 64 + t)) (bit_high 64 w (from % 64 + t) small h) (sym (bit_shr w (from % 64) t) ∙ lead_held)))
      (cases_lt (from % 64 + t) 64)

  pub lead_is : held ws (from + count_trailing_zeros 64 (get_or ws (from / 64) 0 / 2 ^ (from % 64))) ≡ true
  lead_is =
      let n = get_or ws (from / 64) 0 / 2 ^ (from % 64) in
      let i = lead_inside in
      let e : from + count_trailing_zeros 64 n - from ≡ count_trailing_zeros 64 n = omega arith in
      held_from ws from (from + count_trailing_zeros 64 n) (omega arith) (omega arith) ∙ ap (bit n) e ∙ lead_held

  pub lead_first : (k : ℕ) → from ≤ k → k < from + count_trailing_zeros 64 (get_or ws (from / 64) 0 / 2 ^ (from % 64)) → held ws k ≡ false
  lead_first k h l =
      let n = get_or ws (from / 64) 0 / 2 ^ (from % 64) in
      let i = lead_inside in
      held_from ws from k h (omega arith) ∙ trailing_below n some (omega arith) (k - from) (omega arith)

-- words hold as many marks as they have ones
pub ones_held : (ws : List ℕ) → ((i : ℕ) → get_or ws i 0 < 2 ^ 64) → sum_by ones ws ≡ size (64 * length ws) (held ws)
unfolding size
ones_held [] fits = refl
ones_held (x ∷ xs) fits =
    let n = length xs in
    let e : 64 * length (x ∷ xs) ≡ 64 + 64 * n = omega arith in
    sum_by-cons ones x xs
    ∙ ap₂ (λ (a b : ℕ). a + b) (ones_size 64 x (fits 0) ∙ size_same 64 (bit x) (held (x ∷ xs)) front)
    (ones_held xs (λ i. fits (suc i)) ∙ size_same (64 * n) (held xs) (λ k. held (x ∷ xs) (64 + k)) behind)
    ∙ sym (ap (λ (w : ℕ). size w (held (x ∷ xs))) e ∙ size_add 64 (64 * n) (held (x ∷ xs)))
  where
    front : (k : ℕ) → k < 64 → bit x k ≡ held (x ∷ xs) k
    front k l = sym (ap₂ (λ (i j : ℕ). bit (get_or (x ∷ xs) i 0) j) (let h : k / 64 ≡ 0 = omega arith in h) (let h : k % 64 ≡ k = omega arith in h))

    behind : (k : ℕ) → k < 64 * length xs → held xs k ≡ held (x ∷ xs) (64 + k)
    behind k l =
        sym (ap₂ (λ (i j : ℕ). bit (get_or (x ∷ xs) i 0) j) (let h : (64 + k) / 64 ≡ suc (k / 64) = omega arith in h) (let h : (64 + k) % 64 ≡ k % 64 = omega arith in h))
