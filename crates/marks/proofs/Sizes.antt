-- How many marks of a set lie below a bound.
use Rattle.std.proofs.Common.{◌≡◌, ℕ, zero, suc, ◌+◌, ◌-◌, ◌/◌, ◌%◌, ◌^◌, ◌<◌, ◌≤◌, Bool, false, cond, eqb, sym, refl, ap, ◌∙◌, ap₂, add-zero, add_assoc, add-suc, pow-suc, zero-add, one-add, arith}
use lib.Count.{ones, ones_step}
use Rattle.std.proofs.lemmas.Bool.{cond_both}
use Rattle.marks.specs.Sets.{Marks, ◌∈◌, size}
use Rattle.marks.specs.Words.{bit}
use Rattle.marks.proofs.Bits.{bit_low, bit_suc}
use Rattle.marks.proofs.Sets.{is_false}

pub size_le : (w : ℕ) (S : Marks) → size w S ≤ w
unfolding size
size_le zero S = omega arith
size_le (suc w) S =
    let ih = size_le w S in
    cond_both (S w) 1 0 (λ x. size w S + x ≤ suc w) (λ e. omega arith) (λ e. omega arith)

pub size_same : (w : ℕ) (S S' : Marks) → ((k : ℕ) → k < w → S k ≡ S' k) → size w S ≡ size w S'
unfolding size
size_same zero S S' h = refl
size_same (suc w) S S' h =
    ap₂ (λ (x : ℕ) (b : Bool). x + cond b 1 0) (size_same w S S' (λ k l. h k (omega arith))) (h w (omega arith))

pub size_add : (a b : ℕ) (S : Marks) → size (a + b) S ≡ size a S + size b (λ k. S (a + k))
unfolding size
size_add a zero S = ap (λ (w : ℕ). size w S) (add-zero a) ∙ sym (add-zero (size a S))
size_add a (suc b) S =
    ap (λ (w : ℕ). size w S) (add-suc a b) ∙ ap (λ (x : ℕ). x + cond (S (a + b)) 1 0) (size_add a b S)
    ∙ add_assoc (size a S) (size b (λ k. S (a + k))) (cond (S (a + b)) 1 0)

size_none : (w : ℕ) (S : Marks) → ((k : ℕ) → k < w → S k ≡ false) → size w S ≡ 0
unfolding size
size_none zero S h = refl
size_none (suc w) S h =
    ap₂ (λ (x : ℕ) (b : Bool). x + cond b 1 0) (size_none w S (λ k l. h k (omega arith))) (h w (omega arith))

-- nothing lies from a up to w
pub size_gap : (a w : ℕ) (S : Marks) → a ≤ w → ((k : ℕ) → a ≤ k → k < w → k ∈ S → ⊥) → size w S ≡ size a S
size_gap a w S h none =
    let e : a + (w - a) ≡ w = omega arith in
    let z : size (w - a) (λ k. S (a + k)) ≡ 0 =
    size_none (w - a) (λ k. S (a + k)) (λ k l. is_false (S (a + k)) (none (a + k) (omega arith) (omega arith))) in
    ap (λ (n : ℕ). size n S) (sym e) ∙ size_add a (w - a) S ∙ omega arith

-- the set bits of a number below 2 ^ n, counted by the machine and one by one
pub ones_size : (n v : ℕ) → v < 2 ^ n → ones v ≡ size n (bit v)
unfolding ones size
ones_size zero v h = let e : v ≡ 0 = omega arith in ap ones e
ones_size (suc n) v h =
    let f = pow-suc 2 n in
    let first : size (1 + n) (bit v) ≡ size 1 (bit v) + size n (λ k. bit v (1 + k)) = size_add 1 n (bit v) in
    let rest : size n (λ k. bit v (1 + k)) ≡ size n (bit (v / 2)) =
    size_same n (λ k. bit v (1 + k)) (bit (v / 2)) (λ k l. ap (bit v) (one-add k) ∙ bit_suc v k) in
    let ih : ones (v / 2) ≡ size n (bit (v / 2)) = ones_size n (v / 2) (omega arith) in
    let lowest : v % 2 ≡ 0 + cond (bit v 0) 1 0 =
    low (v % 2) (omega arith) ∙ ap (λ b. cond b 1 0) (sym (bit_low v)) ∙ sym (zero-add (cond (bit v 0) 1 0)) in
    ones_step v ∙ ap₂ (λ (x y : ℕ). x + y) lowest (ih ∙ sym rest) ∙ sym first ∙ ap (λ (w : ℕ). size w (bit v)) (one-add n)
  where
    low : (x : ℕ) → x < 2 → x ≡ cond (eqb x 1) 1 0
    low zero h = refl
    low (suc zero) h = refl
    low (suc (suc x)) h = absurd (omega arith)
