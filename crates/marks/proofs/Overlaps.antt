-- Counting how two sets share out the marks: one word, and one word more.
use Rattle.std.proofs.Common.{◌≡◌, ℕ, ◌+◌, ◌-◌, ◌*◌, ◌^◌, ◌<◌, ◌≤◌, Bool, not, ◌&&◌, ◌||◌, refl, ap, ◌∙◌, arith}
use lib.Bits.{bit_and, bit_or, and_le_l, or_lt}
use lib.Count.{ones}
use Rattle.marks.specs.declared.overlap.Overlap.{Overlap}
use Rattle.marks.specs.Overlaps.{Overlaps}
use Rattle.marks.specs.Sets.{Marks, below, OfWidth, ◌∪◌, ◌∩◌, ◌∖◌, size}
use Rattle.marks.specs.Words.{bit}
use Rattle.marks.proofs.Bits.{bit_of_and, bit_of_or, bit_not}
use Rattle.marks.proofs.Sets.{fails, part_inside, past_width}
use Rattle.marks.proofs.Sizes.{size_le, size_add, size_same, size_gap, ones_size}

ones_both : (a b : ℕ) → a < 2 ^ 64 → ones (bit_and a b) ≡ size 64 (bit a ∩ bit b)
ones_both a b h =
    let l = and_le_l a b in
    ones_size 64 (bit_and a b) (omega arith) ∙ size_same 64 (bit (bit_and a b)) (bit a ∩ bit b) (λ k _. bit_of_and a b k)

ones_less : (a b : ℕ) → a < 2 ^ 64 → b < 2 ^ 64 → ones (bit_and a (2 ^ 64 - 1 - b)) ≡ size 64 (bit a ∖ bit b)
ones_less a b h hb =
    ones_both a (2 ^ 64 - 1 - b) h
    ∙ size_same 64 (bit a ∩ bit (2 ^ 64 - 1 - b)) (bit a ∖ bit b) (λ k l. ap (λ (x : Bool). bit a k && x) (bit_not b k hb l))

pub word_overlaps : (a b used : ℕ) → a < 2 ^ 64 → b < 2 ^ 64 → used < 2 ^ 64
    → Overlaps 64 (bit used) (bit a) (bit b) (record {
      both = ones (bit_and a b);
      neither = ones (bit_and used (2 ^ 64 - 1 - bit_or a b));
      first = ones (bit_and a (2 ^ 64 - 1 - b));
      second = ones (bit_and b (2 ^ 64 - 1 - a));
    })
word_overlaps a b used ha hb hu =
    let either : bit_or a b < 2 ^ 64 = or_lt 64 a b ha hb in
    record {
      both = ones_both a b ha;
      neither =
          ones_less used (bit_or a b) hu either
          ∙ size_same 64 (bit used ∖ bit (bit_or a b)) (bit used ∖ (bit a ∪ bit b)) (λ k l. ap (λ (x : Bool). bit used k && not x) (bit_of_or a b k));
      first = ones_less a b ha hb;
      second = ones_less b a hb ha;
    }

-- a set below the next word, by what one word holds of it
size_word_more : (i : ℕ) (S X : Marks) → ((k : ℕ) → k < 64 → S (64 * i + k) ≡ X k) → size (64 * (i + 1)) S ≡ size (64 * i) S + size 64 X
size_word_more i S X same =
    let e : 64 * (i + 1) ≡ 64 * i + 64 = omega arith in
    ap (λ (n : ℕ). size n S) e ∙ size_add (64 * i) 64 S ∙ ap (λ (x : ℕ). size (64 * i) S + x) (size_same 64 (λ k. S (64 * i + k)) X same)

abbrev pub sum : Overlap → Overlap → Overlap
sum o p = record { both = o.both + p.both; neither = o.neither + p.neither; first = o.first + p.first; second = o.second + p.second }

pub overlaps_more : (i : ℕ) (W S S' V X X' : Marks) (o p : Overlap)
    → ((k : ℕ) → k < 64 → W (64 * i + k) ≡ V k) → ((k : ℕ) → k < 64 → S (64 * i + k) ≡ X k) → ((k : ℕ) → k < 64 → S' (64 * i + k) ≡ X' k)
    → Overlaps (64 * i) W S S' o → Overlaps 64 V X X' p → Overlaps (64 * (i + 1)) W S S' (sum o p)
overlaps_more i W S S' V X X' o p w s s' so_far word =
    let both = size_word_more i (S ∩ S') (X ∩ X') (λ k l. let a = s k l in let b = s' k l in cc) in
    let neither = size_word_more i (W ∖ (S ∪ S')) (V ∖ (X ∪ X')) (λ k l. let a = s k l in let b = s' k l in let c = w k l in cc) in
    let first = size_word_more i (S ∖ S') (X ∖ X') (λ k l. let a = s k l in let b = s' k l in cc) in
    let second = size_word_more i (S' ∖ S) (X' ∖ X) (λ k l. let a = s k l in let b = s' k l in cc) in
    record { both = omega arith; neither = omega arith; first = omega arith; second = omega arith }

pub overlaps_none : (W S S' : Marks) → Overlaps 0 W S S' (record { both = 0; neither = 0; first = 0; second = 0 })
unfolding size
overlaps_none W S S' = record { both = refl; neither = refl; first = refl; second = refl }

-- no share is greater than all that was looked at
pub record Few (n : ℕ) (o : Overlap) : Type 0 where
  pub both : o.both ≤ n
  pub neither : o.neither ≤ n
  pub first : o.first ≤ n
  pub second : o.second ≤ n

pub overlaps_few : (n : ℕ) (W S S' : Marks) (o : Overlap) → Overlaps n W S S' o → Few n o
overlaps_few n W S S' o c =
    let both = size_le n (S ∩ S') in
    let neither = size_le n (W ∖ (S ∪ S')) in
    let first = size_le n (S ∖ S') in
    let second = size_le n (S' ∖ S) in
    record { both = omega arith; neither = omega arith; first = omega arith; second = omega arith }

-- sets of a width have nothing to count behind it
pub overlaps_all : (w n : ℕ) (S S' : Marks) (o : Overlap) → w ≤ n → OfWidth w S → OfWidth w S' → Overlaps n (below w) S S' o → Overlaps w (below w) S S' o
overlaps_all w n S S' o h f g c =
    record {
      both = c.both ∙ cut (S ∩ S') (part_inside w S S' f);
      neither = c.neither ∙ cut (below w ∖ (S ∪ S')) (part_inside w (below w) (λ m. not (S m || S' m)) (λ m t. t));
      first = c.first ∙ cut (S ∖ S') (part_inside w S (λ m. not (S' m)) f);
      second = c.second ∙ cut (S' ∖ S) (part_inside w S' (λ m. not (S m)) g);
    }
  where
    cut : (X : Marks) → OfWidth w X → size n X ≡ size w X
    cut X inside = size_gap w n X h (λ k a l t. fails (past_width w X inside k a) t)
