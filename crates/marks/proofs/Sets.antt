-- Sets of marks as tests of numbers.
use Rattle.std.proofs.Common.{◌≡◌, ℕ, ◌+◌, ◌<◌, ◌≤◌, List, [], ◌∷◌, length, get_or, take, ◌∙◌, Bool, true, false, not, ◌&&◌, ◌||◌, T, eqb, sym, refl, ap, subst, arith, eqb→eq, ltb→lt, lt→ltb}
use mathlib.Core.Path.{fun_ext}
use Rattle.std.specs.List.{list_any}
use Rattle.std.proofs.lemmas.List.Folds.{list_any_more}
use Rattle.std.proofs.Math.Bool.{or_comm}
use Rattle.marks.specs.Joins.{joined}
use Rattle.marks.specs.Sets.{Marks, ◌∈◌, ◌⊆◌, below, OfWidth, among, with_mark, without_mark, ◌∪◌, ◌∩◌}

-- a test that came out true, and one that cannot
pub holds : {b : Bool} → b ≡ true → T b
holds e = subst T (sym e) tt

pub fails : {b : Bool} → b ≡ false → T b → ⊥
fails e = subst T e

pub is_true : (b : Bool) → T b → b ≡ true
is_true true t = refl
is_true false t = absurd t

pub is_false : (b : Bool) → (T b → ⊥) → b ≡ false
is_false true f = absurd (f tt)
is_false false f = refl

-- tests that follow from one another are equal
pub same_test : (a b : Bool) → (T a → T b) → (T b → T a) → a ≡ b
same_test true b f g = sym (is_true b (f tt))
same_test false b f g = sym (is_false b g)

-- sets that lie within one another are equal
pub same_sets : {S S' : Marks} → S ⊆ S' → S' ⊆ S → S ≡ S'
same_sets {S} {S'} f g = fun_ext (λ m. same_test (S m) (S' m) (f m) (g m))

pub equal_within : {S S' : Marks} → S ≡ S' → S ⊆ S'
equal_within e m t = subst (λ (X : Marks). m ∈ X) e t

-- a set of a width holds no mark from the width on
pub past_width : (w : ℕ) (S : Marks) → OfWidth w S → (m : ℕ) → w ≤ m → S m ≡ false
past_width w S inside m h = is_false (S m) (λ t. let l : m < w = ltb→lt m w (inside m t) in omega arith)

pub part_inside : (w : ℕ) (S S' : Marks) → OfWidth w S → OfWidth w (S ∩ S')
part_inside w S S' f m = go (S m) (f m)
  where
    go : (b : Bool) → (T b → m ∈ below w) → T (b && S' m) → m ∈ below w
    go true f t = f tt
    go false f t = absurd t

pub with_inside : (w : ℕ) (S : Marks) (k : ℕ) → k < w → OfWidth w S → OfWidth w (with_mark S k)
with_inside w S k l inside m = go (eqb m k) (eqb→eq m k)
  where
    go : (b : Bool) → (T b → m ≡ k) → T (b || S m) → m ∈ below w
    go true e t = let same = e tt in lt→ltb m w (omega arith)
    go false e t = inside m t

pub without_inside : (w : ℕ) (S : Marks) (k : ℕ) → OfWidth w S → OfWidth w (without_mark S k)
without_inside w S k inside m t = go (not (eqb m k)) t
  where
    go : (a : Bool) → T (a && S m) → m ∈ below w
    go true t = inside m t
    go false t = absurd t

pub joined_inside : (on : Bool → Bool → Bool) → on false false ≡ false → (w : ℕ) (S S' : Marks) → OfWidth w S → OfWidth w S' → OfWidth w (joined on S S')
joined_inside on none w S S' f g m = go (S m) (S' m) (f m) (g m)
  where
    go : (a b : Bool) → (T a → m ∈ below w) → (T b → m ∈ below w) → T (on a b) → m ∈ below w
    go true b f g t = f tt
    go false true f g t = g tt
    go false false f g t = absurd (fails none t)

pub both_inside : (w : ℕ) (S S' : Marks) → OfWidth w S → OfWidth w S' → OfWidth w (S ∪ S')
both_inside = joined_inside (λ a b. a || b) refl

-- one mark more of a list
pub among_more : (ms : List ℕ) (i : ℕ) → i < length ms → with_mark (among (take i ms)) (get_or ms i 0) ≡ among (take (i + 1) ms)
among_more ms i h = fun_ext (λ m.
    or_comm (eqb m (get_or ms i 0)) (among (take i ms) m) ∙ ap (λ (b : Bool). b || eqb m (get_or ms i 0)) (any m (take i ms))
    ∙ sym (list_any_more (λ k. eqb m k) ms i 0 h) ∙ sym (any m (take (i + 1) ms)))
  where
    any : (m : ℕ) (ms : List ℕ) → among ms m ≡ list_any (λ k. eqb m k) ms
    any m [] = refl
    any m (k ∷ ks) = ap (λ (b : Bool). eqb m k || b) (any m ks)
