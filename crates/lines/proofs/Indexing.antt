-- Linked slots make an index.
use Rattle.std.proofs.Common.{◌≡◌, ℕ, zero, suc, ◌+◌, ◌*◌, ◌/◌, ◌%◌, ◌<◌, ◌≤◌, ◌⊎◌, cond, ltb, eqb, Bool, true, false, List, [], ◌∷◌, length, take, get_or, replicate, Some, None, Option, sym, refl, ap, ap₂, ◌∙◌, subst, inl, inr, arith}
use lib.Dec.{eqb→eq, eqb_refl}
use mathlib.Core.List.{Memᴰ}
use Rattle.std.specs.List.{slice_get}
use Rattle.std.proofs.lemmas.Bool.{cond-true, cond-false, cases_lt, lt-ltb, le-ltb}
use Rattle.std.proofs.lemmas.Option.{none-some, same_Some}
use Rattle.marks.specs.declared.set.MarkSet.{MarkSet}
use Rattle.marks.specs.MarkSets.{marks_of}
use Rattle.marks.specs.Sets.{◌∈◌, among}
use Rattle.readings.proofs.Listing.{among_in, in_among}
use Rattle.readings.proofs.Sets.{or_left, or_right, or_cases}
use Rattle.lines.specs.declared.index.Index.{Index}
use Rattle.lines.specs.Indexes.{list_at, named_for, chain, IsIndexOf}
use Rattle.lines.specs.Slots.{narrow, slot_at, Linked}
use Rattle.lines.proofs.Linking.{zeros}
use Rattle.lines.proofs.Chains.{named_slot, slot_named}

-- the slots of lists, eight for each
abbrev pub slots_of : List (List ℕ) → ℕ → Option ℕ
slots_of lists k = slot_at (list_at lists (k / 8)) (k % 8)

pub slots_at : (lists : List (List ℕ)) (i j : ℕ) → j < 8 → slots_of lists (8 * i + j) ≡ slot_at (list_at lists i) j
slots_at lists i j l =
    let q : (8 * i + j) / 8 ≡ i = omega arith in
    let r : (8 * i + j) % 8 ≡ j = omega arith in
    ap₂ (λ (a b : ℕ). slot_at (list_at lists a) b) q r

pub list_there : (lists : List (List ℕ)) (i : ℕ) (ms : List ℕ) → slice_get lists i ≡ Some ms → list_at lists i ≡ ms
list_there [] i ms e = absurd (none-some ms e)
list_there (ks ∷ lists) zero ms e = same_Some ks ms e
list_there (ks ∷ lists) (suc i) ms e = list_there lists i ms e

list_past : (lists : List (List ℕ)) (i : ℕ) → length lists ≤ i → list_at lists i ≡ []
list_past [] i h = refl
list_past (ms ∷ lists) zero h = absurd (omega arith)
list_past (ms ∷ lists) (suc i) h = list_past lists i (omega arith)

-- the places of the marks of a list
place_of : (n m : ℕ) (ms : List ℕ) → m ∈ among (take n ms) → (j : ℕ) × ((j < n) × (slice_get ms j ≡ Some m))
place_of zero m ms t = absurd t
place_of (suc n) m [] t = absurd t
place_of (suc n) m (k ∷ ks) t =
    elim (or_cases (eqb m k) (among (take n ks) m) t) [
      | inl e ↦ (zero, (omega arith, ap (λ (x : ℕ). Some x) (sym (eqb→eq m k e))))
      | inr u ↦ let p = place_of n m ks u in (suc p.0, (let l = p.1.0 in omega arith, p.1.1))
    ]

of_place : (n m : ℕ) (ms : List ℕ) (j : ℕ) → j < n → slice_get ms j ≡ Some m → m ∈ among (take n ms)
of_place zero m ms j l e = absurd (omega arith)
of_place (suc n) m [] j l e = absurd (none-some m e)
of_place (suc n) m (k ∷ ks) zero l e = or_left (eqb m k) (among (take n ks) m) (subst (λ (x : ℕ). Rattle.std.proofs.Common.T (eqb m x)) (sym (same_Some k m e)) (eqb_refl m))
of_place (suc n) m (k ∷ ks) (suc j) l e = or_right (eqb m k) (among (take n ks) m) (of_place n m ks j (omega arith) e)

pub narrow_below : (o : Option ℕ) (m : ℕ) → o ≡ Some m → m < 512 → narrow o ≡ Some m
narrow_below o m e l = ap narrow e ∙ cond-true (ltb m 512) (Some m) None (lt-ltb m 512 l)

pub narrow_past : (o : Option ℕ) (m : ℕ) → o ≡ Some m → 512 ≤ m → narrow o ≡ None
narrow_past o m e h = ap narrow e ∙ cond-false (ltb m 512) (Some m) None (le-ltb m 512 h)

narrow_some : (o : Option ℕ) (m : ℕ) → narrow o ≡ Some m → o ≡ Some m
narrow_some None m e = e
narrow_some (Some k) m e =
    elim (cases_lt k 512) [
      | inl l ↦ sym (narrow_below (Some k) k refl l) ∙ e
      | inr h ↦ absurd (none-some m (sym (narrow_past (Some k) k refl h) ∙ e))
    ]

-- the index of no lists
pub none_named : {M : ℕ} (index : Index M) → index.last ≡ replicate 512 0 → IsIndexOf index []
none_named index e =
    let none : (m : ℕ) → named_for index m ≡ [] =
    λ m.
    ap (λ (n : ℕ). chain index.before n n) (ap (λ (xs : List ℕ). get_or xs m 0) e ∙ zeros 512 m) in
    record {
      all = λ i m r f l t. absurd t;
      only = λ i m t. absurd (subst (λ (is : List ℕ). i ∈ among is) (none m) t);
      marked = λ i m s t e l. absurd (subst (λ (is : List ℕ). i ∈ among is) (none m) t);
    }

-- the index of the first n lists, which are all of them or all that there is room for
module _ {M : ℕ} (index : Index M) (lists : List (List ℕ)) (n : ℕ) (linked : Linked (slots_of lists) (8 * n) index.last index.before)
    (marks : (m : ℕ) (s : MarkSet) → index.marked ≡ Some s → m < s.width → 0 < get_or index.last m 0 → m ∈ marks_of s)
    (room : (i : ℕ) → 8 * i + 8 ≤ M → i < 8191 → i < length lists → i < n) where
  in_lists : (i m : ℕ) → m ∈ among (take 8 (list_at lists i)) → i < length lists
  in_lists i m t =
      elim (cases_lt i (length lists)) [
        | inl l ↦ l
        | inr h ↦ absurd (subst (λ (ms : List ℕ). m ∈ among (take 8 ms)) (list_past lists i h) t)
      ]

  pub is_index : IsIndexOf index lists
  is_index =
      record {
        all = λ i m r f l t.
            let p = place_of 8 m (list_at lists i) t in
            let low = p.1.0 in
            let e = slots_at lists i p.0 low ∙ narrow_below (slice_get (list_at lists i) p.0) m p.1.1 l in
            let below = room i r f (in_lists i m t) in
            let q : (8 * i + p.0) / 8 ≡ i = omega arith in
            among_in (named_for index m)
            (subst (λ (x : ℕ). Memᴰ x (named_for index m)) q
            (named_slot (slots_of lists) (8 * n) index.last index.before linked m (8 * i + p.0) (omega arith) e));
        only = λ i m t.
            let s = slot_named (slots_of lists) (8 * n) index.last index.before linked m i (in_among i (named_for index m) t) in
            let low : s.0 % 8 < 8 = omega arith in
            subst (λ (x : ℕ). m ∈ among (take 8 (list_at lists x))) (sym s.1.2)
            (of_place 8 m (list_at lists (s.0 / 8)) (s.0 % 8) low (narrow_some (slice_get (list_at lists (s.0 / 8)) (s.0 % 8)) m s.1.1));
        marked = λ i m s t e l.
            marks m s e l
            (elim (cases_lt 0 (get_or index.last m 0)) [
              | inl some ↦ some
              | inr none ↦
                  let z : get_or index.last m 0 ≡ 0 = omega arith in
                  absurd (subst (λ (k : ℕ). i ∈ among (chain index.before k k)) z t)
            ]);
      }
