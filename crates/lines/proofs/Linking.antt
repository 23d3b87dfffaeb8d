-- Linked slots: none, one more, and slots without a mark.
use Rattle.std.proofs.Common.{◌≡◌, ℕ, ◌+◌, ◌-◌, ◌<◌, ◌≤◌, ◌⊎◌, List, length, get_or, set, replicate, Some, None, Option, sym, ap, ◌∙◌, subst, inl, inr, arith, get_or-set_same, get_or-set_other}
use Rattle.std.proofs.lemmas.Bool.{cases_lt, cases_eq}
use Rattle.std.proofs.lemmas.List.{get_or-replicate, get_or_past, length-replicate}
use Rattle.std.proofs.lemmas.Option.{none-some, same_Some}
use Rattle.lines.specs.Slots.{Linked}

pub zeros : (n m : ℕ) → ◌≡◌ {A = ℕ} (get_or (replicate n 0) m 0) 0
zeros n m =
    elim (cases_lt m n) [
      | inl l ↦ get_or-replicate n m 0 0 l
      | inr g ↦ get_or_past (replicate n 0) m 0 (let e : length (replicate {A = ℕ} n 0) ≡ n = length-replicate n 0 in omega arith)
    ]

pub linked_none : (slot : ℕ → Option ℕ) (n : ℕ) (before : List ℕ) → Linked slot 0 (replicate n 0) before
linked_none slot n before =
    record {
      last_high = λ m k h e. absurd (omega arith);
      last_in = λ m h. let z = zeros n m in absurd (omega arith);
      before_high = λ m j k l h e f. absurd (omega arith);
      before_in = λ m k h e p. absurd (omega arith);
    }

module _ (slot : ℕ → Option ℕ) (n m : ℕ) (last before : List ℕ) (here : slot n ≡ Some m) (mark : m < length last) (room : n < length before) (l : Linked slot n last before) where
  abbrev last' : List ℕ
  last' = set last m (n + 1)

  abbrev before' : List ℕ
  before' = set before n (get_or last m 0)

  last_same : get_or last' m 0 ≡ n + 1
  last_same = get_or-set_same last m (n + 1) 0 mark

  last_other : (k : ℕ) → (k ≡ m → ⊥) → get_or last' k 0 ≡ get_or last k 0
  last_other k ne = get_or-set_other last m k (n + 1) 0 ne

  before_same : get_or before' n 0 ≡ get_or last m 0
  before_same = get_or-set_same before n (get_or last m 0) 0 room

  before_other : (k : ℕ) → (k ≡ n → ⊥) → get_or before' k 0 ≡ get_or before k 0
  before_other k ne = get_or-set_other before n k (get_or last m 0) 0 ne

  -- the slot n has no other mark
  mark_here : (k p : ℕ) → slot k ≡ Some p → k ≡ n → p ≡ m
  mark_here k p e is = same_Some p m (sym e ∙ ap slot is ∙ here)

  last_high' : (p k : ℕ) → (p ≡ m) ⊎ (p ≡ m → ⊥) → k < n + 1 → slot k ≡ Some p → k < get_or last' p 0
  last_high' p k (inl is) h e = subst (λ (x : ℕ). k < get_or last' x 0) (sym is) (let s = last_same in omega arith)
  last_high' p k (inr ne) h e =
      elim (cases_lt k n) [
        | inl lt ↦ let o = last_other p ne in let b = l.last_high p k lt e in omega arith
        | inr ge ↦ let is : k ≡ n = omega arith in absurd (ne (mark_here k p e is))
      ]

  last_in' : (p : ℕ) → (p ≡ m) ⊎ (p ≡ m → ⊥) → 0 < get_or last' p 0 → (get_or last' p 0 ≤ n + 1) × (slot (get_or last' p 0 - 1) ≡ Some p)
  last_in' p (inl is) h =
      subst (λ (x : ℕ). (get_or last' x 0 ≤ n + 1) × (slot (get_or last' x 0 - 1) ≡ Some x)) (sym is)
      (let s = last_same in (omega arith, let back : get_or last' m 0 - 1 ≡ n = omega arith in ap slot back ∙ here))
  last_in' p (inr ne) h =
      let o = last_other p ne in
      let pos : 0 < get_or last p 0 = omega arith in
      let b = l.last_in p pos in
      (let c = b.0 in omega arith, ap (λ (x : ℕ). slot (x - 1)) o ∙ b.1)

  before_high' : (p j k : ℕ) → (k ≡ n) ⊎ (k ≡ n → ⊥) → j < k → k < n + 1 → slot k ≡ Some p → slot j ≡ Some p → j < get_or before' k 0
  before_high' p j k (inl is) lt h e f =
      let q = mark_here k p e is in
      subst (λ (x : ℕ). j < get_or before' x 0) (sym is)
      (let s = before_same in let b = l.last_high m j (omega arith) (f ∙ ap (λ (x : ℕ). Some x) q) in omega arith)
  before_high' p j k (inr ne) lt h e f =
      let o = before_other k ne in let b = l.before_high p j k lt (omega arith) e f in omega arith

  before_in' : (p k : ℕ) → (k ≡ n) ⊎ (k ≡ n → ⊥) → k < n + 1 → slot k ≡ Some p → 0 < get_or before' k 0 → (get_or before' k 0 ≤ k) × (slot (get_or before' k 0 - 1) ≡ Some p)
  before_in' p k (inl is) h e pos =
      let q = mark_here k p e is in
      let s : get_or before' k 0 ≡ get_or last m 0 = ap (λ (x : ℕ). get_or before' x 0) is ∙ before_same in
      let pos' : 0 < get_or last m 0 = omega arith in
      let b = l.last_in m pos' in
      (let c = b.0 in omega arith, ap (λ (x : ℕ). slot (x - 1)) s ∙ b.1 ∙ ap (λ (x : ℕ). Some x) (sym q))
  before_in' p k (inr ne) h e pos =
      let o = before_other k ne in
      let pos' : 0 < get_or before k 0 = omega arith in
      let b = l.before_in p k (omega arith) e pos' in
      (let c = b.0 in omega arith, ap (λ (x : ℕ). slot (x - 1)) o ∙ b.1)

  pub linked_more : Linked slot (n + 1) last' before'
  linked_more =
      record {
        last_high = λ p k h e. last_high' p k (cases_eq p m) h e;
        last_in = λ p h. last_in' p (cases_eq p m) h;
        before_high = λ p j k lt h e f. before_high' p j k (cases_eq k n) lt h e f;
        before_in = λ p k h e pos. before_in' p k (cases_eq k n) h e pos;
      }

-- a slot without a mark needs no link
module _ (slot : ℕ → Option ℕ) (n : ℕ) (last before : List ℕ) (none : slot n ≡ None) (l : Linked slot n last before) where
  below : (p k : ℕ) → k < n + 1 → slot k ≡ Some p → k < n
  below p k h e =
      elim (cases_eq k n) [ inl q ↦ absurd (none-some p (sym none ∙ ap slot (sym q) ∙ e)) | inr ne ↦ omega arith ]

  pub linked_skip : Linked slot (n + 1) last before
  linked_skip =
      record {
        last_high = λ p k h e. l.last_high p k (below p k h e) e;
        last_in = λ p h. let b = l.last_in p h in (let c = b.0 in omega arith, b.1);
        before_high = λ p j k lt h e f. l.before_high p j k lt (below p k h e) e f;
        before_in = λ p k h e pos. l.before_in p k (below p k h e) e pos;
      }
