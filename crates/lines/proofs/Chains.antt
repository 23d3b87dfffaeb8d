-- Chains of slots.
use Rattle.std.proofs.Common.{◌≡◌, ℕ, zero, suc, ◌+◌, ◌-◌, ◌/◌, ◌<◌, ◌≤◌, min, List, ◌∷◌, get_or, Some, Option, sym, refl, ap, ◌∙◌, inl, inr, arith}
use mathlib.Core.List.Memᴰ
use mathlib.Core.List.{Memᴰ}
use Rattle.std.proofs.lemmas.Bool.{cases_lt, cases_eq}
use Rattle.lines.specs.Indexes.{chain}
use Rattle.lines.specs.Slots.{Linked}

-- a chain from a slot needs no more steps than the slot's number
chain_more : (b : List ℕ) (n k : ℕ) → k ≤ n → chain b n k ≡ chain b (suc n) k
chain_more b zero zero h = refl
chain_more b zero (suc k) h = absurd (omega arith)
chain_more b (suc n) zero h = refl
chain_more b (suc n) (suc k) h = ap (λ (ks : List ℕ). (k / 8) ∷ ks) (chain_more b n (min (get_or b k 0) k) (omega arith))

chain_on : (b : List ℕ) (k d : ℕ) → chain b k k ≡ chain b (k + d) k
chain_on b k zero = let z : k ≡ k + 0 = omega arith in ap (λ (x : ℕ). chain b x k) z
chain_on b k (suc d) =
    let z : suc (k + d) ≡ k + suc d = omega arith in chain_on b k d ∙ chain_more b (k + d) k (omega arith) ∙ ap (λ (x : ℕ). chain b x k) z

pub chain_enough : (b : List ℕ) (n k : ℕ) → k ≤ n → chain b n k ≡ chain b k k
chain_enough b n k h =
    let e : k + (n - k) ≡ n = omega arith in
    sym (chain_on b k (n - k) ∙ ap (λ (x : ℕ). chain b x k) e)

-- the first slot of a chain, and the rest
pub chain_step : (b : List ℕ) (at k next : ℕ) → at ≡ suc k → next ≡ min (get_or b k 0) k → chain b at at ≡ (k / 8) ∷ chain b next next
chain_step b at k next e is =
    ap (λ (x : ℕ). chain b x x) e
    ∙ ap (λ (ks : List ℕ). (k / 8) ∷ ks) (ap (λ (x : ℕ). chain b k x) (sym is) ∙ chain_enough b k next (omega arith))

module _ (slots : ℕ → Option ℕ) (n : ℕ) (last before : List ℕ) (linked : Linked slots n last before) (m : ℕ) where
  -- a chain that starts at a slot of m goes through all earlier ones
  chain_all : (a p k : ℕ) → p ≤ a → p ≤ n → (0 < p → slots (p - 1) ≡ Some m) → k < p → slots k ≡ Some m → Memᴰ (k / 8) (chain before a p)
  chain_all a zero k h w at l e = absurd (omega arith)
  chain_all zero (suc p) k h w at l e = absurd (omega arith)
  chain_all (suc a) (suc p) k h w at l e =
      elim (cases_eq k p) [
        | inl q ↦ Memᴰ.head (ap (λ (x : ℕ). x / 8) q)
        | inr ne ↦
            let here : slots p ≡ Some m = (let z : suc p - 1 ≡ p = omega arith in ap slots (sym z) ∙ at (omega arith)) in
            let high = linked.before_high m k p (omega arith) (omega arith) here e in
            let prior = linked.before_in m p (omega arith) here (omega arith) in
            let low = prior.0 in
            let next : min (get_or before p 0) p ≡ get_or before p 0 = omega arith in
            Memᴰ.tail
            (chain_all a (min (get_or before p 0) p) k (omega arith) (omega arith)
            (λ _. ap (λ (x : ℕ). slots (x - 1)) next ∙ prior.1) (omega arith) e)
      ]

  -- and through no slot of another mark
  chain_only : (a p i : ℕ) → p ≤ n → (0 < p → slots (p - 1) ≡ Some m) → Memᴰ i (chain before a p) → (k : ℕ) × ((k < n) × (slots k ≡ Some m) × (i ≡ k / 8))
  chain_only zero p i w at t = absurd (Memᴰ.not-nil t)
  chain_only (suc a) zero i w at t = absurd (Memᴰ.not-nil t)
  chain_only (suc a) (suc p) i w at t =
      let here : slots p ≡ Some m = (let z : suc p - 1 ≡ p = omega arith in ap slots (sym z) ∙ at (omega arith)) in
      elim (Memᴰ.cases_cons t) [
        | inl e ↦ (p, (let l : p < n = omega arith in l, here, e))
        | inr j ↦
            chain_only a (min (get_or before p 0) p) i (omega arith)
            (λ some.
            let prior = linked.before_in m p (omega arith) here (omega arith) in
            let low = prior.0 in
            let next : min (get_or before p 0) p ≡ get_or before p 0 = omega arith in
            ap (λ (x : ℕ). slots (x - 1)) next ∙ prior.1) j
      ]

  abbrev first : ℕ
  first = get_or last m 0

  first_at : 0 < first → slots (first - 1) ≡ Some m
  first_at h = (linked.last_in m h).1

  first_in : first ≤ n
  first_in = elim (cases_lt 0 first) [ inl h ↦ (linked.last_in m h).0 | inr z ↦ omega arith ]

  pub named_slot : (k : ℕ) → k < n → slots k ≡ Some m → Memᴰ (k / 8) (chain before first first)
  named_slot k l e = chain_all first first k (omega arith) first_in first_at (linked.last_high m k l e) e

  pub slot_named : (i : ℕ) → Memᴰ i (chain before first first) → (k : ℕ) × ((k < n) × (slots k ≡ Some m) × (i ≡ k / 8))
  slot_named i t = chain_only first first i first_in first_at t
