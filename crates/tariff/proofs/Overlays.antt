-- One write behind another is one write.
use Rattle.std.proofs.Common.{◌≡◌, ℕ, ◌+◌, ◌≤◌, List, [], ◌++◌, length, take, drop, sym, ap, ◌∙◌, append_assoc, add-zero, arith, length-append}
use Rattle.std.proofs.lemmas.List.{take_at, drop_at, drop-drop, length-take-le, take-append-drop}
use Rattle.tariff.specs.Writings.{overlay, Written}

module _ (out : List ℕ) (p : ℕ) (xs : List ℕ) (inside : p ≤ length out) where
  front : length (take p out ++ xs) ≡ p + length xs
  front = length-append (take p out) xs ∙ ap (λ n. n + length xs) (length-take-le p out inside)

  grouped : overlay out p xs ≡ (take p out ++ xs) ++ drop (p + length xs) out
  grouped = sym (append_assoc (take p out) xs (drop (p + length xs) out))

  overlay_more : (ys : List ℕ) → overlay (overlay out p xs) (p + length xs) ys ≡ overlay out p (xs ++ ys)
  overlay_more ys =
      let q : ℕ = p + length xs in
      let before : take q (overlay out p xs) ≡ take p out ++ xs = ap (take q) grouped ∙ take_at _ _ q front in
      let behind : drop q (overlay out p xs) ≡ drop q out = ap (drop q) grouped ∙ drop_at _ _ q front in
      let after : drop (q + length ys) (overlay out p xs) ≡ drop (p + length (xs ++ ys)) out =
      sym (drop-drop (length ys) q (overlay out p xs)) ∙ ap (drop (length ys)) behind ∙ drop-drop (length ys) q out ∙ ap (λ n. drop n out) (omega (arith, length-append xs ys)) in
      (λ i. before i ++ (ys ++ after i)) ∙ append_assoc (take p out) xs (ys ++ drop (p + length (xs ++ ys)) out) ∙ ap (λ l. take p out ++ l) (sym (append_assoc xs ys (drop (p + length (xs ++ ys)) out)))

-- nothing is written yet
pub written_none : (out : List ℕ) (p : ℕ) → Written out p [] out p
written_none out p = record { bytes = sym (take-append-drop p out) ∙ ap (λ n. take p out ++ drop n out) (sym (add-zero p)); place = sym (add-zero p) }

-- one write behind another
pub written_more : (out : List ℕ) (p : ℕ) (xs ys : List ℕ) {o o' : List ℕ} {q q' : ℕ} → p ≤ length out → Written out p xs o q → Written o q ys o' q' → Written out p (xs ++ ys) o' q'
written_more out p xs ys inside one two = record {
  bytes = two.bytes ∙ (λ i. overlay (one.bytes i) (one.place i) ys) ∙ overlay_more out p xs inside ys;
  place = omega (arith, one.place, two.place, length-append xs ys);
}

-- what stands at the start of the bytes that were written there
pub written_first : (out bs after : List ℕ) (n : ℕ) → Written out 0 bs after n → take n after ≡ bs
written_first out bs after n w = ap (take n) w.bytes ∙ take_at bs (drop (0 + length bs) out) n (omega (arith, w.place))
