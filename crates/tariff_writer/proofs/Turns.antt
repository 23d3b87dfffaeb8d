-- The turns of a loop over things that are written one behind the other.
use Rattle.std.proofs.Common.{◌≡◌, ℕ, ◌+◌, ◌<◌, ◌≤◌, List, [], ◌∷◌, ◌++◌, length, get_or, take, sym, ap, ◌∙◌, subst, arith}
use Rattle.std.specs.List.{flat_map}
use Rattle.std.proofs.lemmas.List.{take_more, flat_map_more}
use Rattle.std.proofs.lemmas.List.Folds.{length-flat_map-take}
use Rattle.tariff.specs.Writings.{Written}
use Rattle.tariff.proofs.Overlays.{written_more}

-- the turn at the place i, where x stands
module _ {A : Type 0} (f : A → List ℕ) (xs : List A) (i : ℕ) (x : A) (more : i < length xs) (is : x ≡ get_or xs i x) where
  bytes_more : flat_map f (take (i + 1) xs) ≡ flat_map f (take i xs) ++ f x
  bytes_more = ap (flat_map f) (take_more xs i x more ∙ ap (λ y. take i xs ++ y ∷ []) (sym is)) ∙ sym (flat_map_more f [] (take i xs) x)

  -- where all have room, the next one has
  pub room_more : length (flat_map f (take i xs)) + length (f x) ≤ length (flat_map f xs)
  room_more = omega (arith, ap (λ y. length (f y)) is, length-flat_map-take f xs i x more)

  -- the next one is written
  pub written_next : (out : List ℕ) (p : ℕ) {o o' : List ℕ} {q q' : ℕ} → p ≤ length out → Written out p (flat_map f (take i xs)) o q → Written o q (f x) o' q' → Written out p (flat_map f (take (i + 1) xs)) o' q'
  written_next out p {o} {o'} {q} {q'} inside one two = subst (λ l. Written out p l o' q') (sym bytes_more) (written_more out p (flat_map f (take i xs)) (f x) inside one two)
