-- Which lines a pass looks at, and in which order.
use Rattle.std.specs.Prelude.{◌≡◌, ℕ, zero, suc, ◌+◌, List, [], ◌∷◌, None, Some, Option, slice_get}
use Rattle.std.specs.List.{filter_map}
use Rattle.lines.specs.Passes.{View}

-- the first of some numbers was taken, where there was one
abbrev pub Leads : Option ℕ → (before after : List ℕ) → Type 0
Leads None before after = (before ≡ []) × (after ≡ [])
Leads (Some i) before after = before ≡ i ∷ after

-- n numbers from a on, ascending
abbrev pub counting : (a n : ℕ) → List ℕ
counting a zero = []
counting a (suc n) = a ∷ counting (a + 1) n

-- the lines of these numbers, where there are such
abbrev pub named : List View → List ℕ → List View
named vs = filter_map (slice_get vs)
