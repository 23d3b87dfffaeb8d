-- How an index is made: its slots, eight for each line, are linked by their marks.
use Rattle.std.specs.Prelude.{◌≡◌, ℕ, ◌-◌, ◌<◌, ◌≤◌, cond, nat_lt, List, slice_index, slice_get, Some, None, Option}

-- a mark, if it is one that some width has
abbrev pub narrow : Option ℕ → Option ℕ
narrow None = None
narrow (Some m) = cond (nat_lt m 512) (Some m) None

-- the mark at a place of a list, if there is one that some width has
abbrev pub slot_at : List ℕ → ℕ → Option ℕ
slot_at ms j = narrow (slice_get ms j)

-- The slots below n, each with its mark, are linked: `last` leads from each mark to its last slot, `before` from each slot in use
-- to the last one before it with the same mark. Each has the slot with 1 added, or 0 where there is none.
pub record Linked (slots : ℕ → Option ℕ) (n : ℕ) (last before : List ℕ) : Type 0 where
  pub last_high : (m k : ℕ) → k < n → slots k ≡ Some m → k < slice_index last m
  pub last_in : (m : ℕ) → 0 < slice_index last m → (slice_index last m ≤ n) × (slots (slice_index last m - 1) ≡ Some m)
  pub before_high : (m j k : ℕ) → j < k → k < n → slots k ≡ Some m → slots j ≡ Some m → j < slice_index before k
  pub before_in : (m k : ℕ) → k < n → slots k ≡ Some m → 0 < slice_index before k → (slice_index before k ≤ k) × (slots (slice_index before k - 1) ≡ Some m)
