-- Which lines an index names for a mark.
use Rattle.std.specs.Prelude.{◌≡◌, ℕ, zero, suc, ◌+◌, ◌*◌, ◌/◌, ◌<◌, ◌≤◌, List, [], ◌∷◌, length, take, min, slice_index, Some}
use Rattle.std.specs.List.{AllByRecursion}
use Rattle.marks.specs.declared.set.MarkSet.{MarkSet}
use Rattle.marks.specs.MarkSets.{marks_of}
use Rattle.marks.specs.Sets.{◌∈◌, among}
use Rattle.lines.specs.Lawful.{AllBelow}
use Rattle.lines.specs.declared.index.Index.{Index}
use Rattle.lines.specs.declared.index.Touched.{Touched}

-- The lines at a chain of slots: eight slots belong to each line. A slot is given with 1 added, and 0 ends the chain; `before` leads
-- from each slot to an earlier one. The chain has n slots at most.
abbrev pub chain : List ℕ → (n slot : ℕ) → List ℕ
chain before zero slot = []
chain before (suc n) zero = []
chain before (suc n) (suc k) = (k / 8) ∷ chain before n (min (slice_index before k) k)

-- the lines that are left of those that an index names for a mark
abbrev pub left_of : Touched → List ℕ
left_of t = chain t.before.now t.slot t.slot

-- the lines that an index names for the mark m
abbrev pub named_for : {M : ℕ} → Index M → ℕ → List ℕ
named_for index m = chain index.before (slice_index index.last m) (slice_index index.last m)

-- the list i, or one without marks where there is none
abbrev pub list_at : List (List ℕ) → ℕ → List ℕ
list_at [] i = []
list_at (ms ∷ lists) zero = ms
list_at (ms ∷ lists) (suc i) = list_at lists i

-- The index is that of these lists, so far as it has room: for each mark that some width has it names exactly the lists that hold it
-- among their first eight marks.
pub record IsIndexOf {M : ℕ} (index : Index M) (lists : List (List ℕ)) : Type 0 where
  pub all : (i m : ℕ) → 8 * i + 8 ≤ M → i < 8191 → m < 512 → m ∈ among (take 8 (list_at lists i)) → i ∈ among (named_for index m)
  pub only : (i m : ℕ) → i ∈ among (named_for index m) → m ∈ among (take 8 (list_at lists i))
  -- and the marks for which it names one are marked, those of the width
  pub marked : (i m : ℕ) (s : MarkSet) → i ∈ among (named_for index m) → index.marked ≡ Some s → m < s.width → m ∈ marks_of s

-- at most eight marks, each one that some width has
pub record ShortList (ms : List ℕ) : Type 0 where
  pub few : length ms ≤ 8
  pub below : AllBelow 512 ms

-- the index is that of these lists, which are short, and has room for all of them
pub record Indexes {M : ℕ} (index : Index M) (lists : List (List ℕ)) : Type 0 where
  pub is : IsIndexOf index lists
  pub room : 8 * length lists ≤ M
  pub few : length lists ≤ 8191
  pub short : AllByRecursion ShortList lists
