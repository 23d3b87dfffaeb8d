-- What it is to follow fresh marks.
use Rattle.std.specs.Prelude.{◌≡◌, ℕ, ◌<◌, true, List, Some, None}
use Rattle.marks.specs.MarkSets.{marks_of}
use Rattle.marks.specs.Sets.{◌∈◌, ◌∖◌}
use Rattle.lines.specs.Brings.{BringsSome, BringsAll}
use Rattle.lines.specs.Indexes.{Indexes}
use Rattle.lines.specs.Passes.{View, conditions_of}
use Rattle.lines.specs.Theorems.{Fires, SomeHeadless}
use Rattle.lines.specs.declared.growth.Growth.{Growth}
use Rattle.lines.specs.declared.index.Index.{Index}

-- the lines that fire where no mark is fresh were brought in, and of those without a head it is told
pub record Ready (vs : List View) (g : Growth) : Type 0 where
  pub heads : (v : View) (h : ℕ) → Fires vs v (marks_of g.set ∖ marks_of g.fresh) → v.head ≡ Some h → h < g.set.width → h ∈ marks_of g.set
  pub stands : (v : View) → Fires vs v (marks_of g.set ∖ marks_of g.fresh) → v.head ≡ None → g.stood ≡ true

-- What following fresh marks does to a growth of which what it told is so. It brings in some lines. It brings in all, where the index
-- is that of the lines' conditions and the growth was ready.
pub record Follows {M : ℕ} (index : Index M) (vs : List View) (before after : Growth) : Type 0 where
  pub some : (before.stood ≡ true → SomeHeadless vs (marks_of before.set)) → BringsSome vs before.set after.set after.stood
  pub all : Indexes index (conditions_of vs) → Ready vs before → (before.stood ≡ true → SomeHeadless vs (marks_of before.set)) → BringsAll vs before.set after.set after.stood
