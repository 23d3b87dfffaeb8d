-- What it is to bring in lines until none adds anything.
use Rattle.std.specs.Prelude.{◌≡◌, ℕ, ◌<◌, Bool, true, List, Some, Decides}
use Rattle.marks.specs.declared.set.MarkSet.{MarkSet}
use Rattle.marks.specs.MarkSets.{marks_of}
use Rattle.marks.specs.Sets.{Marks, ◌∈◌, ◌⊆◌}
use Rattle.lines.specs.Indexes.{Indexes}
use Rattle.lines.specs.declared.index.Index.{Index}
use Rattle.lines.specs.Passes.{View, conditions_of}
use Rattle.lines.specs.Theorems.{Fires, HasTheirHeads, SomeHeadless}

-- some lines were brought in, and it was told that one without a head stands
pub record BringsSome (vs : List View) (before after : MarkSet) (told : Bool) : Type 0 where
  pub width : after.width ≡ before.width
  pub around : marks_of before ⊆ marks_of after
  -- the set grew by heads alone: it stays within every set around it that has the heads of the lines that fire there
  pub least : (Z : Marks) → marks_of before ⊆ Z → HasTheirHeads before.width vs Z → marks_of after ⊆ Z
  pub stands : told ≡ true → SomeHeadless vs (marks_of after)

-- all lines were, until none added anything: the set is the least around it that has their heads, and it is told whether one
-- without a head fires there
pub record BringsAll (vs : List View) (before after : MarkSet) (told : Bool) : Type 0 where
  pub some : BringsSome vs before after told
  pub heads : HasTheirHeads before.width vs (marks_of after)
  pub decided : Decides told (SomeHeadless vs (marks_of after))

-- the marks D of the set S are done: S has the heads of the lines that fire at D, and none without a head fires there
pub record Done (w : ℕ) (vs : List View) (D S : Marks) : Type 0 where
  pub within : D ⊆ S
  pub heads : (v : View) (h : ℕ) → Fires vs v D → v.head ≡ Some h → h < w → h ∈ S
  pub quiet : SomeHeadless vs D → ⊥

-- What bringing in lines with an index does. Where it is the index of the lines' conditions, all are brought in; an index of other
-- lists does no harm.
pub record BringsIn {M : ℕ} (index : Index M) (vs : List View) (before after : MarkSet) (told : Bool) : Type 0 where
  pub some : BringsSome vs before after told
  pub all : Indexes index (conditions_of vs) → BringsAll vs before after told

-- The same, going on from marks of the set that are done.
pub record BringsOn {M : ℕ} (index : Index M) (vs : List View) (done : Marks) (before after : MarkSet) (told : Bool) : Type 0 where
  pub some : BringsSome vs before after told
  pub all : Indexes index (conditions_of vs) → Done before.width vs done (marks_of before) → BringsAll vs before after told
