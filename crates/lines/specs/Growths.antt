-- What the steps of a growth do.
use Rattle.std.specs.Prelude.{◌≡◌, ℕ, ◌⊎◌, Some, None, Option}
use Rattle.marks.specs.declared.set.MarkSet.{MarkSet}
use Rattle.marks.specs.MarkSets.{marks_of, IsSet}
use Rattle.marks.specs.Sets.{◌∈◌, ◌⊆◌, without_mark}
use Rattle.lines.specs.Passes.{with_head}
use Rattle.lines.specs.declared.growth.Growth.{Growth}

-- the mark was added, and is fresh, if it is one of the width
pub record Added (m : ℕ) (before after : Growth) : Type 0 where
  pub set : IsSet after.set before.set.width (with_head before.set.width (Some m) (marks_of before.set))
  pub fresh : marks_of after.fresh ≡ with_head before.set.width (Some m) (marks_of before.fresh)
  pub stood : after.stood ≡ before.stood

-- of the fresh marks at most those that a set of the same width, if there is one, does not hold are fresh no more
pub record Kept (other : Option MarkSet) (before after : Growth) : Type 0 where
  pub set : after.set ≡ before.set
  pub stood : after.stood ≡ before.stood
  pub only : marks_of after.fresh ⊆ marks_of before.fresh
  pub others : (m : ℕ) → m ∈ marks_of before.fresh → (m ∈ marks_of after.fresh) ⊎ ((s : MarkSet) × (other ≡ Some s) × (s.width ≡ before.set.width) × (m ∈ marks_of s → ⊥))

-- the mark was fresh and is no more
pub record TakenOne (m : ℕ) (before after : Growth) : Type 0 where
  pub held : m ∈ marks_of before.fresh
  pub set : after.set ≡ before.set
  pub stood : after.stood ≡ before.stood
  pub fresh : marks_of after.fresh ≡ without_mark (marks_of before.fresh) m

-- a fresh mark was taken, or there is none
abbrev pub Taken : Growth → Growth → Option ℕ → Type 0
Taken before after None = (after ≡ before) × ((m : ℕ) → m ∈ marks_of before.fresh → ⊥)
Taken before after (Some m) = TakenOne m before after
