-- What a set of marks in memory means, and what a call may leave of it.
use Rattle.std.specs.Prelude.{◌≡◌, ℕ, ◌<◌, ◌⊎◌}
use Rattle.marks.specs.declared.set.MarkSet.{MarkSet}
use Rattle.marks.specs.Sets.{Marks}
use Rattle.marks.specs.Words.{held}

-- the marks that a set holds
abbrev pub marks_of : MarkSet → Marks
marks_of s = held s.words

-- no set has this width: widths go from 1 to 512
abbrev pub BadWidth : ℕ → Type 0
BadWidth w = (w < 1) ⊎ (512 < w)

-- s has the width w and holds exactly the marks of S
pub record IsSet (s : MarkSet) (w : ℕ) (S : Marks) : Type 0 where
  pub width : s.width ≡ w
  pub marks : marks_of s ≡ S

-- a set that a call left as it was
pub record Unchanged (before after : MarkSet) : Type 0 where
  pub width : after.width ≡ before.width
  pub words : after.words ≡ before.words
