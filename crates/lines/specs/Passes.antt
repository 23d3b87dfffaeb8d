-- What a pass over lines does: it goes through them in an order, and brings in each whose conditions stand at the set as it then
-- is.
use Rattle.std.specs.Prelude.{◌≡◌, ℕ, Bool, false, cond, not, ◌&&◌, ◌||◌, List, [], ◌∷◌, is_some, map, Some, None, Option, nat_lt}
use Rattle.marks.specs.MarkSets.{marks_of, IsSet}
use Rattle.marks.specs.Sets.{Marks, with_mark, ◌∪◌, ◌∖◌}
use Rattle.readings.specs.Computed.{has_all}
use Rattle.lines.specs.declared.growth.Growth.{Growth}

-- What a pass sees of a line: whether it is admitted, its conditions, and its head, where it has one. (Denials and bars have
-- none.)
pub record View : Type 0 where
  pub admitted : Bool
  pub conditions : List ℕ
  pub head : Option ℕ

-- the lists of the lines' conditions
abbrev pub conditions_of : List View → List (List ℕ)
conditions_of = map (λ v. v.conditions)

-- whether the line is admitted and its conditions stand at the set
abbrev pub fires : View → Marks → Bool
fires v S = v.admitted && has_all v.conditions S

-- the set with the head, if that is a mark of the width w
abbrev pub with_head : ℕ → Option ℕ → Marks → Marks
with_head w None S = S
with_head w (Some m) S = cond (nat_lt m w) (with_mark S m) S

-- the set after the line's turn
abbrev pub brought : ℕ → View → Marks → Marks
brought w v S = cond (fires v S) (with_head w v.head S) S

-- the set after the pass
abbrev pub swept : ℕ → List View → Marks → Marks
swept w [] S = S
swept w (v ∷ vs) S = swept w vs (brought w v S)

-- whether a line without a head fired in its turn
abbrev pub stood : ℕ → List View → Marks → Bool
stood w [] S = false
stood w (v ∷ vs) S = (not (is_some v.head) && fires v S) || stood w vs (brought w v S)

-- A pass over lines that are seen as vs turns the growth `before` into the growth `after`.
pub record Passes (vs : List View) (before after : Growth) : Type 0 where
  pub set : IsSet after.set before.set.width (swept before.set.width vs (marks_of before.set))
  -- the marks that it added are fresh, besides those that were
  pub fresh : marks_of after.fresh ≡ marks_of before.fresh ∪ (marks_of after.set ∖ marks_of before.set)
  -- it remembers whether a line without a head fired, in this pass or before
  pub told : after.stood ≡ (before.stood || stood before.set.width vs (marks_of before.set))
