-- Closed sets of a lawful book, and the least closed sets with the heads of some rules.
use mathlib.Core.Path.{◌≡◌}
use Rattle.marks.specs.Sets.{Marks, ◌∈◌, ◌⊆◌, below, no_marks, OfWidth, ◌∩◌}
use Rattle.readings.specs.Books.{Book, Lawful, Closed}
use Rattle.readings.specs.Rules.{Rule, AllIn}
use Rattle.readings.specs.Yields.{LeastClosed}
use Rattle.marks.proofs.Sets.{equal_within, same_sets}
use Rattle.readings.proofs.Sets.{both, meet_left, meet_right}

pub none_within : (X : Marks) → no_marks ⊆ X
none_within X m t = absurd t

module _ (B : Book) (law : Lawful B) where
  pub closed_if : (X : Marks) → OfWidth B.width X → B.closure X ⊆ X → Closed B X
  closed_if X x c = same_sets c (law.extensive X x)

  pub all_closed : Closed B (below B.width)
  all_closed = closed_if (below B.width) (λ m t. t) (law.of_width (below B.width) (λ m t. t))

  pub meet_closed : (X Y : Marks) → OfWidth B.width X → OfWidth B.width Y → Closed B X → Closed B Y → Closed B (X ∩ Y)
  meet_closed X Y x y cx cy =
      closed_if (X ∩ Y) w
      (λ m t. both (X m) (Y m) (equal_within cx m (law.monotone (X ∩ Y) X w x (meet_left X Y) m t)) (equal_within cy m (law.monotone (X ∩ Y) Y w y (meet_right X Y) m t)))
    where
      w : OfWidth B.width (X ∩ Y)
      w m t = x m (meet_left X Y m t)

  -- to show that X lies within Z, take conditions and head for marks of X
  pub least_in : {A X : Marks} {P : Rule → Type 0} → LeastClosed B A P X → (Z : Marks) → OfWidth B.width Z → A ⊆ Z
      → Closed B Z
      → ((r : Rule) → P r → AllIn r.conditions X → AllIn r.conditions Z → r.head ∈ X → r.head ∈ Z) → X ⊆ Z
  least_in {X = X} p Z zw za zc zh m t =
      meet_right X Z m
      (p.least (X ∩ Z) (λ n u. zw n (meet_right X Z n u)) (λ n u. both (X n) (Z n) (p.around n u) (za n u))
      (meet_closed X Z p.of_width zw p.closed zc)
      (λ r i c.
      let cx : AllIn r.conditions X = λ k j. meet_left X Z k (c k j) in
      let h : r.head ∈ X = p.heads r i cx in
      both (X r.head) (Z r.head) h (zh r i cx (λ k j. meet_right X Z k (c k j)) h))
      m t)

-- more rules and a greater start give a greater set
pub least_within : {B : Book} {A A' : Marks} {P Q : Rule → Type 0} {X Y : Marks} → A ⊆ Y → ((r : Rule) → P r → Q r)
    → LeastClosed B A P X → LeastClosed B A' Q Y → X ⊆ Y
least_within {Y = Y} a f p q = p.least Y q.of_width a q.closed (λ r i. q.heads r (f r i))

pub least_unique : {B : Book} {A : Marks} {P : Rule → Type 0} {X Y : Marks} → LeastClosed B A P X → LeastClosed B A P Y → X ≡ Y
least_unique p q = same_sets (least_within q.around (λ r i. i) p q) (least_within p.around (λ r i. i) q p)

-- the same rules under another description
pub least_by : {B : Book} {A : Marks} {P Q : Rule → Type 0} {X : Marks} → ((r : Rule) → P r → Q r) → ((r : Rule) → Q r → P r)
    → LeastClosed B A P X → LeastClosed B A Q X
least_by to from p =
    record {
      of_width = p.of_width;
      around = p.around;
      closed = p.closed;
      heads = λ r i. p.heads r (from r i);
      least = λ Z zw za zc zh. p.least Z zw za zc (λ r i. zh r (to r i));
    }
