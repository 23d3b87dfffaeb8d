-- The full and the guarded yield of a set S: the least that book and rules give, where S decides which exceptions hold.
use Rattle.std.specs.Prelude.{List}
use Rattle.marks.specs.Sets.{Marks, ◌∈◌, ◌⊆◌, no_marks, OfWidth}
use Rattle.readings.specs.Books.{Book, Closed, Denied}
use Rattle.readings.specs.Rules.{Rule, Counts, AllIn, NoneIn}

-- X has the head of each rule of P whose conditions it has
abbrev pub HasHeads : (P : Rule → Type 0) (X : Marks) → Type 0
HasHeads P X = (r : Rule) → P r → AllIn r.conditions X → r.head ∈ X

-- X is the least set around A that is its own closure and has the heads of the rules of P. Here as everywhere the sets are those
-- of the book's width.
pub record LeastClosed (B : Book) (A : Marks) (P : Rule → Type 0) (X : Marks) : Type 0 where
  pub of_width : OfWidth B.width X
  pub around : A ⊆ X
  pub closed : Closed B X
  pub heads : HasHeads P X
  pub least : (Z : Marks) → OfWidth B.width Z → A ⊆ Z → Closed B Z → HasHeads P Z → X ⊆ Z

-- S admits a rule that counts if its exceptions all lie outside S
pub record Admitted (lines : List Rule) (facts S : Marks) (r : Rule) : Type 0 where
  pub counts : Counts lines facts r
  pub exceptions : NoneIn r.exceptions S

-- S allows a rule that it admits if the book does not deny its head at S. This is the given S, which stays as it is while the
-- yield grows.
pub record Allowed (B : Book) (lines : List Rule) (facts S : Marks) (r : Rule) : Type 0 where
  pub admitted : Admitted lines facts S r
  pub head : Denied B S r.head → ⊥

module _ (B : Book) (lines : List Rule) (facts : Marks) where
  -- X is the full yield of S: the least closed set with the heads of the rules that S admits
  abbrev pub Full : (S X : Marks) → Type 0
  Full S X = LeastClosed B no_marks (Admitted lines facts S) X

  -- X is the guarded yield of S: the same without the rules whose head is denied at S
  abbrev pub Guarded : (S X : Marks) → Type 0
  Guarded S X = LeastClosed B no_marks (Allowed B lines facts S) X
