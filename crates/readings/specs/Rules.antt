-- Rules: the fare lines of a tariff and the facts of a sheet, and which of them count.
use mathlib.Core.List.{List, [], Memᴰ}
use Rattle.std.specs.Prelude.{ℕ}
use Rattle.marks.specs.Sets.{Marks, ◌∈◌, below, OfWidth}
use Rattle.readings.specs.Books.{Book, Lawful}

-- A fare line is a rule: its head is so if all conditions are, unless one of the exceptions is.
pub record Rule : Type 0 where
  pub head : ℕ
  pub conditions : List ℕ
  pub exceptions : List ℕ

-- A fact is a mark that a sheet, the record of one trip, states outright. It counts as a fare line with that head and two empty
-- lists.
abbrev pub fact : ℕ → Rule
fact m = record { head = m; conditions = []; exceptions = [] }

-- The rules that count, for these fare lines and this set of facts. Whatever is said of rules is said of these.
pub data Counts (lines : List Rule) (facts : Marks) : Rule → Type 0 where
  line : {r : Rule} → Memᴰ r lines → Counts lines facts r
  stands : {m : ℕ} → m ∈ facts → Counts lines facts (fact m)

-- every mark of the list is in the set; none is; some is
abbrev pub AllIn : List ℕ → Marks → Type 0
AllIn ms S = (m : ℕ) → Memᴰ m ms → m ∈ S

abbrev pub NoneIn : List ℕ → Marks → Type 0
NoneIn ms S = (m : ℕ) → Memᴰ m ms → m ∈ S → ⊥

abbrev pub SomeIn : List ℕ → Marks → Type 0
SomeIn ms S = (m : ℕ) × Memᴰ m ms × (m ∈ S)

-- all marks of a rule are marks of the width
pub record RuleWithin (w : ℕ) (r : Rule) : Type 0 where
  pub head : r.head ∈ below w
  pub conditions : AllIn r.conditions (below w)
  pub exceptions : AllIn r.exceptions (below w)

-- The book keeps its laws, and fare lines and facts are within its width. This is all that a theorem asks of the three.
pub record Fit (B : Book) (lines : List Rule) (facts : Marks) : Type 0 where
  pub lawful : Lawful B
  pub within : (r : Rule) → Memᴰ r lines → RuleWithin B.width r
  pub of_width : OfWidth B.width facts
