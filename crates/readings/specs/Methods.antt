-- The two methods of settling: where each starts, what one round does, and when it stops.
use Rattle.std.specs.Prelude.{List, ◌≡◌, ℕ, suc, ◌<◌}
use Rattle.marks.specs.Sets.{Marks, no_marks, below, ◌∪◌, outside}
use Rattle.readings.specs.Books.{Book, Denied}
use Rattle.readings.specs.Rules.{Rule, Counts, AllIn, NoneIn}
use Rattle.readings.specs.Yields.{LeastClosed, Full, Guarded}

-- A method goes from pair to pair of sets. One of them is T, which is empty at the start; the other, here V, tells what U is.
pub record Way : Type 1 where
  -- V at the start
  pub start : Marks
  -- one round makes of T and V the sets T' and V'
  pub round : (T V T' V' : Marks) → Type 0
  -- what U is
  pub upper : (V : Marks) → Marks

-- k rounds from the start lead to T and V
pub data Run (W : Way) : ℕ → Marks → Marks → Type 0 where
  start : Run W 0 no_marks W.start
  round : {k : ℕ} {T V T' V' : Marks} → Run W k T V → W.round T V T' V' → Run W (suc k) T' V'

-- A method stops after the first round that changes neither set. Its rounds are all that it makes from the start, this last one
-- counted: here n, with T and U at the end.
pub record Stops (W : Way) (n : ℕ) (T U : Marks) : Type 0 where
  -- the last round is one more than those before it
  pub before : ℕ
  pub count : n ≡ suc before
  pub other : Marks
  pub run : Run W before T other
  -- it changes neither set
  pub last : W.round T other T other
  -- no earlier one does so
  pub first : (j : ℕ) (T' V' : Marks) → j < before → Run W j T' V' → W.round T' V' T' V' → ⊥
  pub upper : U ≡ W.upper other

module _ (B : Book) (lines : List Rule) (facts : Marks) where
  -- The first method starts with T empty and U all marks. A round makes T the full yield of U, and then U the guarded yield of
  -- that T. (This is the alternating fixpoint.)
  pub record FirstRound (U T' U' : Marks) : Type 0 where
    pub full : Full B lines facts U T'
    pub guarded : Guarded B lines facts T' U'

  abbrev pub first_method : Way
  first_method = record { start = below B.width; round = λ T U T' U'. FirstRound U T' U'; upper = λ U. U }

  -- The second method starts with T and F empty and never takes a mark out. (This is the iterated fixpoint.) A round first grows
  -- T to the least closed set around it with the heads of the rules whose exceptions are all in F.
  pub record PastExceptions (F : Marks) (r : Rule) : Type 0 where
    pub counts : Counts lines facts r
    pub exceptions : AllIn r.exceptions F

  -- Then Y is the least closed set with the heads of the rules that have no condition in F and no exception in T, and whose head
  -- is not denied at T; this T is the grown one.
  pub record NotRefuted (F T : Marks) (r : Rule) : Type 0 where
    pub counts : Counts lines facts r
    pub conditions : NoneIn r.conditions F
    pub exceptions : NoneIn r.exceptions T
    pub head : Denied B T r.head → ⊥

  -- All marks outside Y join F.
  pub record SecondRound (T F T' F' : Marks) : Type 0 where
    pub grown : LeastClosed B T (PastExceptions F) T'
    pub Y : Marks
    pub kept : LeastClosed B no_marks (NotRefuted F T') Y
    pub joined : F' ≡ F ∪ outside B.width Y

  -- U is the marks outside F.
  abbrev pub second_method : Way
  second_method = record { start = no_marks; round = SecondRound; upper = λ F. outside B.width F }
