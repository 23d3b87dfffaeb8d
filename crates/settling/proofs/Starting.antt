-- Growing from a set that lies within what is to grow.
use Rattle.std.proofs.Common.{◌≡◌, ℕ, List}
use Rattle.marks.specs.Sets.{Marks, ◌∈◌, ◌⊆◌, no_marks, OfWidth, outside, with_mark}
use Rattle.marks.proofs.Sets.{equal_within}
use Rattle.readings.specs.Books.{Book, Clashes, Denied}
use Rattle.readings.specs.Methods.{Run, round, FirstRound, first_method, PastExceptions, NotRefuted, second_method}
use Rattle.readings.specs.Rules.{Rule, Counts, Fit}
use Rattle.readings.specs.Yields.{LeastClosed, Admitted, Allowed, Full, Guarded}
use Rattle.readings.proofs.BrokenSheets.{TWithinU}
use Rattle.readings.proofs.Closing.{none_within, least_by, least_in}
use Rattle.readings.proofs.FirstRounds.{moves}
use Rattle.readings.proofs.SecondRounds.{second_first, grown_full, guarded_kept}
use Rattle.readings.proofs.Sets.{with_within, with_grows}
use Rattle.readings.proofs.Statements.{yields_exist_once}
use Rattle.readings.proofs.Yields.{with_head}
use Rattle.settling.specs.Growth.{LetIn}
use Rattle.settling.specs.Kept.{WithinLeast}

-- a least closed set around A, where A lies within the least one, is that one
pub least_around : {B : Book} {A X : Marks} {P : Rule → Type 0} → WithinLeast B A P → LeastClosed B A P X → LeastClosed B no_marks P X
least_around {X = X} within x =
    record {
      of_width = x.of_width;
      around = none_within X;
      closed = x.closed;
      heads = x.heads;
      least = λ Z zw _ zc zh. x.least Z zw (within Z zw zc zh) zc zh;
    }

-- the guarded yield of T lies within every closed set with the heads at T
pub guarded_within : {B : Book} {lines : List Rule} {facts T U : Marks} → Guarded B lines facts T U → WithinLeast B U (Admitted lines facts T)
guarded_within guarded Z zw zc zh = guarded.least Z zw (none_within Z) zc (λ r a. zh r a.admitted)

module _ {B : Book} {lines : List Rule} {facts F T : Marks} (none : F ≡ no_marks) where
  unrefuted : {r : Rule} → Allowed B lines facts T r → NotRefuted B lines facts F T r
  unrefuted a = record { counts = a.admitted.counts; conditions = λ m i. equal_within none m; exceptions = a.admitted.exceptions; head = a.head }

  -- what is kept where F is empty is the guarded yield
  pub kept_guarded : {X : Marks} → LeastClosed B no_marks (NotRefuted B lines facts F T) X → Guarded B lines facts T X
  kept_guarded = least_by (λ r n. record { admitted = record { counts = n.counts; exceptions = n.exceptions }; head = n.head }) (λ r a. unrefuted a)

  pub within_kept : (A : Marks) → WithinLeast B A (Allowed B lines facts T) → WithinLeast B A (NotRefuted B lines facts F T)
  within_kept A within Z zw zc zh = within Z zw zc (λ r a. zh r (unrefuted a))

module _ {B : Book} {lines : List Rule} {facts : Marks} (fit : Fit B lines facts) where
  -- in a run of the first method the next T lies within its guarded yield, unless the book clashes at it
  pub next_within : {k : ℕ} {T U X : Marks} → Run (first_method B lines facts) k T U → Full B lines facts U X → (Clashes B X → ⊥) → WithinLeast B X (Allowed B lines facts X)
  next_within {X = X} run full none Z zw zc zh m t =
      let guarded = (yields_exist_once fit).guarded X in
      let within = TWithinU fit (round run (record { full = full; guarded = guarded.holds })) none in
      guarded.holds.least Z zw (none_within Z) zc zh m (within m t)

  -- in a run of the second method the grown T lies within what is kept, unless the book clashes at it
  pub grown_within : {k : ℕ} {T F X : Marks} → Run (second_method B lines facts) k T F → LeastClosed B T (PastExceptions B lines facts F) X
      → (Clashes B X → ⊥) → WithinLeast B X (NotRefuted B lines facts F X)
  grown_within {F = F} {X} run grown none Z zw zc zh m t =
      let before = second_first fit run in
      let guarded = (yields_exist_once fit).guarded X in
      let next : FirstRound B lines facts (outside B.width F) X guarded.it = record { full = grown_full fit F before grown; guarded = guarded.holds } in
      let kept = guarded_kept fit F before (moves fit before next).1 guarded.holds in
      kept.least Z zw (none_within Z) zc zh m (TWithinU fit (round before next) none m t)

  -- What grew from T without heads that are known to be denied is what is kept at T and F, if the book does not clash at it and T lies
  -- within what is kept.
  module _ {T F D X : Marks} (known : (r : Rule) → Counts lines facts r → r.head ∈ D → Denied B T r.head) (grown : LeastClosed B T (LetIn lines facts T D F) X) (none : Clashes B X → ⊥) where
    -- the book does not clash at T then
    quiet : Clashes B T → ⊥
    quiet c = none (fit.lawful.clash_grows T X (λ m t. grown.of_width m (grown.around m t)) grown.of_width grown.around c)

    -- and denies no head that X has
    allowed : (r : Rule) → r.head ∈ X → Denied B T r.head → ⊥
    allowed r t d =
        let with = with_within T X r.head t grown.around in
        none (fit.lawful.clash_grows (with_mark T r.head) X (λ m u. grown.of_width m (with m u)) grown.of_width with d)

    pub untested_kept : ((Clashes B T → ⊥) → WithinLeast B T (NotRefuted B lines facts F T)) → LeastClosed B no_marks (NotRefuted B lines facts F T) X
    untested_kept within =
        record {
          of_width = grown.of_width;
          around = none_within X;
          closed = grown.closed;
          heads = λ r n.
              grown.heads r
              (record {
                counts = n.counts;
                admitted = record { exceptions = n.exceptions; head = λ t. n.head (known r n.counts t); conditions = n.conditions };
              });
          least = λ Z zw _ zc zh.
              least_in B fit.lawful grown Z zw (within quiet Z zw zc zh) zc
              (λ r l cx cz h. zh r (record { counts = l.counts; conditions = l.admitted.conditions; exceptions = l.admitted.exceptions; head = allowed r h }) cz);
        }

  -- what is denied stays so as the set grows
  pub denied_grows : (S S' : Marks) (r : Rule) → Counts lines facts r → OfWidth B.width S' → S ⊆ S' → Denied B S r.head → Denied B S' r.head
  denied_grows S S' r i w s d =
      fit.lawful.clash_grows (with_mark S r.head) (with_mark S' r.head) (with_head fit S i (λ k u. w k (s k u))) (with_head fit S' i w) (with_grows S S' r.head s) d
