-- Yields are unique and fall as the set grows; the guarded lies within the full.
use mathlib.Core.List.Memᴰ
use mathlib.Core.List.{List}
use Rattle.marks.specs.Sets.{Marks, ◌∈◌, ◌⊆◌, below, OfWidth, with_mark}
use Rattle.readings.specs.Books.{Book, Clashes}
use Rattle.readings.specs.Rules.{Rule, Counts, line, stands, RuleWithin, Fit}
use Rattle.readings.specs.Yields.{Admitted, Allowed, Full, Guarded}
use Rattle.readings.proofs.Sets.{with_within, with_grows}
use Rattle.readings.proofs.Closing.{none_within, least_within}

pub admitted_falls : {lines : List Rule} {facts : Marks} (S : Marks) {S' : Marks} {r : Rule} → S ⊆ S' → Admitted lines facts S' r
    → Admitted lines facts S r
admitted_falls S s a = record { counts = a.counts; exceptions = λ m i t. a.exceptions m i (s m t) }

module _ {B : Book} {lines : List Rule} {facts : Marks} (fit : Fit B lines facts) where
  pub counts_within : {r : Rule} → Counts lines facts r → RuleWithin B.width r
  counts_within (line i) = fit.within _ i
  counts_within (stands t) = record { head = fit.of_width _ t; conditions = λ m i. absurd (Memᴰ.not-nil i); exceptions = λ m i. absurd (Memᴰ.not-nil i) }

  pub head_within : {r : Rule} → Counts lines facts r → r.head ∈ below B.width
  head_within i = (counts_within i).head

  -- a set of the width with the head of a rule is one of the width
  pub with_head : (S : Marks) {r : Rule} → Counts lines facts r → OfWidth B.width S
      → OfWidth B.width (with_mark S r.head)
  with_head S {r} i s = with_within S (below B.width) r.head (head_within i) s

  pub allowed_falls : (S S' : Marks) {r : Rule} → OfWidth B.width S' → S ⊆ S' → Allowed B lines facts S' r
      → Allowed B lines facts S r
  allowed_falls S S' {r} w s a =
      let i = a.admitted.counts in
      record {
        admitted = admitted_falls S s a.admitted;
        head = λ d. a.head (fit.lawful.clash_grows _ _ (with_head S i (λ m t. w m (s m t))) (with_head S' i w) (with_grows S S' r.head s) d);
      }

  -- a rule with its head in T' is allowed at T within T', where the book does not clash at T'
  pub allowed_at : (T T' S : Marks) {r : Rule} → OfWidth B.width T' → T ⊆ T' → T ⊆ S → (Clashes B T' → ⊥)
      → Admitted lines facts S r → r.head ∈ T' → Allowed B lines facts T r
  allowed_at T T' S {r} w t s n a h =
      record {
        admitted = record { counts = a.counts; exceptions = λ m j u. a.exceptions m j (s m u) };
        head = λ d. n (fit.lawful.clash_grows _ T' (with_head T a.counts (λ m u. w m (t m u))) w (with_within T T' r.head h t) d);
      }

  pub full_falls : (S S' : Marks) {X X' : Marks} → S ⊆ S' → Full B lines facts S X → Full B lines facts S' X' → X' ⊆ X
  full_falls S S' {X} s p q = least_within (none_within X) (λ r. admitted_falls S s) q p

  pub guarded_falls : (S S' : Marks) {X X' : Marks} → OfWidth B.width S' → S ⊆ S' → Guarded B lines facts S X
      → Guarded B lines facts S' X' → X' ⊆ X
  guarded_falls S S' {X} w s p q = least_within (none_within X) (λ r. allowed_falls S S' w s) q p

  pub guarded_within_full : {S X Y : Marks} → Guarded B lines facts S X → Full B lines facts S Y → X ⊆ Y
  guarded_within_full {Y = Y} p q = least_within (none_within Y) (λ r a. a.admitted) p q
