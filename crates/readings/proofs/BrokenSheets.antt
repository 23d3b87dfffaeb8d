-- Facts are broken exactly when the book clashes at T: while it does not, T lies within U.
use mathlib.Core.List.{List}
use mathlib.Core.Logic.{◌↔◌, inl, inr}
use mathlib.Core.Path.{◌≡◌, sym, ◌∙◌}
use Prim.Native.Nat.{ℕ}
use Rattle.marks.specs.Sets.{Marks, ◌⊆◌, below, no_marks, OfWidth}
use Rattle.readings.specs.Books.{Book, Clashes, Closed}
use Rattle.readings.specs.Rules.{Rule, Fit}
use Rattle.readings.specs.Readings.{LeastReading}
use Rattle.readings.specs.Methods.{Run, start, round, first_method}
use Rattle.readings.specs.Says.{IsBroken}
use Rattle.readings.specs.Theorems.{BrokenFacts}
use Rattle.marks.proofs.Sets.{equal_within}
use Rattle.readings.proofs.Sets.{with_old, within_or_lacks, decide}
use Rattle.readings.proofs.Closing.{none_within, least_in}
use Rattle.readings.proofs.Yields.{with_head, allowed_at}
use Rattle.readings.proofs.FirstRounds.{TWidth, UWidth, moves}
use Rattle.readings.proofs.SecondRounds.{UClosed, UHeads}
use Rattle.readings.proofs.Stopping.{least_run}

module _ {B : Book} {lines : List Rule} {facts : Marks} (fit : Fit B lines facts) where
  pub TWithinU : {k : ℕ} {T U : Marks} → Run (first_method B lines facts) k T U → (Clashes B T → ⊥) → T ⊆ U
  TWithinU start n = none_within _
  TWithinU (round {T = T} {V = U} {T' = T'} {V' = U'} run r) n =
      let w = r.full.of_width in
      let t : T ⊆ T' = (moves fit run r).0 in
      let before : T ⊆ U = TWithinU run (λ c. n (fit.lawful.clash_grows T T' (TWidth run) w t c)) in
      let old : T' ⊆ U = least_in B fit.lawful r.full U (UWidth run) (none_within U) (UClosed fit run)
      (λ q a cx c h. UHeads fit T (TWidth run) run (λ m u. u) q (allowed_at fit T T' U w t before n a h) c) in
      least_in B fit.lawful r.full U' r.guarded.of_width (none_within U') r.guarded.closed
      (λ q a cx c h. r.guarded.heads q (allowed_at fit T' T' U w (λ m u. u) old n a h) c)

  clash_if_broken : {T U : Marks} → LeastReading B lines facts T U → IsBroken B T U → Clashes B T
  clash_if_broken {T} p (inl c) = fit.lawful.clash_grows no_marks T (none_within _) p.reading.full.of_width (none_within T) c
  clash_if_broken {T} {U} p (inr b) =
      elim (decide (B.clash T)) [
        | inl c ↦ c
        | inr n ↦ absurd (b.1.1 (TWithinU (least_run fit p).1 n b.0 b.1.0))
      ]

  -- a closed set at which the book clashes is all marks
  all_at : {X : Marks} → OfWidth B.width X → Closed B X → Clashes B X → X ≡ below B.width
  all_at {X} w closed c = sym closed ∙ fit.lawful.clash_gives_all X w c

  -- where the book clashes at T, T is all marks, and it denies every head there, so that U is the closure of nothing
  broken_if_clash : {T U : Marks} → LeastReading B lines facts T U → Clashes B T → IsBroken B T U
  broken_if_clash {T} {U} p c =
      elim (within_or_lacks B.width (below B.width) U (λ m t. t)) [
        | inr l ↦ inr (l.0, (all l.0 l.1, l.2))
        | inl a ↦ inl (fit.lawful.clash_comes_back no_marks (none_within _) (fit.lawful.clash_grows T (B.closure no_marks) w none_width (λ m t. UWithin m (a m (w m t))) c))
      ]
    where
      w : OfWidth B.width T
      w = p.reading.full.of_width

      none_width : OfWidth B.width (B.closure no_marks)
      none_width = fit.lawful.of_width no_marks (none_within _)

      all : below B.width ⊆ T
      all = equal_within (sym (all_at w p.reading.full.closed c))

      UWithin : U ⊆ B.closure no_marks
      UWithin =
          p.reading.guarded.least (B.closure no_marks) none_width (none_within _) (fit.lawful.idempotent no_marks (none_within _))
          (λ r a k. absurd (a.head (fit.lawful.clash_grows T _ w (with_head fit T a.admitted.counts w) (with_old T r.head) c)))

  pub broken_is_clash : {T U : Marks} → LeastReading B lines facts T U → IsBroken B T U ↔ Clashes B T
  broken_is_clash p = (clash_if_broken p, broken_if_clash p)

  everything_at : {X : Marks} → OfWidth B.width X → Closed B X → Clashes B no_marks → X ≡ below B.width
  everything_at {X} w closed c = all_at w closed (fit.lawful.clash_grows no_marks X (none_within _) w (none_within X) c)

  pub broken_is_a_clash : BrokenFacts B lines facts
  broken_is_a_clash =
      record {
        exactly = λ T U p. broken_is_clash p;
        all = λ T U p b. all_at p.reading.full.of_width p.reading.full.closed (clash_if_broken p b);
        within = λ T U p n m t. elim (decide (U m)) [ inl h ↦ h | inr f ↦ absurd (n (inr (m, (t, f)))) ];
        contradicting = λ T U p c. let y = p.reading in (everything_at y.full.of_width y.full.closed c, everything_at y.guarded.of_width y.guarded.closed c);
      }
