-- With the bare book the least reading is the well-founded model.
use mathlib.Core.List.{List}
use mathlib.Core.Logic.{inl, inr}
use mathlib.Core.Path.{◌≡◌, refl}
use Prim.Native.Nat.{ℕ}
use Rattle.marks.specs.Sets.{Marks, ◌⊆◌, below, ◌∖◌, outside}
use Rattle.readings.specs.Books.{Lawful}
use Rattle.readings.specs.Rules.{Rule, Fit}
use Rattle.readings.specs.Yields.{Full, Guarded}
use Rattle.readings.specs.Readings.{LeastReading}
use Rattle.readings.specs.Methods.{Run, start, round, first_method}
use Rattle.readings.specs.WellFounded.{bare, Unfounded, FoundedPair, WellFoundedModel}
use Rattle.readings.specs.ExactlyOne.{ExactlyOne}
use Rattle.marks.proofs.Sets.{same_sets}
use Rattle.readings.proofs.Sets.{or_right, or_cases, less_in, less_left, less_out}
use Rattle.readings.proofs.Listing.{all_or_lacks, none_or_some}
use Rattle.readings.proofs.Closing.{none_within}
use Rattle.readings.proofs.Yields.{counts_within}
use Rattle.readings.proofs.Stopping.{one_least_reading, least_run}

pub bare_lawful : (w : ℕ) → Lawful (bare w)
bare_lawful w =
    record {
      of_width = λ S s. s;
      extensive = λ S s m t. t;
      monotone = λ S S' s s' i. i;
      idempotent = λ S s. refl;
      clash_grows = λ S S' s s' i c. c;
      clash_comes_back = λ S s c. c;
      clash_gives_all = λ S s c. absurd c;
    }

module _ {w : ℕ} {lines : List Rule} {facts : Marks} where
  reading_pair : {T U : Marks} → Full (bare w) lines facts U T → Guarded (bare w) lines facts T U
      → FoundedPair w lines facts T (outside w U)
  reading_pair {T} {U} p g =
      record {
        TOfWidth = p.of_width;
        FOfWidth = less_left (below w) U;
        heads = λ r i c e. p.heads r (record { counts = i; exceptions = λ m j u. less_out (below w) U m (e m j) u }) c;
        unfounded = λ X xw unf m t. less_in (below w) U m (xw m t) (λ u. less_out U X m (apart X unf m u) t);
      }
    where
      -- U has nothing of an unfounded set
      apart : (X : Marks) → Unfounded w lines facts T (outside w U) X → U ⊆ U ∖ X
      apart X unf =
          g.least (U ∖ X) (λ m t. g.of_width m (less_left U X m t)) (none_within (U ∖ X)) refl
          (λ r a c.
          less_in U X r.head (g.heads r a (λ m j. less_left U X m (c m j)))
          (λ h. elim (unf r a.admitted.counts h) [
            | inl f ↦
                elim (or_cases (outside w U f.0) (X f.0) f.2) [
                  | inl o ↦ less_out (below w) U f.0 o (less_left U X f.0 (c f.0 f.1))
                  | inr x ↦ less_out U X f.0 (c f.0 f.1) x
                ]
            | inr s ↦ a.admitted.exceptions s.0 s.1 s.2
          ]))

  model_unique : {T F T' F' : Marks} → WellFoundedModel w lines facts T F → WellFoundedModel w lines facts T' F'
      → (T ≡ T') × (F ≡ F')
  model_unique p q =
      let a = p.least _ _ q.pair in
      let b = q.least _ _ p.pair in
      (same_sets a.0 b.0, same_sets a.1 b.1)

module _ {w : ℕ} {lines : List Rule} {facts : Marks} (fit : Fit (bare w) lines facts) where
  run_within : {k : ℕ} {T U T' F' : Marks} → Run (first_method (bare w) lines facts) k T U → FoundedPair w lines facts T' F'
      → (T ⊆ T') × (outside w U ⊆ F')
  run_within start p = (none_within _, λ m t. absurd (less_out (below w) (below w) m t (less_left (below w) (below w) m t)))
  run_within {T = T} {U} {T'} {F'} (round {V = U₀} run q) p =
      let before = run_within run p in
      let t : T ⊆ T' = q.full.least T' p.TOfWidth (none_within T') refl
      (λ r a c. p.heads r a.counts c (λ m j. before.1 m (less_in (below w) U₀ m ((counts_within fit a.counts).exceptions m j) (a.exceptions m j)))) in (
        t,
        p.unfounded (outside w U) (less_left (below w) U) (λ r i h.
            elim (all_or_lacks r.conditions U) [
              | inr c ↦ inl (c.0, c.1, or_right (F' c.0) (outside w U c.0) (less_in (below w) U c.0 ((counts_within fit i).conditions c.0 c.1) c.2))
              | inl c ↦
                  elim (none_or_some r.exceptions T) [
                    | inr e ↦ inr (e.0, e.1, t e.0 e.2)
                    | inl e ↦ absurd (less_out (below w) U r.head h (q.guarded.heads r (record { admitted = record { counts = i; exceptions = e }; head = λ d. d }) c))
                  ]
            ]),
      )

  pub reading_model : {T U : Marks} → LeastReading (bare w) lines facts T U → WellFoundedModel w lines facts T (outside w U)
  reading_model p =
      record {
        pair = reading_pair p.reading.full p.reading.guarded;
        least = λ T' F'. run_within (least_run fit p).1;
      }

  pub one_model : ExactlyOne (λ (p : Marks × Marks). WellFoundedModel w lines facts p.0 p.1)
  one_model =
      let r = one_least_reading fit in
      let p = reading_model r.holds in
      record { it = (r.it.0, outside w r.it.1); holds = p; only = λ a h. let q = model_unique h p in λ i. (q.0 i, q.1 i) }
