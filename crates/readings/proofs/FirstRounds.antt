-- The rounds of the first method: T grows, U shrinks, and where a round changes nothing is the least reading.
use mathlib.Core.List.{List}
use mathlib.Core.Path.{◌≡◌, refl, subst}
use Prim.Native.Nat.{ℕ}
use Rattle.marks.specs.Sets.{Marks, ◌⊆◌, OfWidth}
use Rattle.readings.specs.Books.{Book}
use Rattle.readings.specs.Rules.{Rule, Fit}
use Rattle.readings.specs.Yields.{Full, Guarded}
use Rattle.readings.specs.Readings.{Reading, LeastReading}
use Rattle.readings.specs.Methods.{Run, start, round, FirstRound, first_method}
use Rattle.marks.proofs.Sets.{same_sets}
use Rattle.readings.proofs.Closing.{none_within, least_unique}
use Rattle.readings.proofs.Yields.{full_falls, guarded_falls}

module _ {B : Book} {lines : List Rule} {facts : Marks} where
  pub TWidth : {k : ℕ} {T U : Marks} → Run (first_method B lines facts) k T U → OfWidth B.width T
  TWidth start = none_within _
  TWidth (round run r) = r.full.of_width

  pub UWidth : {k : ℕ} {T U : Marks} → Run (first_method B lines facts) k T U → OfWidth B.width U
  UWidth start = λ m t. t
  UWidth (round run r) = r.guarded.of_width

  pub run_unique : {k : ℕ} {T U T' U' : Marks} → Run (first_method B lines facts) k T U → Run (first_method B lines facts) k T' U'
      → (T ≡ T') × (U ≡ U')
  run_unique start start = (refl, refl)
  run_unique (round {V = U} {T' = T} {V' = W} run r) (round {V = U₁} {T' = T₁} run₁ r₁) =
      let e : U ≡ U₁ = (run_unique run run₁).1 in
      let t : T ≡ T₁ = least_unique (subst (λ (V : Marks). Full B lines facts V T) e r.full) r₁.full in
      (t, least_unique (subst (λ (V : Marks). Guarded B lines facts V W) t r.guarded) r₁.guarded)

  pub least_reading_unique : {T U T' U' : Marks} → LeastReading B lines facts T U → LeastReading B lines facts T' U'
      → (T ≡ T') × (U ≡ U')
  least_reading_unique p q =
      let a = p.least _ _ q.reading in
      let b = q.least _ _ p.reading in
      (same_sets a.0 b.0, same_sets b.1 a.1)

module _ {B : Book} {lines : List Rule} {facts : Marks} (fit : Fit B lines facts) where
  pub moves : {k : ℕ} {T U T' U' : Marks} → Run (first_method B lines facts) k T U → FirstRound B lines facts U T' U'
      → (T ⊆ T') × (U' ⊆ U)
  moves start r = (none_within _, r.guarded.of_width)
  moves (round run r₀) r =
      let t = full_falls fit _ _ (moves run r₀).1 r.full r₀.full in
      (t, guarded_falls fit _ _ r.full.of_width t r₀.guarded r.guarded)

  -- every reading lies between the sets of a run
  pub between : {k : ℕ} {T U T' U' : Marks} → Run (first_method B lines facts) k T U → Reading B lines facts T' U'
      → (T ⊆ T') × (U' ⊆ U)
  between start r = (none_within _, r.guarded.of_width)
  between (round run r₀) r =
      let t = full_falls fit _ _ (between run r).1 r.full r₀.full in
      (t, guarded_falls fit _ _ r.full.of_width t r₀.guarded r.guarded)

  pub rests_at_least : {k : ℕ} {T U : Marks} → Run (first_method B lines facts) k T U → FirstRound B lines facts U T U
      → LeastReading B lines facts T U
  rests_at_least run r = record { reading = record { full = r.full; guarded = r.guarded }; least = λ T' U'. between run }
