-- A loop of rounds: from the start of a method to the first round that changes nothing.
use Rattle.std.proofs.Common.{◌≡◌, ℕ, suc, ◌+◌, ◌*◌, ◌<◌, ◌≤◌, Bool, true, false, ◌⊎◌, sym, refl, subst, subst₂, inl, inr, arith}
use Rattle.std.proofs.lemmas.Bool.{cases_lt}
use Rattle.marks.specs.declared.set.MarkSet.{MarkSet}
use Rattle.marks.specs.MarkSets.{marks_of}
use Rattle.marks.specs.Sets.{Marks, no_marks}
use Rattle.readings.specs.Methods.{Way, Run, start, round, Stops}
use Rattle.settling.specs.Rounding.{Rounded}

-- What is asked of a way: a round has one result, and a round that changes something leaves less to do.
pub record GoingWay (W : Way) (w : ℕ) (left : Marks → Marks → ℕ) : Type 0 where
  pub once : (T V T₁ V₁ T₂ V₂ : Marks) → W.round T V T₁ V₁ → W.round T V T₂ V₂ → (T₁ ≡ T₂) × (V₁ ≡ V₂)
  pub falls : (k : ℕ) (T V T' V' : Marks) → Run W k T V → W.round T V T' V' → (T' ≡ T → V' ≡ V → ⊥) → left T' V' < left T V
  pub start : left no_marks W.start ≤ 2 * w

-- before the n-th round: so many rounds less one were made, and each of them changed something
pub record Going (W : Way) (w : ℕ) (left : Marks → Marks → ℕ) (n : ℕ) (T V : MarkSet) : Type 0 where
  pub lower : T.width ≡ w
  pub other : V.width ≡ w
  pub before : ℕ
  pub count : n ≡ suc before
  pub run : Run W before (marks_of T) (marks_of V)
  pub moving : (j : ℕ) (T' V' : Marks) → j < before → Run W j T' V' → W.round T' V' T' V' → ⊥
  pub few : n + left (marks_of T) (marks_of V) ≤ 2 * w + 1

module _ (W : Way) (w : ℕ) (left : Marks → Marks → ℕ) (way : GoingWay W w left) where
  run_once : {k : ℕ} {T V T' V' : Marks} → Run W k T V → Run W k T' V' → (T ≡ T') × (V ≡ V')
  run_once start start = (refl, refl)
  run_once (round {T' = T'} {V' = V'} run r) (round {T = T₁} {V = V₁} {T' = T₁'} {V' = V₁'} run₁ r₁) =
      let e = run_once run run₁ in
      way.once T₁ V₁ T' V' T₁' V₁' (subst₂ (λ (X Y : Marks). W.round X Y T' V') e.0 e.1 r) r₁

  pub going_start : {T V : MarkSet} → T.width ≡ w → V.width ≡ w → marks_of T ≡ no_marks → marks_of V ≡ W.start → Going W w left 1 T V
  going_start {T} {V} tw vw t v =
      let run : Run W 0 (marks_of T) (marks_of V) = subst₂ (λ (X Y : Marks). Run W 0 X Y) (sym t) (sym v) start in
      let l : left (marks_of T) (marks_of V) ≤ 2 * w = subst₂ (λ (X Y : Marks). left X Y ≤ 2 * w) (sym t) (sym v) way.start in
      record { lower = tw; other = vw; before = 0; count = refl; run = run; moving = λ j T' V' h. absurd (omega arith); few = omega arith }

  module _ {n : ℕ} {T V T' V' : MarkSet} (go : Going W w left n T V) where
    pub going_less : {changed : Bool} → Rounded W w T V T' V' changed → changed ≡ true → left (marks_of T') (marks_of V') < left (marks_of T) (marks_of V)
    going_less r is = way.falls go.before (marks_of T) (marks_of V) (marks_of T') (marks_of V') go.run r.round (r.differ is)

    pub going_on : {changed : Bool} → Rounded W w T V T' V' changed → changed ≡ true → Going W w left (n + 1) T' V'
    going_on r is =
        let less = going_less r is in
        let few = go.few in
        let c = go.count in
        record {
          lower = r.lower;
          other = r.other;
          before = suc go.before;
          count = omega arith;
          run = round go.run r.round;
          moving = λ j X Y h run rest. moves j X Y run rest (cases_lt j go.before) (omega arith);
          few = omega arith;
        }
      where
        moves : (j : ℕ) (X Y : Marks) → Run W j X Y → W.round X Y X Y → (j < go.before) ⊎ (go.before ≤ j) → j ≤ go.before → ⊥
        moves j X Y run rest (inl l) h = go.moving j X Y l run rest
        moves j X Y run rest (inr l) h =
            let e : j ≡ go.before = omega arith in
            let same = run_once (subst (λ (k : ℕ). Run W k X Y) e run) go.run in
            let here : W.round (marks_of T) (marks_of V) (marks_of T) (marks_of V) = subst₂ (λ (A C : Marks). W.round A C A C) same.0 same.1 rest in
            let u = way.once (marks_of T) (marks_of V) (marks_of T') (marks_of V') (marks_of T) (marks_of V) r.round here in
            r.differ is u.0 u.1

    -- the round that changed nothing is the last
    pub going_end : {changed : Bool} → Rounded W w T V T' V' changed → changed ≡ false → Stops W n (marks_of T') (W.upper (marks_of V'))
    going_end r is =
        let same = r.same is in
        let last : W.round (marks_of T) (marks_of V) (marks_of T) (marks_of V) =
        subst₂ (λ (A C : Marks). W.round (marks_of T) (marks_of V) A C) same.0 same.1 r.round in
        subst₂ (λ (A C : Marks). Stops W n A (W.upper C)) (sym same.0) (sym same.1)
        (record { before = go.before; count = go.count; other = marks_of V; run = go.run; last = last; first = go.moving; upper = refl })
