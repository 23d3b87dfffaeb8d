-- The computed yields are the yields, and the computed end of the first method is its end.
use mathlib.Core.Bool.{Bool, true, false, ◌&&◌, not}
use mathlib.Core.List.Memᴰ
use mathlib.Core.List.{List, [], map, Memᴰ}
use mathlib.Core.Logic.{inl, inr}
use mathlib.Core.Path.{◌≡◌, refl, subst, subst₂, sym}
use Prim.Native.Nat.{ℕ, zero, suc, ◌+◌, ◌<◌, ◌≤◌}
use native.Mathlib.Nat.{eq-or-lt_of_le, le_of_suc-le-suc, not-suc-le-zero}
use native.Mathlib.Omega.{arith}
use lib.Dec.{T, T_not, not_T}
use Rattle.marks.specs.Sets.{Marks, ◌∈◌, below, no_marks, with_mark, among}
use Rattle.readings.specs.Books.{Book}
use Rattle.readings.specs.Rules.{Rule, Counts, line, stands, fact, Fit}
use Rattle.readings.specs.Yields.{Full, Guarded}
use Rattle.readings.specs.Methods.{Run, start, round, FirstRound, first_method, Stops}
use Rattle.readings.specs.Computed.{listed, agree, has_none, all_rules, full_of, guarded_of, settle_from, settled_of}
use Rattle.marks.proofs.Sets.{equal_within}
use Rattle.readings.proofs.Sets.{both, left, right}
use Rattle.readings.proofs.Closing.{none_within, least_unique, least_by}
use Rattle.readings.proofs.Yields.{head_within}
use Rattle.readings.proofs.FirstRounds.{TWidth, UWidth, run_unique}
use Rattle.readings.proofs.Bound.{rests}
use Rattle.readings.proofs.Listing.{in_among, among_in, among_listed, agree_same, same_agree, has_none_in, in_has_none}
use Rattle.readings.proofs.Filling.{filled_least}

-- what is computed stops there, in at most so many rounds
pub record Ends (B : Book) (lines : List Rule) (facts : Marks) (bound : ℕ) (e : ℕ × List ℕ × List ℕ) : Type 0 where
  pub stops : Stops (first_method B lines facts) e.0 (among e.1) (among e.2)
  pub bounded : e.0 ≤ bound

module _ {B : Book} {lines : List Rule} {facts : Marks} (fit : Fit B lines facts) where
  -- the list of rules has exactly those that count

  counted : {r : Rule} → Counts lines facts r → Memᴰ r (all_rules B.width lines facts)
  counted (line i) = Memᴰ.append_right (map fact (listed B.width facts)) i
  counted (stands {m} t) = Memᴰ.append_left lines (Memᴰ.map fact (in_among m (listed B.width facts) (equal_within (sym (among_listed B.width facts fit.of_width)) m t)))

  counting : (r : Rule) → Memᴰ r (all_rules B.width lines facts) → Counts lines facts r
  counting r i =
      elim (Memᴰ.append_cases (map fact (listed B.width facts)) i) [
        | inl j ↦
            let f = Memᴰ.of_map fact (listed B.width facts) j in
            subst (Counts lines facts) f.2 (stands (equal_within (among_listed B.width facts fit.of_width) f.0 (among_in (listed B.width facts) f.1)))
        | inr j ↦ line j
      ]

  heads_within : (r : Rule) → Memᴰ r (all_rules B.width lines facts) → r.head ∈ below B.width
  heads_within r i = head_within fit (counting r i)

  pub full_right : (S : Marks) → Full B lines facts S (among (full_of B lines facts S))
  full_right S =
      least_by
      (λ r p. record { counts = counting r p.among_rules; exceptions = has_none_in r.exceptions S p.passed })
      (λ r a. record { among_rules = counted a.counts; passed = in_has_none r.exceptions S a.exceptions })
      (filled_least B fit.lawful (all_rules B.width lines facts) heads_within (λ r. has_none r.exceptions S) [] (none_within _))

  pub guarded_right : (S : Marks) → Guarded B lines facts S (among (guarded_of B lines facts S))
  guarded_right S =
      let d : Rule → Bool = λ r. B.clash (with_mark S r.head) in
      let n : Rule → Bool = λ r. has_none r.exceptions S in
      least_by
      (λ r p.
      record {
        admitted = record { counts = counting r p.among_rules; exceptions = has_none_in r.exceptions S (right (not (d r)) (n r) p.passed) };
        head = T_not (d r) (left (not (d r)) (n r) p.passed);
      })
      (λ r a.
      record {
        among_rules = counted a.admitted.counts;
        passed = both (not (d r)) (n r) (not_T (d r) a.head) (in_has_none r.exceptions S a.admitted.exceptions);
      })
      (filled_least B fit.lawful (all_rules B.width lines facts) heads_within (λ r. not (d r) && n r) [] (none_within _))

  -- the computed round
  pub next : (U : Marks)
      → FirstRound B lines facts U (among (full_of B lines facts U)) (among (guarded_of B lines facts (among (full_of B lines facts U))))
  next U = record { full = full_right U; guarded = guarded_right (among (full_of B lines facts U)) }

  abbrev Unrested : ℕ → Type 0
  Unrested k = (j : ℕ) (T' U' : Marks) → j < k → Run (first_method B lines facts) j T' U' → FirstRound B lines facts U' T' U' → ⊥

  -- the sets written down as ts and us, after k rounds, none of which left both as they were
  module _ (k : ℕ) (ts us : List ℕ) (run : Run (first_method B lines facts) k (among ts) (among us)) (first : Unrested k) where
    abbrev T⁺ : Marks
    T⁺ = among (full_of B lines facts (among us))

    abbrev U⁺ : Marks
    U⁺ = among (guarded_of B lines facts T⁺)

    abbrev unchanged : Bool
    unchanged = agree B.width (among ts) T⁺ && agree B.width (among us) U⁺

    stops_here : (among ts ≡ T⁺) × (among us ≡ U⁺) → Stops (first_method B lines facts) (suc k) (among ts) (among us)
    stops_here e =
        record {
          before = k;
          count = refl;
          other = among us;
          upper = refl;
          run = run;
          last = subst₂ (FirstRound B lines facts (among us)) (sym e.0) (sym e.1) (next (among us));
          first = first;
        }

    unchanged_is : T unchanged → (among ts ≡ T⁺) × (among us ≡ U⁺)
    unchanged_is t = (
      agree_same B.width (among ts) T⁺ (TWidth run) (full_right (among us)).of_width (left (agree B.width (among ts) T⁺) (agree B.width (among us) U⁺) t),
      agree_same B.width (among us) U⁺ (UWidth run) (guarded_right T⁺).of_width (right (agree B.width (among ts) T⁺) (agree B.width (among us) U⁺) t),
    )

    -- a rest of the k-th pair would have shown
    still_unrested : (T unchanged → ⊥) → Unrested (suc k)
    still_unrested changes j T₁ U₁ h run₁ r₁ =
        elim (eq-or-lt_of_le (le_of_suc-le-suc h)) [
          | inr l ↦ first j T₁ U₁ l run₁ r₁
          | inl e ↦
              let q = run_unique (subst (λ (i : ℕ). Run (first_method B lines facts) i T₁ U₁) e run₁) run in
              let r : FirstRound B lines facts (among us) (among ts) (among us) = subst₂ (λ (X Y : Marks). FirstRound B lines facts Y X Y) q.0 q.1 r₁ in
              let t : among ts ≡ T⁺ = least_unique r.full (full_right (among us)) in
              let u : among us ≡ U⁺ = least_unique (subst (λ (X : Marks). Guarded B lines facts X (among us)) t r.guarded) (guarded_right T⁺) in
              changes (both (agree B.width (among ts) T⁺) (agree B.width (among us) U⁺) (same_agree B.width (among ts) T⁺ t) (same_agree B.width (among us) U⁺ u))
        ]

  settle_right : (more k : ℕ) (ts us : List ℕ) → Run (first_method B lines facts) k (among ts) (among us) → Unrested k
      → more + k ≡ suc B.width
      → Ends B lines facts (B.width + 2) (settle_from B lines facts more k ts us)
  settle_right zero k ts us run first e =
      let late : B.width < k = omega arith in
      record { stops = stops_here k ts us run first (rests fit late run (next (among us))); bounded = omega arith }
  settle_right (suc more) k ts us run first e =
      go (unchanged k ts us run first) (λ t. t) (λ t. t)
      (λ changes. settle_right more (suc k) _ _ (round run (next (among us))) (still_unrested k ts us run first changes) (omega arith))
    where
      ts' : List ℕ
      ts' = full_of B lines facts (among us)

      us' : List ℕ
      us' = guarded_of B lines facts (among ts')

      go : (b : Bool) → (T b → T (unchanged k ts us run first)) → (T (unchanged k ts us run first) → T b)
          → ((T (unchanged k ts us run first) → ⊥) → Ends B lines facts (B.width + 2) (settle_from B lines facts more (suc k) ts' us'))
          → Ends B lines facts (B.width + 2) (elim b [ true ↦ (suc k, ts, us) | false ↦ settle_from B lines facts more (suc k) ts' us' ])
      go true is from later = record { stops = stops_here k ts us run first (unchanged_is k ts us run first (is tt)); bounded = omega arith }
      go false is from later = later from

  pub settled_right : Ends B lines facts (B.width + 2) (settled_of B lines facts)
  settled_right =
      settle_right (suc B.width) 0 [] (listed B.width (below B.width))
      (subst (Run (first_method B lines facts) 0 no_marks) (sym (among_listed B.width (below B.width) (λ m t. t))) start)
      (λ j T' U' h. absurd (not-suc-le-zero h))
      (omega arith)
