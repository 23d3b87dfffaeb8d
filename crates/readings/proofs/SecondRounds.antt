-- The rounds of the second method go through the pairs of the first.
use mathlib.Core.Bool.{Bool, true, false, ◌&&◌, ◌||◌, not, and-true}
use mathlib.Core.List.{List}
use mathlib.Core.Path.{◌≡◌, refl, subst, sym, ap, fun_ext, ◌∙◌}
use Prim.Native.Nat.{ℕ}
use lib.Dec.{T}
use Rattle.marks.specs.Sets.{Marks, ◌⊆◌, below, no_marks, OfWidth, ◌∪◌, outside}
use Rattle.readings.specs.Books.{Book, Closed}
use Rattle.readings.specs.Rules.{Rule, Counts, Fit, AllIn, NoneIn}
use Rattle.readings.specs.Yields.{HasHeads, LeastClosed, Admitted, Allowed, Full, Guarded}
use Rattle.readings.specs.Methods.{Run, start, round, FirstRound, first_method, PastExceptions, NotRefuted, SecondRound, second_method}
use Rattle.marks.proofs.Sets.{same_sets}
use Rattle.readings.proofs.Sets.{or_left, join_within, less_out, not_outside, outside_twice}
use Rattle.readings.proofs.Closing.{none_within, all_closed, least_in}
use Rattle.readings.proofs.Yields.{counts_within, head_within, admitted_falls, allowed_falls}
use Rattle.readings.proofs.FirstRounds.{UWidth, moves}

-- at one mark: a, it is a mark of the width; f, it is in F; y, it is in Y
drop_to : (a f y : Bool) → (T y → T (a && not f)) → (a && not (f || (a && not y))) ≡ y
drop_to true true true h = absurd (h tt)
drop_to true true false h = refl
drop_to true false true h = refl
drop_to true false false h = refl
drop_to false f true h = absurd (h tt)
drop_to false f false h = refl

-- U once the marks outside Y have joined F
pub upper_joined : (w : ℕ) (F Y : Marks) → Y ⊆ outside w F → outside w (F ∪ outside w Y) ≡ Y
upper_joined w F Y y = fun_ext (λ m. drop_to (below w m) (F m) (Y m) (y m))

module _ {B : Book} {lines : List Rule} {facts : Marks} (fit : Fit B lines facts) where
  -- T lies within each closed set that has the heads at U
  pub TWithin : {k : ℕ} {T U : Marks} → Run (first_method B lines facts) k T U → (Z : Marks) → OfWidth B.width Z → Closed B Z
      → HasHeads (Admitted lines facts U) Z → T ⊆ Z
  TWithin start Z zw zc zh = none_within Z
  TWithin (round run r) Z zw zc zh = r.full.least Z zw (none_within Z) zc (λ q a. zh q (admitted_falls _ (moves fit run r).1 a))

  pub UClosed : {k : ℕ} {T U : Marks} → Run (first_method B lines facts) k T U → Closed B U
  UClosed start = all_closed B fit.lawful
  UClosed (round run r) = r.guarded.closed

  pub UHeads : {k : ℕ} {T U : Marks} (T' : Marks) → OfWidth B.width T' → Run (first_method B lines facts) k T U → T ⊆ T'
      → HasHeads (Allowed B lines facts T') U
  UHeads T' w start t r a c = head_within fit a.admitted.counts
  UHeads T' w (round run q) t r a c = q.guarded.heads r (allowed_falls fit _ T' w t a) c

  -- an exception that is not outside F is in it
  in_F : (F : Marks) {r : Rule} → Counts lines facts r → NoneIn r.exceptions (outside B.width F) → AllIn r.exceptions F
  in_F F i e m j = not_outside B.width F m ((counts_within fit i).exceptions m j) (e m j)

  past : (F : Marks) {r : Rule} → Admitted lines facts (outside B.width F) r → PastExceptions B lines facts F r
  past F a = record { counts = a.counts; exceptions = in_F F a.counts a.exceptions }

  not_past : (F : Marks) {r : Rule} → PastExceptions B lines facts F r → Admitted lines facts (outside B.width F) r
  not_past F p = record { counts = p.counts; exceptions = λ m j t. less_out (below B.width) F m t (p.exceptions m j) }

  allowed : (F T : Marks) {r : Rule} → NotRefuted B lines facts F T r → Allowed B lines facts T r
  allowed F T n = record { admitted = record { counts = n.counts; exceptions = n.exceptions }; head = n.head }

  not_refuted : (F T Y : Marks) {r : Rule} → Y ⊆ outside B.width F → AllIn r.conditions Y → Allowed B lines facts T r
      → NotRefuted B lines facts F T r
  not_refuted F T Y y c a =
      record {
        counts = a.admitted.counts;
        conditions = λ m j. less_out (below B.width) F m (y m (c m j));
        exceptions = a.admitted.exceptions;
        head = a.head;
      }

  -- one round, from a pair that the first method has reached
  module _ {k : ℕ} {T : Marks} (F : Marks) (run : Run (first_method B lines facts) k T (outside B.width F)) where
    pub grown_full : {T' : Marks} → LeastClosed B T (PastExceptions B lines facts F) T'
        → Full B lines facts (outside B.width F) T'
    grown_full g =
        record {
          of_width = g.of_width;
          around = none_within _;
          closed = g.closed;
          heads = λ r a. g.heads r (past F a);
          least = λ Z zw za zc zh. g.least Z zw (TWithin run Z zw zc zh) zc (λ r p. zh r (not_past F p));
        }

    full_grown : {T' : Marks} → Full B lines facts (outside B.width F) T'
        → LeastClosed B T (PastExceptions B lines facts F) T'
    full_grown p =
        record {
          of_width = p.of_width;
          around = TWithin run _ p.of_width p.closed p.heads;
          closed = p.closed;
          heads = λ r q. p.heads r (not_past F q);
          least = λ Z zw za zc zh. p.least Z zw (none_within Z) zc (λ r a. zh r (past F a));
        }

    kept_outside : {T' Y : Marks} → OfWidth B.width T' → T ⊆ T' → LeastClosed B no_marks (NotRefuted B lines facts F T') Y
        → Y ⊆ outside B.width F
    kept_outside {T'} w t y =
        y.least (outside B.width F) (UWidth run) (none_within (outside B.width F)) (UClosed run)
        (λ r n c. UHeads T' w run t r (allowed F T' n) c)

    kept_guarded : {T' Y : Marks} → Y ⊆ outside B.width F → LeastClosed B no_marks (NotRefuted B lines facts F T') Y
        → Guarded B lines facts T' Y
    kept_guarded {T'} {Y} o y =
        record {
          of_width = y.of_width;
          around = none_within Y;
          closed = y.closed;
          heads = λ r a c. y.heads r (not_refuted F T' Y o c a) c;
          least = λ Z zw za zc zh. y.least Z zw za zc (λ r n c. zh r (allowed F T' n) c);
        }

    pub guarded_kept : {T' Y : Marks} → Y ⊆ outside B.width F → Guarded B lines facts T' Y
        → LeastClosed B no_marks (NotRefuted B lines facts F T') Y
    guarded_kept {T'} {Y} o p =
        record {
          of_width = p.of_width;
          around = none_within Y;
          closed = p.closed;
          heads = λ r n c. p.heads r (allowed F T' n) c;
          least = λ Z zw za zc zh. least_in B fit.lawful p Z zw za zc (λ r a cy cz h. zh r (not_refuted F T' Y o cy a) cz);
        }

  pub second_first : {k : ℕ} {T F : Marks} → Run (second_method B lines facts) k T F
      → Run (first_method B lines facts) k T (outside B.width F)
  second_first start = subst (Run (first_method B lines facts) 0 no_marks) (fun_ext (λ m. sym (and-true (below B.width m)))) start
  second_first (round {V = F} {T' = T'} {V' = F'} run s) =
      let before = second_first run in
      let o = kept_outside F before s.grown.of_width s.grown.around s.kept in
      let e : s.Y ≡ outside B.width F' = sym (upper_joined B.width F s.Y o) ∙ sym (ap (outside B.width) s.joined) in
      subst (Run (first_method B lines facts) _ T') e
      (round before (record { full = grown_full F before s.grown; guarded = kept_guarded F before o s.kept }))

  pub first_second : {k : ℕ} {T U : Marks} → Run (first_method B lines facts) k T U
      → (F : Marks) × Run (second_method B lines facts) k T F × (U ≡ outside B.width F)
  first_second start = (no_marks, start, fun_ext (λ m. sym (and-true (below B.width m))))
  first_second (round {k} {T} {V = U} {T'} {V' = U'} run r) =
      let p = first_second run in
      let F = p.0 in
      let before : Run (first_method B lines facts) k T (outside B.width F) = subst (Run (first_method B lines facts) k T) p.2 run in
      let r' : FirstRound B lines facts (outside B.width F) T' U' = subst (λ (V : Marks). FirstRound B lines facts V T' U') p.2 r in
      let o : U' ⊆ outside B.width F = (moves fit before r').1 in (
        F ∪ outside B.width U',
        round p.1 (record { grown = full_grown F before r'.full; Y = U'; kept = guarded_kept F before o r'.guarded; joined = refl }),
        sym (upper_joined B.width F U' o),
      )

  -- the one rests where the other does
  pub second_rests : {k : ℕ} {T U : Marks} → Run (first_method B lines facts) k T U → FirstRound B lines facts U T U
      → (F : Marks) × Run (second_method B lines facts) k T F × (U ≡ outside B.width F) × SecondRound B lines facts T F T F
  second_rests {k} {T} {U} run r =
      let p = first_second run in
      let F = p.0 in
      let before : Run (first_method B lines facts) k T (outside B.width F) = subst (Run (first_method B lines facts) k T) p.2 run in
      let r' : FirstRound B lines facts (outside B.width F) T (outside B.width F) = subst (λ (V : Marks). FirstRound B lines facts V T V) p.2 r in (
        F,
        p.1,
        p.2,
        record {
          grown = full_grown F before r'.full;
          Y = outside B.width F;
          kept = guarded_kept F before (λ m t. t) r'.guarded;
          joined = same_sets (λ m t. or_left (F m) (outside B.width (outside B.width F) m) t)
              (join_within F (outside B.width (outside B.width F)) F (λ m t. t) (outside_twice B.width F));
        },
      )

  pub first_rests : {k : ℕ} {T F : Marks} → Run (second_method B lines facts) k T F → SecondRound B lines facts T F T F
      → FirstRound B lines facts (outside B.width F) T (outside B.width F)
  first_rests {T = T} {F} run s =
      let before = second_first run in
      let o = kept_outside F before s.grown.of_width s.grown.around s.kept in
      let e : s.Y ≡ outside B.width F = sym (upper_joined B.width F s.Y o) ∙ sym (ap (outside B.width) s.joined) in
      record { full = grown_full F before s.grown; guarded = subst (Guarded B lines facts T) e (kept_guarded F before o s.kept) }
