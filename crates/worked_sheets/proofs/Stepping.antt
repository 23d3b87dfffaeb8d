-- The sets after each round, and the yields of one set, as they are computed.
use Rattle.std.proofs.Common.{ℕ, suc, Bool, true, ◌&&◌, T, List, [], ◌∷◌, refl, subst}
use Rattle.marks.specs.Sets.{Marks, below, among}
use Rattle.readings.specs.Computed.{agree, has_all, full_of, guarded_of}
use Rattle.readings.specs.Methods.{Run, start, round, FirstRound, first_method}
use Rattle.readings.specs.Rules.{Fit}
use Rattle.readings.specs.Yields.{Full, Guarded}
use Rattle.readings.specs.declared.method.Method.{Method}
use Rattle.readings.specs.declared.method.Method.TheVariants.{First, Second}
use Rattle.readings.proofs.Computing.{full_right, guarded_right}
use Rattle.readings.proofs.Listing.{agree_same}
use Rattle.readings.proofs.SecondRounds.{first_second}
use Rattle.readings.proofs.Sets.{left, right}
use Rattle.worked_sheets.specs.Outcomes.{After, Goes, YieldsAre}
use Rattle.worked_sheets.specs.Sheets.{Sheet}
use Rattle.worked_sheets.proofs.Fitting.{among_width}

module _ (s : Sheet) where
  abbrev facts : Marks
  facts = among s.facts

  -- whether the yields of a set are those of the lists

  abbrev pub full_test : Marks → List ℕ → Bool
  full_test S X = has_all X (below s.book.width) && agree s.book.width (among (full_of s.book s.lines (among s.facts) S)) (among X)

  abbrev pub guarded_test : Marks → List ℕ → Bool
  guarded_test S X = has_all X (below s.book.width) && agree s.book.width (among (guarded_of s.book s.lines (among s.facts) S)) (among X)

  -- the steps from one at which U was so
  abbrev pub steps_test : Marks → List (List ℕ × List ℕ) → Bool
  steps_test U [] = true
  steps_test U (p ∷ rest) = (full_test U p.0 && guarded_test (among p.0) p.1) && steps_test (among p.1) rest

  module _ (fit : Fit s.book s.lines (among s.facts)) where
    is_full : (S : Marks) (X : List ℕ) → T (full_test S X) → Full s.book s.lines facts S (among X)
    is_full S X t =
        let w = s.book.width in
        let h = has_all X (below w) in
        let Y = among (full_of s.book s.lines facts S) in
        let p = full_right fit S in
        subst (λ (Z : Marks). Full s.book s.lines facts S Z)
        (agree_same w Y (among X) p.of_width (among_width w X (left h (agree w Y (among X)) t)) (right h (agree w Y (among X)) t))
        p

    is_guarded : (S : Marks) (X : List ℕ) → T (guarded_test S X) → Guarded s.book s.lines facts S (among X)
    is_guarded S X t =
        let w = s.book.width in
        let h = has_all X (below w) in
        let Y = among (guarded_of s.book s.lines facts S) in
        let p = guarded_right fit S in
        subst (λ (Z : Marks). Guarded s.book s.lines facts S Z)
        (agree_same w Y (among X) p.of_width (among_width w X (left h (agree w Y (among X)) t)) (right h (agree w Y (among X)) t))
        p

    pub yields_are : (S X Y : List ℕ) → T (full_test (among S) X) → T (guarded_test (among S) Y) → YieldsAre s S X Y
    yields_are S X Y t u = record { is_full = is_full (among S) X t; is_guarded = is_guarded (among S) Y u }

    after : (k : Method) (n : ℕ) (X U : List ℕ) → Run (first_method s.book s.lines facts) n (among X) (among U) → After s k n X U
    after First n X U run = record { other = among U; run = run; upper = refl }
    after Second n X U run = let p = first_second fit run in record { other = p.0; run = p.1; upper = p.2 }

    goes_from : (k : Method) (n : ℕ) (X U : Marks) → Run (first_method s.book s.lines facts) n X U → (steps : List (List ℕ × List ℕ))
        → T (steps_test U steps) → Goes s k (suc n) steps
    goes_from k n X U run [] t = tt
    goes_from k n X U run (p ∷ rest) t =
        let a = full_test U p.0 in
        let b = guarded_test (among p.0) p.1 in
        let r = steps_test (among p.1) rest in
        let h = left (a && b) r t in
        let one : FirstRound s.book s.lines facts U (among p.0) (among p.1) =
        record { full = is_full U p.0 (left a b h); guarded = is_guarded (among p.0) p.1 (right a b h) } in
        let next = round run one in
        (after k (suc n) p.0 p.1 next, goes_from k (suc n) (among p.0) (among p.1) next rest (right (a && b) r t))

    pub goes : T (steps_test (below s.book.width) s.steps) → (k : Method) → Goes s k 1 s.steps
    goes t k = goes_from k 0 _ _ start s.steps t
