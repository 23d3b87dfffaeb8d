-- Every sound reading lies between the sets of the least reading, so it is found by trying all sets between them.
use Rattle.std.proofs.Common.{◌≡◌, ℕ, zero, suc, Bool, true, false, not, ◌&&◌, ◌||◌, T, List, [], ◌∷◌, sym, refl, ◌∙◌, subst, inl, inr, T_not}
use mathlib.Core.List.Memᴰ
use mathlib.Core.List.{Memᴰ}
use lib.Dec.{not_T}
use Rattle.marks.specs.Sets.{Marks, ◌∈◌, ◌⊆◌, below, OfWidth, among}
use Rattle.readings.specs.Books.{Book}
use Rattle.readings.specs.Computed.{keep, listed, agree, has_all, full_of}
use Rattle.readings.specs.Readings.{LeastReading, Sound}
use Rattle.readings.specs.Rules.{Rule, Fit}
use Rattle.readings.specs.Yields.{Full}
use Rattle.readings.proofs.Closing.{least_unique}
use Rattle.readings.proofs.Computing.{full_right}
use Rattle.readings.proofs.Listing.{among_listed, agree_same, same_agree}
use Rattle.readings.proofs.Sets.{both, left, right, or_cases}
use Rattle.readings.proofs.SoundReadings.{sound_between}
use Rattle.worked_sheets.proofs.Fitting.{among_width}

-- whether a test holds of all sets below w that lie between X and U, written down as lists

abbrev pub between : (X U : Marks) → ℕ → (List ℕ → Bool) → Bool
between X U zero P = P []
between X U (suc w) P = between X U w (λ ms. (not (U w) || P (w ∷ ms)) && (X w || P ms))

module _ (X U M : Marks) (x : X ⊆ M) (u : M ⊆ U) where
  kept_mark : (w : ℕ) (P : List ℕ → Bool) (ms : List ℕ) (b : Bool) → (T b → w ∈ U) → (w ∈ X → T b)
      → T ((not (U w) || P (w ∷ ms)) && (X w || P ms)) → T (P (keep b w ms))
  kept_mark w P ms true up down t =
      elim (or_cases (not (U w)) (P (w ∷ ms)) (left (not (U w) || P (w ∷ ms)) (X w || P ms) t)) [ inl n ↦ absurd (T_not (U w) n (up tt)) | inr p ↦ p ]
  kept_mark w P ms false up down t =
      elim (or_cases (X w) (P ms) (right (not (U w) || P (w ∷ ms)) (X w || P ms) t)) [ inl h ↦ absurd (down h) | inr p ↦ p ]

  pub tried : (w : ℕ) (P : List ℕ → Bool) → T (between X U w P) → T (P (listed w M))
  tried zero P t = t
  tried (suc w) P t = kept_mark w P (listed w M) (M w) (u w) (x w) (tried w (λ ms. (not (U w) || P (w ∷ ms)) && (X w || P ms)) t)

-- whether a set, written down as a list, is a sound reading; and whether it is one of the given sets

module _ (B : Book) (lines : List Rule) (facts : Marks) where
  abbrev pub sound_test : List ℕ → Bool
  sound_test ms = agree B.width (among ms) (among (full_of B lines facts (among ms))) && not (B.clash (among ms))

  abbrev pub all_sound : List (List ℕ) → Bool
  all_sound [] = true
  all_sound (ms ∷ rest) = (has_all ms (below B.width) && sound_test ms) && all_sound rest

abbrev pub one_of : ℕ → List (List ℕ) → List ℕ → Bool
one_of w [] xs = false
one_of w (ms ∷ rest) xs = agree w (among xs) (among ms) || one_of w rest xs

one_of_is : (w : ℕ) (sets : List (List ℕ)) → ((ms : List ℕ) → Memᴰ ms sets → OfWidth w (among ms)) → (xs : List ℕ) → OfWidth w (among xs)
    → T (one_of w sets xs) → (ms : List ℕ) × Memᴰ ms sets × (among xs ≡ among ms)
one_of_is w [] of xs x t = absurd t
one_of_is w (ms ∷ rest) of xs x t =
    elim (or_cases (agree w (among xs) (among ms)) (one_of w rest xs) t) [
      | inl a ↦ (ms, Memᴰ.head refl, agree_same w (among xs) (among ms) x (of ms (Memᴰ.head refl)) a)
      | inr o ↦ let p = one_of_is w rest (λ ks i. of ks (Memᴰ.tail i)) xs x o in (p.0, Memᴰ.tail p.1, p.2)
    ]

module _ {B : Book} {lines : List Rule} {facts : Marks} (fit : Fit B lines facts) where
  sound_is : (ms : List ℕ) → T (has_all ms (below B.width)) → T (sound_test B lines facts ms) → Sound B lines facts (among ms)
  sound_is ms h t =
      let a = agree B.width (among ms) (among (full_of B lines facts (among ms))) in
      let c = B.clash (among ms) in
      let p = full_right fit (among ms) in
      let e = agree_same B.width (among ms) (among (full_of B lines facts (among ms))) (among_width B.width ms h) p.of_width (left a (not c) t) in
      record {
        full = subst (λ (X : Marks). Full B lines facts (among ms) X) (sym e) p;
        no_clash = T_not c (right a (not c) t);
      }

  pub each_sound : (sets : List (List ℕ)) → T (all_sound B lines facts sets) → (ms : List ℕ) → Memᴰ ms sets → Sound B lines facts (among ms)
  each_sound [] t ms i = absurd (Memᴰ.not-nil i)
  each_sound (ks ∷ rest) t ms i =
      let h = has_all ks (below B.width) in
      let s = sound_test B lines facts ks in
      let r = all_sound B lines facts rest in
      elim (Memᴰ.cases_cons i) [
        | inl p ↦ subst (λ (xs : List ℕ). Sound B lines facts (among xs)) (sym p) (sound_is ks (left h s (left (h && s) r t)) (right h s (left (h && s) r t)))
        | inr j ↦ each_sound rest (right (h && s) r t) ms j
      ]

  -- a sound reading shows in the test
  sound_shows : (ms : List ℕ) → Sound B lines facts (among ms) → T (sound_test B lines facts ms)
  sound_shows ms s =
      both (agree B.width (among ms) (among (full_of B lines facts (among ms)))) (not (B.clash (among ms)))
      (same_agree B.width (among ms) (among (full_of B lines facts (among ms))) (least_unique s.full (full_right fit (among ms))))
      (not_T (B.clash (among ms)) s.no_clash)

  pub no_other_sound : (sets : List (List ℕ)) {X U : Marks} → T (all_sound B lines facts sets)
      → T (between X U B.width (λ ms. one_of B.width sets ms || not (sound_test B lines facts ms)))
      → LeastReading B lines facts X U → (M : Marks) → Sound B lines facts M → (ms : List ℕ) × Memᴰ ms sets × (M ≡ among ms)
  no_other_sound sets {X} {U} all t p M s =
      let w = B.width in
      let e : among (listed w M) ≡ M = among_listed w M s.full.of_width in
      let s' : Sound B lines facts (among (listed w M)) = subst (Sound B lines facts) (sym e) s in
      let q = sound_between fit p s in
      let o = tried X U M q.0 q.1 w (λ ms. one_of w sets ms || not (sound_test B lines facts ms)) t in
      elim (or_cases (one_of w sets (listed w M)) (not (sound_test B lines facts (listed w M))) o) [
        | inl i ↦ let r = one_of_is w sets (λ ms j. (each_sound sets all ms j).full.of_width) (listed w M) s'.full.of_width i in (r.0, r.1, sym e ∙ r.2)
        | inr n ↦ absurd (T_not (sound_test B lines facts (listed w M)) n (sound_shows (listed w M) s'))
      ]
