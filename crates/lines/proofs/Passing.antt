-- One pass over lines: what it adds, what it leaves, and when a denial stood.
use Rattle.std.proofs.Common.{◌≡◌, ℕ, ◌<◌, true, not, ◌&&◌, T, List, [], ◌∷◌, is_some, Some, None, Decides, Option, sym, refl, ap, subst, inl, inr}
use mathlib.Core.List.Memᴰ
use mathlib.Core.List.{Memᴰ}
use Rattle.std.proofs.lemmas.Bool.{or_cases, or_left, or_right, and_from, and_parts, false≢true}
use Rattle.marks.specs.Sets.{Marks, ◌⊆◌, OfWidth, size}
use Rattle.marks.proofs.Sets.{same_sets, equal_within, holds, is_true}
use Rattle.readings.specs.Computed.{has_all}
use Rattle.readings.proofs.Listing.{has_all_in, in_has_all}
use Rattle.readings.proofs.Sets.{both, left, right, with_new}
use Rattle.readings.proofs.Sizes.{same_or_more}
use Rattle.lines.specs.Passes.{View, fires, brought, swept, stood}
use Rattle.lines.specs.Theorems.{Fires, HasTheirHeads, SomeHeadless, PassesStand}
use Rattle.lines.proofs.Turns.{brought_grows, brought_width, brought_within, brought_new}

-- a line fires by its test, at a set and at every set around it
pub fires_there : (vs : List View) (v : View) (S Z : Marks) → Memᴰ v vs → S ⊆ Z → T (fires v S) → Fires vs v Z
fires_there vs v S Z i s t =
    record {
      line = i;
      admitted = left v.admitted (has_all v.conditions S) t;
      conditions = λ m j. s m (has_all_in v.conditions S (right v.admitted (has_all v.conditions S) t) m j);
    }

test_fires : (vs : List View) (v : View) (S : Marks) → Fires vs v S → T (fires v S)
test_fires vs v S f = both v.admitted (has_all v.conditions S) f.admitted (in_has_all v.conditions S f.conditions)

-- a line of the rest is one of all
fires_later : (v : View) (vs : List View) (u : View) (S : Marks) → Fires vs u S → Fires (v ∷ vs) u S
fires_later v vs u S f = record { line = Memᴰ.tail f.line; admitted = f.admitted; conditions = f.conditions }

heads_later : (w : ℕ) (v : View) (vs : List View) (S : Marks) → HasTheirHeads w (v ∷ vs) S → HasTheirHeads w vs S
heads_later w v vs S h u m f = h u m (fires_later v vs u S f)

pub swept_grows : (w : ℕ) (vs : List View) (S : Marks) → S ⊆ swept w vs S
swept_grows w [] S m t = t
swept_grows w (v ∷ vs) S m t = swept_grows w vs (brought w v S) m (brought_grows w v S m t)

pub swept_width : (w : ℕ) (vs : List View) (S : Marks) → OfWidth w S → OfWidth w (swept w vs S)
swept_width w [] S h = h
swept_width w (v ∷ vs) S h = swept_width w vs (brought w v S) (brought_width w v S h)

pub swept_least : (w : ℕ) (vs : List View) (S Z : Marks) → S ⊆ Z → HasTheirHeads w vs Z → swept w vs S ⊆ Z
swept_least w [] S Z s h = s
swept_least w (v ∷ vs) S Z s h =
    swept_least w vs (brought w v S) Z
    (brought_within w v S Z s (λ t m e l. h v m (fires_there (v ∷ vs) v S Z (Memᴰ.head refl) s t) e l)) (heads_later w v vs Z h)

-- a pass brings in the heads of the lines that fire at the set it began with, and tells of those without a head
pub swept_heads : (w : ℕ) (vs : List View) (S : Marks) (v : View) (h : ℕ) → Fires vs v S → v.head ≡ Some h → h < w → T (swept w vs S h)
swept_heads w [] S v h f e b = absurd (Memᴰ.not-nil f.line)
swept_heads w (u ∷ us) S v h f e b =
    elim (Memᴰ.cases_cons f.line) [
      | inl same ↦
          let fire : fires u S ≡ true = subst (λ (x : View). fires x S ≡ true) same (is_true (fires v S) (test_fires (u ∷ us) v S f)) in
          let head : u.head ≡ Some h = subst (λ (x : View). x.head ≡ Some h) same e in
          swept_grows w us (brought w u S) h (equal_within (sym (brought_new w u S h head b fire)) h (with_new S h))
      | inr i ↦
          swept_heads w us (brought w u S) v h
          (record { line = i; admitted = f.admitted; conditions = λ m j. brought_grows w u S m (f.conditions m j) }) e b
    ]

-- so a pass that adds nothing leaves a set that has them
swept_rests : (w : ℕ) (vs : List View) (S : Marks) → swept w vs S ≡ S → HasTheirHeads w vs S
swept_rests w vs S e v m f is l = equal_within e m (swept_heads w vs S v m f is l)

pub swept_stays : (w : ℕ) (vs : List View) (S : Marks) → HasTheirHeads w vs S → swept w vs S ≡ S
swept_stays w vs S h = same_sets (swept_least w vs S S (λ m t. t) h) (swept_grows w vs S)

pub swept_more : (w : ℕ) (vs : List View) (S : Marks) → OfWidth w S → (swept w vs S ≡ S → ⊥) → size w S < size w (swept w vs S)
swept_more w vs S h n =
    elim (same_or_more w S (swept w vs S) (swept_width w vs S h) (swept_grows w vs S)) [
      | inl back ↦ absurd (n (same_sets back (swept_grows w vs S)))
      | inr more ↦ more
    ]

-- lines without a head

pub headless : (o : Option ℕ) → not (is_some o) ≡ true → o ≡ None
headless None e = refl
headless (Some m) e = absurd (false≢true e)

headless_later : (v : View) (vs : List View) (S : Marks) → SomeHeadless vs S → SomeHeadless (v ∷ vs) S
headless_later v vs S d = record { it = d.it; fires = fires_later v vs d.it S d.fires; headless = d.headless }

pub stood_stands : (w : ℕ) (vs : List View) (S : Marks) → stood w vs S ≡ true → SomeHeadless vs (swept w vs S)
stood_stands w [] S e = absurd (false≢true e)
stood_stands w (v ∷ vs) S e =
    elim (or_cases (not (is_some v.head) && fires v S) (stood w vs (brought w v S)) e) [
      | inl now ↦
          let p = and_parts (not (is_some v.head)) (fires v S) now in
          record {
            it = v;
            fires = fires_there (v ∷ vs) v S (swept w (v ∷ vs) S) (Memᴰ.head refl) (swept_grows w (v ∷ vs) S) (holds p.1);
            headless = headless v.head p.0;
          }
      | inr later ↦ headless_later v vs (swept w (v ∷ vs) S) (stood_stands w vs (brought w v S) later)
    ]

pub swept_stood : (w : ℕ) (vs : List View) (S : Marks) (v : View) → Fires vs v S → v.head ≡ None → stood w vs S ≡ true
swept_stood w [] S v f e = absurd (Memᴰ.not-nil f.line)
swept_stood w (u ∷ us) S v f e =
    elim (Memᴰ.cases_cons f.line) [
      | inl same ↦
          let fire : fires u S ≡ true = subst (λ (x : View). fires x S ≡ true) same (is_true (fires v S) (test_fires (u ∷ us) v S f)) in
          let none : u.head ≡ None = subst (λ (x : View). x.head ≡ None) same e in
          or_left (not (is_some u.head) && fires u S) (stood w us (brought w u S))
          (and_from (not (is_some u.head)) (fires u S) (ap (λ (o : Option ℕ). not (is_some o)) none) fire)
      | inr i ↦
          or_right (not (is_some u.head) && fires u S) (stood w us (brought w u S))
          (swept_stood w us (brought w u S) v
          (record { line = i; admitted = f.admitted; conditions = λ m j. brought_grows w u S m (f.conditions m j) }) e)
    ]

pub stood_decides : (w : ℕ) (vs : List View) (S : Marks) → swept w vs S ≡ S → Decides (stood w vs S) (SomeHeadless vs S)
stood_decides w vs S e = ((λ t. subst (SomeHeadless vs) e (stood_stands w vs S t)), λ d. swept_stood w vs S d.it d.fires d.headless)

pub passes_stand : PassesStand
passes_stand =
    record {
      grows = swept_grows;
      of_width = swept_width;
      least = swept_least;
      heads = swept_heads;
      told = swept_stood;
      rests = swept_rests;
      stays = swept_stays;
      more = swept_more;
      stands = stood_stands;
      decides = stood_decides;
    }
