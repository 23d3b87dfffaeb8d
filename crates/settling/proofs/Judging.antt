-- When a pair of sets is broken, and when a set is a sound reading.
use Rattle.std.proofs.Common.{◌≡◌, ℕ, Bool, true, false, not, ◌⊎◌, List, Decides, sym, ◌∙◌, subst, inl, inr}
use Rattle.std.proofs.lemmas.Bool.{false≢true, not-true, not_from_false, cases_Bool}
use Rattle.marks.specs.Sets.{Marks, ◌∈◌, ◌⊆◌, no_marks, OfWidth}
use Rattle.marks.proofs.Sets.{fails}
use Rattle.readings.specs.Books.{Book}
use Rattle.readings.specs.Readings.{Sound}
use Rattle.readings.specs.Rules.{Rule}
use Rattle.readings.specs.Says.{IsBroken}
use Rattle.readings.specs.Yields.{Full}
use Rattle.readings.proofs.Closing.{least_unique}
use Rattle.readings.proofs.Sets.{within_or_lacks}

-- where the book does not clash at the empty set, the pair is broken exactly when T does not lie within U
pub broken_by : (B : Book) (X Y : Marks) (b : Bool) → OfWidth B.width X → B.clash no_marks ≡ false → Decides b (X ⊆ Y) → Decides (not b) (IsBroken B X Y)
broken_by B X Y b wide none d = ((λ e. inr (lacks (not-true b e) (within_or_lacks B.width X Y wide))), λ h. go h (cases_Bool b))
  where
    lacks : b ≡ false → (X ⊆ Y) ⊎ ((m : ℕ) × (m ∈ X) × (m ∈ Y → ⊥)) → (m : ℕ) × ((m ∈ X) × (m ∈ Y → ⊥))
    lacks e (inl s) = absurd (false≢true (sym e ∙ d.1 s))
    lacks e (inr l) = (l.0, (l.1, l.2))

    go : IsBroken B X Y → (b ≡ true) ⊎ (b ≡ false) → not b ≡ true
    go h (inr e) = not_from_false b e
    go (inl c) (inl e) = absurd (fails none c)
    go (inr m) (inl e) = absurd (m.1.1 (d.0 e m.0 m.1.0))

-- where the book does not clash at the set, it is sound exactly when it is its own full yield
pub sound_by : (B : Book) (lines : List Rule) (facts M X : Marks) (b : Bool) → B.clash M ≡ false → Full B lines facts M X → Decides b (X ≡ M) → Decides b (Sound B lines facts M)
sound_by B lines facts M X b none full d = (
  (λ e. record { full = subst (Full B lines facts M) (d.0 e) full; no_clash = fails none }),
  λ s. d.1 (least_unique full s.full),
)
