-- Sound readings lie between the sets of the least reading.
use mathlib.Core.List.{List}
use mathlib.Core.Logic.{inl, inr}
use Rattle.marks.specs.Sets.{Marks, ◌⊆◌, no_marks}
use Rattle.readings.specs.Books.{Book}
use Rattle.readings.specs.Rules.{Rule, Fit}
use Rattle.readings.specs.Readings.{Reading, LeastReading, Sound}
use Rattle.readings.specs.Says.{IsBroken}
use Rattle.readings.proofs.Closing.{none_within, least_in}
use Rattle.readings.proofs.Yields.{allowed_at}

module _ {B : Book} {lines : List Rule} {facts : Marks} (fit : Fit B lines facts) where
  -- a sound reading is a reading: nothing that it has is denied at it
  pub sound_reads : {M : Marks} → Sound B lines facts M → Reading B lines facts M M
  sound_reads {M} s =
      record {
        full = s.full;
        guarded =
            record {
              of_width = s.full.of_width;
              around = none_within M;
              closed = s.full.closed;
              heads = λ r a. s.full.heads r a.admitted;
              least = λ Z zw za zc zh.
                  least_in B fit.lawful s.full Z zw za zc
                  (λ r a cm cz h. zh r (allowed_at fit M M M s.full.of_width (λ m t. t) (λ m t. t) s.no_clash a h) cz);
            };
      }

  pub sound_between : {T U M : Marks} → LeastReading B lines facts T U → Sound B lines facts M → (T ⊆ M) × (M ⊆ U)
  sound_between p s = p.least _ _ (sound_reads s)

  pub broken_unsound : {T U M : Marks} → LeastReading B lines facts T U → IsBroken B T U → Sound B lines facts M → ⊥
  broken_unsound {M = M} p (inl c) s = s.no_clash (fit.lawful.clash_grows no_marks M (none_within _) s.full.of_width (none_within M) c)
  broken_unsound p (inr b) s = let q = sound_between p s in b.1.1 (q.1 b.0 (q.0 b.0 b.1.0))
