-- Sets of all marks of the width: nothing is left to grow, and a closed set at which the book clashes is one.
use Rattle.std.proofs.Common.{◌≡◌, ℕ, List, false, sym, subst, ◌∙◌}
use Rattle.marks.specs.declared.set.MarkSet.{MarkSet}
use Rattle.marks.specs.MarkSets.{marks_of}
use Rattle.marks.specs.Sets.{◌∈◌, OfWidth, below}
use Rattle.marks.proofs.Sets.{equal_within, is_false}
use Rattle.readings.specs.Books.{Book, Lawful, Closed}
use Rattle.readings.specs.Rules.{Rule, Counts, line, stands, Fit}
use Rattle.readings.proofs.Closing.{all_closed}
use Rattle.lines.specs.declared.admission.Admission.{Admission}
use Rattle.lines.specs.declared.fare.FareLine.{FareLine}
use Rattle.settling.specs.Calls.{GoesWith}
use Rattle.settling.specs.Growth.{rules_of, LetInBy, Grown}
use Rattle.settling.proofs.Fares.{fits}

module _ {B : Book} (law : Lawful B) where
  wide : (x : MarkSet) → x.width ≡ B.width → OfWidth B.width (marks_of x)
  wide x e = subst (λ (w : ℕ). OfWidth w (marks_of x)) e x.inside

  pub whole_grown : {lines : List FareLine} {facts : MarkSet} → GoesWith B lines facts → (gate : Admission) (x : MarkSet) → x.width ≡ B.width
      → marks_of x ≡ below B.width → Grown B (LetInBy lines facts gate) x x
  whole_grown {lines} {facts} goes gate x n all =
      record {
        width = n;
        least = record {
          of_width = wide x n;
          around = λ m t. t;
          closed = subst (Closed B) (sym all) (all_closed B law);
          heads = λ r p a. equal_within (sym all) r.head (head_within r p.counts);
          least = λ Z z s c has. s;
        };
      }
    where
      fit : Fit B (rules_of lines) (marks_of facts)
      fit = fits B law lines facts goes

      head_within : (r : Rule) → Counts (rules_of lines) (marks_of facts) r → r.head ∈ below B.width
      head_within r (line i) = (fit.within r i).head
      head_within r (stands {m} t) = fit.of_width m t

  pub quiet_below : (x : MarkSet) → x.width ≡ B.width → Closed B (marks_of x) → (marks_of x ≡ below B.width → ⊥) → B.clash (marks_of x) ≡ false
  quiet_below x n closed less = is_false (B.clash (marks_of x)) (λ t. less (sym closed ∙ law.clash_gives_all (marks_of x) (wide x n) t))
