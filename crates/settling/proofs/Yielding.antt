-- What grows through a gate is a yield, or one of the two sets of the second method.
use Rattle.std.proofs.Common.{◌≡◌, List, sym, subst}
use Rattle.marks.specs.declared.set.MarkSet.{MarkSet}
use Rattle.marks.specs.MarkSets.{marks_of}
use Rattle.marks.specs.Sets.{Marks, no_marks, below, outside}
use Rattle.marks.proofs.Sets.{equal_within}
use Rattle.readings.specs.Books.{Book}
use Rattle.readings.specs.Rules.{Rule, Counts, Fit, AllIn, NoneIn}
use Rattle.readings.specs.Yields.{LeastClosed, Admitted}
use Rattle.readings.proofs.Closing.{least_by}
use Rattle.readings.proofs.Sets.{less_out, not_outside}
use Rattle.readings.proofs.Yields.{counts_within}
use Rattle.lines.specs.declared.admission.Admission.{Admission}
use Rattle.lines.specs.declared.fare.FareLine.{FareLine}
use Rattle.settling.specs.Calls.{FullYield}
use Rattle.settling.specs.Denials.{DeniesHeads}
use Rattle.settling.specs.Growth.{rules_of, LetInBy, Grown}
use Rattle.settling.specs.Kept.{KeptAt, WithinLeast}
use Rattle.settling.specs.Rounding.{GrownPast}
use Rattle.settling.proofs.Starting.{least_around}

module _ {B : Book} (lines : List FareLine) (facts : MarkSet) (gate : Admission) {start x : MarkSet} (grown : Grown B (LetInBy lines facts gate) start x) where
  abbrev S : Marks
  S = marks_of start

  abbrev D : Marks
  D = marks_of gate.denied

  abbrev R : Marks
  R = marks_of gate.refuted

  -- the rules that S admits, where no head is denied and no condition refuted
  admitted_only : D ≡ no_marks → R ≡ no_marks → LeastClosed B S (Admitted (rules_of lines) (marks_of facts) (marks_of gate.exceptions)) (marks_of x)
  admitted_only d r =
      least_by
      (λ y l. record { counts = l.counts; exceptions = l.admitted.exceptions })
      (λ y l.
      record {
        counts = l.counts;
        admitted = record { exceptions = l.exceptions; head = equal_within d y.head; conditions = λ m _. equal_within r m };
      })
      grown.least

  pub full_grown : WithinLeast B S (Admitted (rules_of lines) (marks_of facts) (marks_of gate.exceptions)) → D ≡ no_marks → R ≡ no_marks → FullYield B lines facts gate.exceptions x
  full_grown within d r = record { width = grown.width; yield = least_around within (admitted_only d r) }

  pub kept_grown : S ≡ no_marks → DeniesHeads B lines facts (marks_of gate.exceptions) gate.denied → KeptAt B lines facts gate.exceptions gate.refuted x
  kept_grown s heads =
      record {
        width = grown.width;
        kept =
            least_by
            (λ y l.
            record {
              counts = l.counts;
              conditions = l.admitted.conditions;
              exceptions = l.admitted.exceptions;
              head = λ d. l.admitted.head (heads.others y l.counts d);
            })
            (λ y l.
            record {
              counts = l.counts;
              admitted = record { exceptions = l.exceptions; head = λ t. l.head (heads.only.denied y l.counts t); conditions = l.conditions };
            })
            (subst (λ (A : Marks). LeastClosed B A (LetInBy lines facts gate) (marks_of x)) s grown.least);
      }

  module _ (fit : Fit B (rules_of lines) (marks_of facts)) (F : MarkSet) (outer : marks_of gate.exceptions ≡ outside B.width (marks_of F)) where
    -- no exception lies outside F exactly when all lie in F
    all_in_F : (y : Rule) → Counts (rules_of lines) (marks_of facts) y → NoneIn y.exceptions (outside B.width (marks_of F)) → AllIn y.exceptions (marks_of F)
    all_in_F y c none m i = not_outside B.width (marks_of F) m ((counts_within fit c).exceptions m i) (none m i)

    pub grown_past_F : D ≡ no_marks → R ≡ no_marks → GrownPast B lines facts start F x
    grown_past_F d r =
        record {
          width = grown.width;
          grown =
              least_by
              (λ y l. record { counts = l.counts; exceptions = all_in_F y l.counts (λ m i t. l.admitted.exceptions m i (equal_within (sym outer) m t)) })
              (λ y l.
              record {
                counts = l.counts;
                admitted = record {
                  exceptions = λ m i t. less_out (below B.width) (marks_of F) m (equal_within outer m t) (l.exceptions m i);
                  head = equal_within d y.head;
                  conditions = λ m _. equal_within r m;
                };
              })
              grown.least;
        }
