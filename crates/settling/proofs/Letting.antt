-- Facts among the rules that a gate admits.
use Rattle.std.proofs.Common.{◌≡◌, ℕ, List, sym}
use mathlib.Core.List.Memᴰ
use Rattle.marks.specs.declared.set.MarkSet.{MarkSet}
use Rattle.marks.specs.MarkSets.{marks_of}
use Rattle.marks.specs.Sets.{Marks, ◌∈◌, ◌⊆◌, ◌∪◌, ◌∖◌}
use Rattle.marks.proofs.Sets.{equal_within}
use Rattle.readings.specs.Books.{Book}
use Rattle.readings.specs.Rules.{Rule, Counts, line, stands, fact, AllIn}
use Rattle.readings.specs.Yields.{HasHeads}
use Rattle.readings.proofs.Sets.{or_left, or_right, join_within, less_in, less_left, less_out}
use Rattle.lines.specs.Theorems.{IsAdmitted}
use Rattle.lines.specs.declared.admission.Admission.{Admission}
use Rattle.lines.specs.declared.fare.FareLine.{FareLine}
use Rattle.settling.specs.Growth.{rules_of, LetIn, LineLetIn, LetInBy, LineLetInBy, Grown}

-- a fact has no exceptions and no conditions: only its head counts
fact_let_in : (lines : List Rule) (facts E D R : Marks) (m : ℕ) → m ∈ (facts ∖ D) → LetIn lines facts E D R (fact m)
fact_let_in lines facts E D R m t =
    record {
      counts = stands (less_left facts D m t);
      admitted = record {
        exceptions = λ k i. absurd (Memᴰ.not-nil i);
        head = less_out facts D m t;
        conditions = λ k i. absurd (Memᴰ.not-nil i);
      };
    }

module _ (lines : List Rule) (facts E D R : Marks) (Z : Marks) where
  heads_of_lines : HasHeads (LetIn lines facts E D R) Z → HasHeads (LineLetIn lines E D R) Z
  heads_of_lines has r p = has r (record { counts = line p.line; admitted = p.admitted })

  heads_of_facts : HasHeads (LetIn lines facts E D R) Z → facts ∖ D ⊆ Z
  heads_of_facts has m t = has (fact m) (fact_let_in lines facts E D R m t) (λ k i. absurd (Memᴰ.not-nil i))

  heads_of_both : facts ∖ D ⊆ Z → HasHeads (LineLetIn lines E D R) Z → HasHeads (LetIn lines facts E D R) Z
  heads_of_both f has r p = go r p.counts p.admitted
    where
      go : (r : Rule) → Counts lines facts r → IsAdmitted E D R r → AllIn r.conditions Z → r.head ∈ Z
      go r (line i) a c = has r (record { line = i; admitted = a }) c
      go r (stands {m} t) a c = f m (less_in facts D m t a.head)

-- a set that was grown from the facts that are not denied, by the fare lines, was grown by both
pub grown_with_facts : {B : Book} (lines : List FareLine) (facts : MarkSet) (gate : Admission) {before mid after : MarkSet}
    → marks_of mid ≡ marks_of before ∪ (marks_of facts ∖ marks_of gate.denied) → Grown B (LineLetInBy lines gate) mid after → Grown B (LetInBy lines facts gate) before after
grown_with_facts {B} lines facts gate {before} {mid} {after} is g =
    let ls = rules_of lines in
    let S = marks_of before in
    let F = marks_of facts in
    let E = marks_of gate.exceptions in
    let D = marks_of gate.denied in
    let R = marks_of gate.refuted in
    record {
      width = g.width;
      least = record {
        of_width = g.least.of_width;
        around = λ m t. g.least.around m (equal_within (sym is) m (or_left (S m) ((F ∖ D) m) t));
        closed = g.least.closed;
        heads = heads_of_both ls F E D R (marks_of after) (λ m t. g.least.around m (equal_within (sym is) m (or_right (S m) ((F ∖ D) m) t))) g.least.heads;
        least = λ Z z s c has.
            g.least.least Z z (λ m t. join_within S (F ∖ D) Z s (heads_of_facts ls F E D R Z has) m (equal_within is m t)) c (heads_of_lines ls F E D R Z has);
      };
    }
