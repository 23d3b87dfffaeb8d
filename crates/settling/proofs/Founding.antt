-- The least reading with the bare book is the well-founded model.
use Rattle.std.proofs.Common.{ℕ, List, sym, ap, ◌∙◌, subst₂}
use Rattle.marks.specs.declared.set.MarkSet.{MarkSet}
use Rattle.marks.specs.MarkSets.{marks_of, IsSet}
use Rattle.marks.specs.Sets.{Marks, outside}
use Rattle.readings.specs.WellFounded.{bare, WellFoundedModel}
use Rattle.readings.specs.declared.method.Method.TheVariants.{First}
use Rattle.readings.proofs.WellFounded.{bare_lawful, reading_model}
use Rattle.lines.specs.declared.fare.FareLine.{FareLine}
use Rattle.settling.specs.Calls.{GoesWith}
use Rattle.settling.specs.Growth.{rules_of}
use Rattle.settling.specs.Models.{IsModel}
use Rattle.settling.specs.Rounding.{Settles}
use Rattle.settling.specs.declared.settled.Settled.{Settled}
use Rattle.settling.proofs.Fares.{fits}

pub is_model : (w : ℕ) (lines : List FareLine) (facts : MarkSet) (s : Settled) (fails : MarkSet) → GoesWith (bare w) lines facts
    → Settles (bare w) lines facts First s → IsSet fails s.reading.upper.width (outside s.reading.upper.width (marks_of s.reading.upper)) → IsModel lines facts (record { holds = s.reading.lower; fails = fails })
is_model w lines facts s fails goes settles is =
    let T = marks_of s.reading.lower in
    let U = marks_of s.reading.upper in
    let model : WellFoundedModel w (rules_of lines) (marks_of facts) T (outside w U) = reading_model (fits (bare w) (bare_lawful w) lines facts goes) settles.reading in
    let e = sym goes.width in
    record {
      holds = settles.lower ∙ e;
      fails = is.width ∙ settles.upper ∙ e;
      model =
          subst₂ (λ (n : ℕ) (X : Marks). WellFoundedModel n (rules_of lines) (marks_of facts) T X) e
          (ap (λ (n : ℕ). outside n U) (sym settles.upper) ∙ sym is.marks) model;
    }
