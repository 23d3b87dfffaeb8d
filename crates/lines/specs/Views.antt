-- What a pass sees of term lines, of bars, and of fare lines through an admission.
use Rattle.std.specs.Prelude.{Bool, true, not, ◌&&◌, Some, None}
use Rattle.marks.specs.MarkSets.{marks_of}
use Rattle.marks.specs.Sets.{Marks}
use Rattle.readings.specs.Computed.{has_none}
use Rattle.readings.specs.Rules.{Rule}
use Rattle.lines.specs.declared.admission.Admission.{Admission}
use Rattle.lines.specs.declared.bar.Bar.{Bar}
use Rattle.lines.specs.declared.fare.FareLine.{FareLine}
use Rattle.lines.specs.declared.term.TermLine.{TermLine}
use Rattle.lines.specs.Passes.{View}
use Rattle.lines.specs.Records.{rule_of, term_head, term_conditions, bar_conditions}

-- every term line is admitted
abbrev pub term_view : TermLine → View
term_view l = record { admitted = true; conditions = term_conditions l; head = term_head l }

-- every bar is admitted, and none has a head
abbrev pub bar_view : Bar → View
bar_view b = record { admitted = true; conditions = bar_conditions b; head = None }

-- whether a rule is admitted: none of its exceptions is in E, its head is not in D, and none of its conditions is in R
abbrev pub admits : (E D R : Marks) → Rule → Bool
admits E D R r = has_none r.exceptions E && (not (D r.head) && has_none r.conditions R)

-- a rule that these three sets admit or not; it has a head always
abbrev pub rule_view : (E D R : Marks) → Rule → View
rule_view E D R r = record { admitted = admits E D R r; conditions = r.conditions; head = Some r.head }

-- a fare line through an admission, which holds the three sets
abbrev pub fare_view : Admission → FareLine → View
fare_view g l = rule_view (marks_of g.exceptions) (marks_of g.denied) (marks_of g.refuted) (rule_of l)
