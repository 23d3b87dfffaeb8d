-- What the records in the caller's memory mean. They may hold anything; what a record means reads its used places alone.
use Rattle.std.specs.Prelude.{ℕ, List, [], ◌∷◌, take, Some, None, Option}
use Rattle.readings.specs.Rules.{Rule}
use Rattle.lines.specs.declared.bar.Bar.{Bar}
use Rattle.lines.specs.declared.fare.FareLine.{FareLine}
use Rattle.lines.specs.declared.list.MarkList.{MarkList}
use Rattle.lines.specs.declared.term.Kind.{Kind}
use Rattle.lines.specs.declared.term.Kind.TheVariants.{Gives, Denies}
use Rattle.lines.specs.declared.term.TermLine.{TermLine}

-- A list is a count and eight places. The places before the count are used.
abbrev pub used : MarkList → List ℕ
used l = take l.count l.marks

-- A fare line is a rule. Its unless-marks are the exceptions.
abbrev pub rule_of : FareLine → Rule
rule_of l = record { head = l.head; conditions = used l.conditions; exceptions = used l.unless }

-- A term line is of one of two kinds: it gives its head, or it is a denial, which has none.
pub record KindCase : Type 0 where
  pub number : ℕ
  -- the head of a line of this kind that has m in the head's place
  pub head : (m : ℕ) → Option ℕ

abbrev pub the_kind : Kind → KindCase
the_kind Gives = record { number = 1; head = λ m. Some m }
the_kind Denies = record { number = 2; head = λ m. None }

-- the head of a term line, where it has one; at a denial the head's place is unused
abbrev pub term_head : TermLine → Option ℕ
term_head l = (the_kind l.kind).head l.head

abbrev pub term_conditions : TermLine → List ℕ
term_conditions l = used l.conditions

-- the conditions of a bar are its two marks
abbrev pub bar_conditions : Bar → List ℕ
bar_conditions b = b.low ∷ (b.high ∷ [])
