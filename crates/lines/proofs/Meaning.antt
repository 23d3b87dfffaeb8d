-- What records mean: the same where they are equal, and rules within the width where they are lawful.
use Rattle.std.proofs.Common.{◌≡◌, ℕ, ◌<◌, ◌≤◌, List, [], ◌∷◌, IfSome, Option, sym, subst, inl, inr, arith, lt→ltb}
use mathlib.Core.List.Memᴰ
use Rattle.marks.specs.Sets.{◌∈◌, below}
use Rattle.readings.specs.Rules.{AllIn, RuleWithin}
use Rattle.lines.specs.declared.bar.Bar.{Bar}
use Rattle.lines.specs.declared.fare.FareLine.{FareLine}
use Rattle.lines.specs.declared.list.MarkList.{MarkList}
use Rattle.lines.specs.declared.term.TermLine.{TermLine}
use Rattle.lines.specs.Equal.{SameList, SameFare, SameTerm, SameBar}
use Rattle.lines.specs.Lawful.{Ascends, AllBelow, LawfulList, LawfulFare}
use Rattle.lines.specs.Records.{used, rule_of}
use Rattle.lines.specs.Theorems.{EqualMeansSame, LawfulLinesFit}
use Rattle.lines.specs.Views.{term_view, bar_view}

lawful_list : (w : ℕ) (a b : MarkList) → SameList a b → LawfulList w a → LawfulList w b
lawful_list w a b same l =
    let count : a.count ≤ 8 = l.count in
    let e : a.count ≡ b.count = same.count in
    record {
      count = omega arith;
      ascends = subst Ascends same.marks l.ascends;
      below = subst (AllBelow w) same.marks l.below;
    }

same_rule : (a b : FareLine) → SameFare a b → rule_of a ≡ rule_of b
same_rule a b same =
    let h = same.head in
    let c = same.conditions.marks in
    let u = same.unless.marks in
    cc

same_term_view : (a b : TermLine) → SameTerm a b → term_view a ≡ term_view b
same_term_view a b same =
    let h = same.head in
    let c = same.conditions.marks in
    cc

same_bar_view : (a b : Bar) → SameBar a b → bar_view a ≡ bar_view b
same_bar_view a b same =
    let l = same.low in
    let h = same.high in
    cc

pub equal_means_same : EqualMeansSame
equal_means_same =
    record {
      fare = same_rule;
      term = same_term_view;
      bar = same_bar_view;
      lawful_fare = λ w a b same l. record {
        head = subst (λ (m : ℕ). m < w) same.head l.head;
        conditions = lawful_list w a.conditions b.conditions same.conditions l.conditions;
        unless = lawful_list w a.unless b.unless same.unless l.unless;
      };
      lawful_term = λ w a b same l. record {
        head = subst (λ (o : Option ℕ). IfSome o (λ m. m < w)) same.head l.head;
        conditions = lawful_list w a.conditions b.conditions same.conditions l.conditions;
      };
      lawful_bar = λ w a b same l. record {
        ascends = rw (sym same.low, sym same.high) l.ascends;
        below = subst (λ (m : ℕ). m < w) same.high l.below;
      };
    }

all_in_below : (w : ℕ) (ms : List ℕ) → AllBelow w ms → AllIn ms (below w)
all_in_below w [] h m i = absurd (Memᴰ.not-nil i)
all_in_below w (k ∷ ks) h m i =
    elim (Memᴰ.cases_cons i) [
      | inl e ↦ subst (λ (j : ℕ). j ∈ below w) (sym e) (lt→ltb k w h.0)
      | inr j ↦ all_in_below w ks h.1 m j
    ]

pub rule_within : (w : ℕ) (l : FareLine) → LawfulFare w l → RuleWithin w (rule_of l)
rule_within w l h =
    record {
      head = lt→ltb l.head w h.head;
      conditions = all_in_below w (used l.conditions) h.conditions.below;
      exceptions = all_in_below w (used l.unless) h.unless.below;
    }

pub lawful_lines_fit : LawfulLinesFit
lawful_lines_fit w [] h r i = absurd (Memᴰ.not-nil i)
lawful_lines_fit w (l ∷ ls) h r i =
    elim (Memᴰ.cases_cons i) [
      | inl e ↦ subst (RuleWithin w) (sym e) (rule_within w l h.0)
      | inr j ↦ lawful_lines_fit w ls h.1 r j
    ]
