-- When two records are equal: where they agree in all used places.
use Rattle.std.specs.Prelude.{◌≡◌, Bool, nat_eq}
use Rattle.std.specs.Ordering.{on, eq_of_both}
use Rattle.std.specs.Option.{option_eq}
use Rattle.std.specs.Cmp.Lexicographic.{pointwise}
use Rattle.lines.specs.declared.bar.Bar.{Bar}
use Rattle.lines.specs.declared.fare.FareLine.{FareLine}
use Rattle.lines.specs.declared.list.MarkList.{MarkList}
use Rattle.lines.specs.declared.term.TermLine.{TermLine}
use Rattle.lines.specs.Records.{used, term_head}

pub record SameList (a b : MarkList) : Type 0 where
  pub count : a.count ≡ b.count
  pub marks : used a ≡ used b

pub record SameFare (a b : FareLine) : Type 0 where
  pub head : a.head ≡ b.head
  pub conditions : SameList a.conditions b.conditions
  pub unless : SameList a.unless b.unless

pub record SameTerm (a b : TermLine) : Type 0 where
  pub kind : a.kind ≡ b.kind
  pub head : term_head a ≡ term_head b
  pub conditions : SameList a.conditions b.conditions

pub record SameBar (a b : Bar) : Type 0 where
  pub low : a.low ≡ b.low
  pub high : a.high ≡ b.high

-- Two of them as tests that compute, for an `==` that is written by hand. Its contract says that the test is true exactly where the
-- record above holds; of the derived ones, for fare lines and bars, src/theorems.rt says so.
abbrev pub lists_equal : MarkList → MarkList → Bool
lists_equal = eq_of_both (on (λ (l : MarkList). l.count) nat_eq) (on (λ (l : MarkList). used l) (pointwise nat_eq))

abbrev pub terms_equal : TermLine → TermLine → Bool
terms_equal = eq_of_both (on (λ (l : TermLine). term_head l) (option_eq nat_eq)) (on (λ (l : TermLine). l.conditions) lists_equal)
