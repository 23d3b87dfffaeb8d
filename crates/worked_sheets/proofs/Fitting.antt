-- Tests on the data of a sheet, and that they show what they test: marks below the width, lawful line books, fit sheets.
use Rattle.std.proofs.Common.{ℕ, Bool, true, ◌&&◌, T, ltb, List, [], ◌∷◌, Some, None, Option, sym, ap, ◌∙◌, subst, inl, inr, ltb→lt}
use mathlib.Core.List.Memᴰ
use mathlib.Core.List.{Memᴰ}
use Rattle.lines.specs.declared.term.TermLine.{TermLine}
use Rattle.lines.specs.Records.{term_head}
use Rattle.line_book.specs.Lines.{line_book}
use Rattle.line_book.specs.Growing.{line_lawful}
use Rattle.line_book.specs.Seeing.{HeadsBelow}
use Rattle.marks.specs.Sets.{below, OfWidth, among}
use Rattle.readings.specs.Books.{Lawful}
use Rattle.readings.specs.Computed.{has_all}
use Rattle.readings.specs.Rules.{Rule, RuleWithin, Fit}
use Rattle.readings.proofs.Listing.{in_among, has_all_in}
use Rattle.readings.proofs.Sets.{left, right}
use Rattle.worked_sheets.specs.Sheets.{Sheet}

pub among_width : (w : ℕ) (ms : List ℕ) → T (has_all ms (below w)) → OfWidth w (among ms)
among_width w ms t m i = has_all_in ms (below w) t m (in_among m ms i)

-- the heads of the term lines are marks of the width, so the line book is lawful

abbrev pub head_test : ℕ → Option ℕ → Bool
head_test w None = true
head_test w (Some h) = ltb h w

abbrev pub heads_test : ℕ → List TermLine → Bool
heads_test w [] = true
heads_test w (l ∷ ls) = head_test w (term_head l) && heads_test w ls

heads_low : (w : ℕ) (ls : List TermLine) → T (heads_test w ls) → HeadsBelow w ls
heads_low w [] t l h i e = absurd (Memᴰ.not-nil i)
heads_low w (k ∷ ks) t l h i e =
    elim (Memᴰ.cases_cons i) [
      | inl p ↦ ltb→lt h w (subst (λ (o : Option ℕ). T (head_test w o)) (ap term_head (sym p) ∙ e) (left (head_test w (term_head k)) (heads_test w ks) t))
      | inr j ↦ heads_low w ks (right (head_test w (term_head k)) (heads_test w ks) t) l h j e
    ]

pub lines_lawful : (w : ℕ) (ls : List TermLine) → T (heads_test w ls) → Lawful (line_book w ls)
lines_lawful w ls t = line_lawful w ls (heads_low w ls t)

-- all marks of the rules are marks of the width

abbrev pub rule_test : ℕ → Rule → Bool
rule_test w r = ltb r.head w && (has_all r.conditions (below w) && has_all r.exceptions (below w))

abbrev pub rules_test : ℕ → List Rule → Bool
rules_test w [] = true
rules_test w (r ∷ rs) = rule_test w r && rules_test w rs

rule_within : (w : ℕ) (r : Rule) → T (rule_test w r) → RuleWithin w r
rule_within w r t =
    let a = has_all r.conditions (below w) in
    let b = has_all r.exceptions (below w) in
    let u = right (ltb r.head w) (a && b) t in
    record {
      head = left (ltb r.head w) (a && b) t;
      conditions = has_all_in r.conditions (below w) (left a b u);
      exceptions = has_all_in r.exceptions (below w) (right a b u);
    }

rules_within : (w : ℕ) (rs : List Rule) → T (rules_test w rs) → (r : Rule) → Memᴰ r rs → RuleWithin w r
rules_within w [] t r i = absurd (Memᴰ.not-nil i)
rules_within w (k ∷ ks) t r i =
    elim (Memᴰ.cases_cons i) [
      | inl p ↦ subst (RuleWithin w) (sym p) (rule_within w k (left (rule_test w k) (rules_test w ks) t))
      | inr j ↦ rules_within w ks (right (rule_test w k) (rules_test w ks) t) r j
    ]

abbrev pub fit_test : Sheet → Bool
fit_test s = rules_test s.book.width s.lines && has_all s.facts (below s.book.width)

pub fits : (s : Sheet) → Lawful s.book → T (fit_test s) → Fit s.book s.lines (among s.facts)
fits s law t =
    let w = s.book.width in
    let a = rules_test w s.lines in
    let b = has_all s.facts (below w) in
    record { lawful = law; within = rules_within w s.lines (left a b t); of_width = among_width w s.facts (right a b t) }
