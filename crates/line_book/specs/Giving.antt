-- Term lines as the rules and denials that they are.
use Rattle.std.specs.Prelude.{◌≡◌, ℕ, T, List, [], ◌∷◌, ◌++◌, Some, None, Option, refl}
use mathlib.Core.List.Memᴰ
use mathlib.Core.List.{Memᴰ}
use Rattle.std.proofs.Common.{inl, inr, sym, ap, subst, ◌∙◌}
use Rattle.books.specs.Denials.{some_stands}
use Rattle.books.specs.Denying.{stands_some, some_stand}
use Rattle.lines.specs.declared.term.TermLine.{TermLine}
use Rattle.lines.specs.Records.{term_head, term_conditions}
use Rattle.marks.specs.Sets.{Marks}
use Rattle.readings.specs.Rules.{Rule, AllIn}
use Rattle.line_book.specs.Lines.{giving, givings, denial, denials}
use Rattle.line_book.specs.Theorems.{SomeDenial}

-- the rules of the giving lines

abbrev rule : ℕ → List ℕ → Rule
rule h ms = record { head = h; conditions = ms; exceptions = [] }

-- a rule comes from a giving line
pub record From (lines : List TermLine) (r : Rule) : Type 0 where
  pub line : TermLine
  pub among_lines : Memᴰ line lines
  pub head : term_head line ≡ Some r.head
  pub conditions : r.conditions ≡ term_conditions line

pub from_givings : (ls : List TermLine) (r : Rule) → Memᴰ r (givings ls) → From ls r
from_givings [] r i = absurd (Memᴰ.not-nil i)
from_givings (l ∷ ls) r i = go (from_givings ls r) (term_head l) refl i
  where
    later : From ls r → From (l ∷ ls) r
    later f = record { line = f.line; among_lines = Memᴰ.tail f.among_lines; head = f.head; conditions = f.conditions }

    go : (Memᴰ r (givings ls) → From ls r) → (o : Option ℕ) → term_head l ≡ o → Memᴰ r (giving o (term_conditions l) ++ givings ls) → From (l ∷ ls) r
    go rest None e j = later (rest j)
    go rest (Some h) e j =
        elim (Memᴰ.cases_cons j) [
          | inl p ↦ record { line = l; among_lines = Memᴰ.head refl; head = e ∙ ap (λ (x : Rule). Some x.head) (sym p); conditions = ap (λ (x : Rule). x.conditions) p }
          | inr k ↦ later (rest k)
        ]

pub to_givings : (ls : List TermLine) (l : TermLine) (h : ℕ) → Memᴰ l ls → term_head l ≡ Some h → Memᴰ (rule h (term_conditions l)) (givings ls)
to_givings [] l h i e = absurd (Memᴰ.not-nil i)
to_givings (k ∷ ks) l h i e =
    elim (Memᴰ.cases_cons i) [
      | inl p ↦
          subst (λ (x : TermLine). Memᴰ (rule h (term_conditions x)) (giving (term_head k) (term_conditions k) ++ givings ks)) (sym p)
          (subst (λ (o : Option ℕ). Memᴰ (rule h (term_conditions k)) (giving o (term_conditions k) ++ givings ks)) (sym (ap term_head (sym p) ∙ e)) (Memᴰ.head refl))
      | inr j ↦ later (term_head k) (to_givings ks l h j e)
    ]
  where
    later : (o : Option ℕ) → Memᴰ (rule h (term_conditions l)) (givings ks) → Memᴰ (rule h (term_conditions l)) (giving o (term_conditions k) ++ givings ks)
    later None m = m
    later (Some g) m = Memᴰ.tail m

-- the denials

-- a list comes from a denial
record Denial (lines : List TermLine) (ms : List ℕ) : Type 0 where
  line : TermLine
  among_lines : Memᴰ line lines
  headless : term_head line ≡ None
  conditions : ms ≡ term_conditions line

from_denials : (ls : List TermLine) (ms : List ℕ) → Memᴰ ms (denials ls) → Denial ls ms
from_denials [] ms i = absurd (Memᴰ.not-nil i)
from_denials (l ∷ ls) ms i = go (from_denials ls ms) (term_head l) refl i
  where
    later : Denial ls ms → Denial (l ∷ ls) ms
    later d = record { line = d.line; among_lines = Memᴰ.tail d.among_lines; headless = d.headless; conditions = d.conditions }

    go : (Memᴰ ms (denials ls) → Denial ls ms) → (o : Option ℕ) → term_head l ≡ o → Memᴰ ms (denial o (term_conditions l) ++ denials ls) → Denial (l ∷ ls) ms
    go rest None e j =
        elim (Memᴰ.cases_cons j) [
          | inl p ↦ record { line = l; among_lines = Memᴰ.head refl; headless = e; conditions = p }
          | inr k ↦ later (rest k)
        ]
    go rest (Some h) e j = later (rest j)

to_denials : (ls : List TermLine) (l : TermLine) → Memᴰ l ls → term_head l ≡ None → Memᴰ (term_conditions l) (denials ls)
to_denials [] l i e = absurd (Memᴰ.not-nil i)
to_denials (k ∷ ks) l i e =
    elim (Memᴰ.cases_cons i) [
      | inl p ↦
          subst (λ (x : TermLine). Memᴰ (term_conditions x) (denial (term_head k) (term_conditions k) ++ denials ks)) (sym p)
          (subst (λ (o : Option ℕ). Memᴰ (term_conditions k) (denial o (term_conditions k) ++ denials ks)) (sym (ap term_head (sym p) ∙ e)) (Memᴰ.head refl))
      | inr j ↦ later (term_head k) (to_denials ks l j e)
    ]
  where
    later : (o : Option ℕ) → Memᴰ (term_conditions l) (denials ks) → Memᴰ (term_conditions l) (denial o (term_conditions k) ++ denials ks)
    later None m = Memᴰ.tail m
    later (Some g) m = m

pub denial_stands : (ls : List TermLine) (X : Marks) → T (some_stands (denials ls) X) → SomeDenial ls X
denial_stands ls X t =
    let p = stands_some (denials ls) X t in
    let q = from_denials ls p.0 p.1 in
    (q.line, q.among_lines, q.headless, subst (λ (ms : List ℕ). AllIn ms X) q.conditions p.2)

pub stands_denial : (ls : List TermLine) (X : Marks) → SomeDenial ls X → T (some_stands (denials ls) X)
stands_denial ls X p = some_stand (denials ls) X (term_conditions p.0) (to_denials ls p.0 p.1 p.2) p.3
