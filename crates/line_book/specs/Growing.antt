-- The grown set is the least set with the heads, and line books are lawful.
use Rattle.std.specs.Prelude.{◌≡◌, ℕ, true, List, [], refl}
use mathlib.Core.List.Memᴰ
use Rattle.std.proofs.Common.{sym, subst, lt→ltb}
use Rattle.books.specs.Denying.{denying_lawful}
use Rattle.lines.specs.declared.term.TermLine.{TermLine}
use Rattle.lines.specs.Records.{term_conditions}
use Rattle.marks.specs.Sets.{Marks, ◌∈◌, OfWidth}
use Rattle.marks.proofs.Sets.{equal_within, same_sets}
use Rattle.readings.specs.Books.{Lawful}
use Rattle.readings.specs.Computed.{listed}
use Rattle.readings.specs.WellFounded.{bare}
use Rattle.readings.specs.Rules.{Rule, AllIn}
use Rattle.readings.specs.Yields.{LeastClosed}
use Rattle.readings.proofs.Filling.{Passing, filled_least}
use Rattle.readings.proofs.WellFounded.{bare_lawful}
use Rattle.readings.proofs.Listing.{among_listed}
use Rattle.line_book.specs.Lines.{givings, denials, grown, growing, line_book}
use Rattle.line_book.specs.Theorems.{HasHeads, GrownSet}
use Rattle.line_book.specs.Giving.{from_givings, to_givings}
use Rattle.line_book.specs.Seeing.{HeadsBelow}

module _ (w : ℕ) (ls : List TermLine) (below_w : HeadsBelow w ls) where
  -- the heads of the lines are those of their rules
  rule_heads : (Z : Marks) → HasHeads ls Z → (r : Rule) → Passing (givings ls) (λ r. true) r → AllIn r.conditions Z → r.head ∈ Z
  rule_heads Z zh r p a =
      let f = from_givings ls r p.among_rules in
      zh f.line r.head f.among_lines f.head (subst (λ (ms : List ℕ). AllIn ms Z) f.conditions a)

  module _ (S : Marks) (s : OfWidth w S) where
    filling : LeastClosed (bare w) S (Passing (givings ls) (λ r. true)) (grown w ls S)
    filling =
        subst (λ (A : Marks). LeastClosed (bare w) A (Passing (givings ls) (λ r. true)) (grown w ls S)) (among_listed w S s)
        (filled_least (bare w) (bare_lawful w) (givings ls)
        (λ r i. let f = from_givings ls r i in lt→ltb r.head w (below_w f.line r.head f.among_lines f.head))
        (λ r. true) (listed w S) (λ m t. s m (equal_within (among_listed w S s) m t)))

    pub grown_is : GrownSet w ls S (grown w ls S)
    grown_is =
        let p = filling in
        record {
          of_width = p.of_width;
          around = p.around;
          heads = λ l h i e a. p.heads (record { head = h; conditions = term_conditions l; exceptions = [] }) (record { among_rules = to_givings ls l h i e; passed = tt }) a;
          least = λ Z z sz zh. p.least Z z sz refl (rule_heads Z zh);
        }

    pub grown_once : (X : Marks) → GrownSet w ls S X → X ≡ grown w ls S
    grown_once X p = let q = grown_is in same_sets (p.least (grown w ls S) q.of_width q.around q.heads) (q.least X p.of_width p.around p.heads)

  growing_lawful : Lawful (growing w ls)
  growing_lawful =
      record {
        of_width = λ S s. (grown_is S s).of_width;
        extensive = λ S s. (grown_is S s).around;
        monotone = λ S S' s s' i.
            let q = grown_is S' s' in
            (grown_is S s).least (grown w ls S') q.of_width (λ m t. q.around m (i m t)) q.heads;
        idempotent = λ S s.
            let p = grown_is S s in
            let q = grown_is (grown w ls S) p.of_width in
            same_sets (q.least (grown w ls S) p.of_width (λ m t. t) p.heads) q.around;
        clash_grows = λ S S' s s' i c. c;
        clash_comes_back = λ S s c. c;
        clash_gives_all = λ S s c. absurd c;
      }

  pub line_lawful : Lawful (line_book w ls)
  line_lawful = denying_lawful (growing w ls) growing_lawful (denials ls)

-- without lines nothing is added
pub grown_none : (w : ℕ) (S : Marks) → OfWidth w S → grown w [] S ≡ S
grown_none w S s = sym (grown_once w [] none S s S (record { of_width = s; around = λ m t. t; heads = λ l h i e a. absurd (Memᴰ.not-nil i); least = λ Z z sz zh. sz }))
  where
    none : HeadsBelow w []
    none l h i e = absurd (Memᴰ.not-nil i)
