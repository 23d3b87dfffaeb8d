-- Term lines as a pass sees them.
use Rattle.std.specs.Prelude.{◌≡◌, ℕ, ◌<◌, List, [], ◌∷◌, map, IfSome, Some, Option}
use mathlib.Core.List.Memᴰ
use mathlib.Core.List.{Memᴰ}
use Rattle.std.proofs.Common.{inl, inr, sym, ap, subst, ◌∙◌}
use Rattle.lines.specs.declared.term.TermLine.{TermLine}
use Rattle.lines.specs.Lawful.{LawfulTerm}
use Rattle.lines.specs.Passes.{View}
use Rattle.lines.specs.Records.{term_head, term_conditions}
use Rattle.lines.specs.Theorems.{Fires, HasTheirHeads, SomeHeadless}
use Rattle.lines.specs.Views.{term_view}
use Rattle.marks.specs.Sets.{Marks}
use Rattle.readings.specs.Rules.{AllIn}
use Rattle.line_book.specs.Lines.{LawfulLines}
use Rattle.line_book.specs.Theorems.{HasHeads, SomeDenial}

-- the heads of lawful lines are marks of the width

abbrev pub HeadsBelow : ℕ → List TermLine → Type 0
HeadsBelow w ls = (l : TermLine) (h : ℕ) → Memᴰ l ls → term_head l ≡ Some h → h < w

head_below : (w : ℕ) (l : TermLine) (h : ℕ) → term_head l ≡ Some h → LawfulTerm w l → h < w
head_below w l h e law = subst (λ (o : Option ℕ). IfSome o (λ m. m < w)) e law.head

pub heads_below : (w : ℕ) (ls : List TermLine) → LawfulLines w ls → HeadsBelow w ls
heads_below w [] law l h i e = absurd (Memᴰ.not-nil i)
heads_below w (k ∷ ks) law l h i e =
    elim (Memᴰ.cases_cons i) [
      | inl p ↦ head_below w k h (ap term_head (sym p) ∙ e) law.0
      | inr j ↦ heads_below w ks law.1 l h j e
    ]

line_fires : (ls : List TermLine) (l : TermLine) (X : Marks) → Memᴰ l ls → AllIn (term_conditions l) X → Fires (map term_view ls) (term_view l) X
line_fires ls l X i a = record { line = Memᴰ.map term_view i; admitted = tt; conditions = a }

-- the heads, and a denial

pub seen_heads : (w : ℕ) (ls : List TermLine) (X : Marks) → HasHeads ls X → HasTheirHeads w (map term_view ls) X
seen_heads w ls X h v m f e b =
    let p = Memᴰ.of_map term_view ls f.line in
    h p.0 m p.1 (ap (λ (u : View). u.head) p.2 ∙ e) (subst (λ (u : View). AllIn u.conditions X) (sym p.2) f.conditions)

pub heads_seen : (w : ℕ) (ls : List TermLine) (X : Marks) → HeadsBelow w ls → HasTheirHeads w (map term_view ls) X → HasHeads ls X
heads_seen w ls X b h l m i e a = h (term_view l) m (line_fires ls l X i a) e (b l m i e)

pub denial_seen : (ls : List TermLine) (X : Marks) → SomeHeadless (map term_view ls) X → SomeDenial ls X
denial_seen ls X s =
    let p = Memᴰ.of_map term_view ls s.fires.line in
    (p.0, p.1, ap (λ (u : View). u.head) p.2 ∙ s.headless, subst (λ (u : View). AllIn u.conditions X) (sym p.2) s.fires.conditions)

pub seen_denial : (ls : List TermLine) (X : Marks) → SomeDenial ls X → SomeHeadless (map term_view ls) X
seen_denial ls X p = record { it = term_view p.0; fires = line_fires ls p.0 X p.1 p.3; headless = p.2 }
