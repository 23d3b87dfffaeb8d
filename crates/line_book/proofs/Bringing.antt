-- A line book closes a set by bringing in its lines.
use Rattle.std.proofs.Common.{◌≡◌, ℕ, ◌<◌, Bool, true, false, List, map, sym, refl, ap, ◌∙◌, subst}
use Rattle.books.specs.Closing.{ClosedTo, ClosedOnTo, CleanWithin}
use Rattle.books.specs.Denials.{some_stands, all_where}
use Rattle.lines.specs.declared.term.TermLine.{TermLine}
use Rattle.lines.specs.Brings.{BringsSome, BringsAll, Done}
use Rattle.lines.specs.Indexes.{Indexes}
use Rattle.lines.specs.Passes.{View, conditions_of}
use Rattle.lines.specs.Theorems.{HasTheirHeads}
use Rattle.lines.specs.Views.{term_view}
use Rattle.marks.specs.declared.set.MarkSet.{MarkSet}
use Rattle.marks.specs.MarkSets.{marks_of, IsSet}
use Rattle.marks.specs.Sets.{Marks, ◌∈◌, ◌⊆◌, below, OfWidth}
use Rattle.marks.proofs.Sets.{same_test, is_true, holds, fails, equal_within}
use Rattle.lines.proofs.Following.{headless_grows}
use Rattle.lines.proofs.Short.{terms_indexed}
use Rattle.line_book.specs.declared.book.LineBook.{LineBook}
use Rattle.line_book.specs.Lines.{LawfulLines, denials, grown, line_book}
use Rattle.line_book.specs.Growing.{grown_once, grown_is}
use Rattle.line_book.specs.Theorems.{HasHeads}
use Rattle.line_book.specs.Giving.{denial_stands, stands_denial}
use Rattle.line_book.specs.Seeing.{heads_below, seen_heads, heads_seen, denial_seen, seen_denial}

module _ (w : ℕ) (ls : List TermLine) (law : LawfulLines w ls) (before mid after : MarkSet) (told : Bool) (width : before.width ≡ w)
    (gives : IsSet after mid.width (all_where told mid.width (marks_of mid))) where
  abbrev vs : List View
  vs = map term_view ls

  abbrev S : Marks
  S = marks_of before

  inside : OfWidth w S
  inside = subst (λ (n : ℕ). OfWidth n S) width before.inside

  heads_at : (Z : Marks) → HasHeads ls Z → HasTheirHeads before.width vs Z
  heads_at Z h = subst (λ (n : ℕ). HasTheirHeads n vs Z) (sym width) (seen_heads w ls Z h)

  -- where all lines were brought in
  module _ (all : BringsAll vs before mid told) where
    mid_width : mid.width ≡ w
    mid_width = all.some.width ∙ width

    reached : marks_of mid ≡ grown w ls S
    reached =
        let low = heads_below w ls law in
        grown_once w ls low S inside (marks_of mid)
        (record {
          of_width = subst (λ (n : ℕ). OfWidth n (marks_of mid)) mid_width mid.inside;
          around = all.some.around;
          heads = heads_seen w ls (marks_of mid) low (subst (λ (n : ℕ). HasTheirHeads n vs (marks_of mid)) width all.heads);
          least = λ Z z s h. all.some.least Z s (heads_at Z h);
        })

    denied : told ≡ some_stands (denials ls) (grown w ls S)
    denied =
        same_test told (some_stands (denials ls) (marks_of mid))
        (λ t. stands_denial ls (marks_of mid) (denial_seen ls (marks_of mid) (all.decided.0 (is_true told t))))
        (λ t. holds (all.decided.1 (seen_denial ls (marks_of mid) (denial_stands ls (marks_of mid) t))))
        ∙ ap (some_stands (denials ls)) reached

    pub closed_all : ClosedTo (line_book w ls) before after told
    closed_all =
        record {
          set = record {
            width = gives.width ∙ mid_width;
            marks =
                gives.marks
                ∙ ap (λ (n : ℕ). all_where told n (marks_of mid)) mid_width
                ∙ ap (λ (X : Marks). all_where told w X) reached
                ∙ ap (λ (b : Bool). all_where b w (grown w ls S)) denied;
          };
          clash = denied;
        }

  -- where some were
  module _ (some : BringsSome vs before mid told) where
    within_grown : marks_of mid ⊆ grown w ls S
    within_grown = let p = grown_is w ls (heads_below w ls law) S inside in some.least (grown w ls S) p.around (heads_at (grown w ls S) p.heads)

    real : told ≡ true → some_stands (denials ls) (grown w ls S) ≡ true
    real e =
        is_true (some_stands (denials ls) (grown w ls S))
        (stands_denial ls (grown w ls S)
        (denial_seen ls (grown w ls S)
        (headless_grows within_grown (some.stands e))))

    all_within : (b c : Bool) (n : ℕ) (X Y : Marks) → OfWidth n X → X ⊆ Y → (b ≡ true → c ≡ true) → n ≡ w → OfWidth w Y → all_where b n X ⊆ all_where c w Y
    all_within true c n X Y x s r e y m t = subst (λ (d : Bool). m ∈ all_where d w Y) (sym (r refl)) (subst (λ (k : ℕ). m ∈ below k) e t)
    all_within false true n X Y x s r e y m t = subst (λ (k : ℕ). m ∈ below k) e (x m t)
    all_within false false n X Y x s r e y m t = s m t

    mid_to_after : (b : Bool) → b ≡ told → marks_of mid ⊆ all_where b mid.width (marks_of mid)
    mid_to_after true e m t = mid.inside m t
    mid_to_after false e m t = t

    pub closed_some : (X : Marks) → (CleanWithin (line_book w ls) S X → ClosedTo (line_book w ls) before after told) → ClosedOnTo (line_book w ls) X before after told
    closed_some X closes =
        let p = grown_is w ls (heads_below w ls law) S inside in
        record {
          closes = closes;
          width = gives.width ∙ some.width ∙ width;
          around = λ m t. equal_within (sym gives.marks) m (mid_to_after told refl m (some.around m t));
          within = λ m t.
              all_within told (some_stands (denials ls) (grown w ls S)) mid.width (marks_of mid) (grown w ls S) mid.inside within_grown real (some.width ∙ width) p.of_width m
              (equal_within gives.marks m t);
          clash = real;
        }

-- a set that is closed without a clash is grown, and done
pub clean_done : (w : ℕ) (ls : List TermLine) (before : MarkSet) (X : Marks) → LawfulLines w ls → before.width ≡ w → OfWidth w X
    → CleanWithin (line_book w ls) (marks_of before) X → Done before.width (map term_view ls) X (marks_of before)
clean_done w ls before X law width inside clean =
    let low = heads_below w ls law in
    let is : grown w ls X ≡ X = sym (ap (λ (b : Bool). all_where b w (grown w ls X)) clean.quiet) ∙ clean.closed in
    let heads = seen_heads w ls X (subst (HasHeads ls) is (grown_is w ls low X inside).heads) in
    let quiet : some_stands (denials ls) X ≡ false = ap (some_stands (denials ls)) (sym is) ∙ clean.quiet in
    record {
      within = clean.within;
      heads = λ v h f e b. clean.within h (heads v h f e (subst (λ (n : ℕ). h < n) width b));
      quiet = λ s. fails quiet (stands_denial ls X (denial_seen ls X s));
    }

pub book_indexed : (b : LineBook) → Indexes b.index (conditions_of (map term_view b.lines))
book_indexed b = terms_indexed b.index b.width b.lines b.narrow (record { few = b.few; each = b.lawful }) b.indexed
