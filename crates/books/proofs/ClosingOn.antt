-- Sets closed on from another, for every book, and with bars laid on the book below.
use Rattle.std.proofs.Common.{◌≡◌, ◌≢◌, ℕ, Bool, true, false, ◌||◌, T, List, map, Ok, Err, Result, inl, inr, sym, ap, ap₂, subst, ◌∙◌, arith}
use Rattle.lines.specs.declared.bar.Bar.{Bar}
use Rattle.lines.specs.Records.{bar_conditions}
use Rattle.marks.specs.declared.refusal.Refusal.{Refusal}
use Rattle.marks.specs.declared.set.MarkSet.{MarkSet}
use Rattle.marks.specs.MarkSets.{marks_of}
use Rattle.marks.specs.Refusals.{Refuses}
use Rattle.marks.specs.Sets.{Marks, ◌∈◌, ◌⊆◌, below, OfWidth}
use Rattle.marks.proofs.Sets.{equal_within, holds, fails, is_true, is_false}
use Rattle.readings.specs.Books.{Book, Lawful}
use Rattle.readings.proofs.Sets.{or_left, or_right, or_cases}
use Rattle.books.specs.Closing.{Closes, ClosedTo, CleanWithin, ClosedOnTo, ClosesOn}
use Rattle.books.specs.Bars.{barred, BarsLaid, LaysBars}
use Rattle.books.specs.Denials.{some_stands, all_where}
use Rattle.books.specs.Denying.{stands_grows, all_where_yes, all_where_not}

-- widths that do not differ are the same
same_width : (v w : ℕ) → (v ≢ w → ⊥) → v ≡ w
same_width v w f = grind arith

inside : (s : MarkSet) {w : ℕ} → s.width ≡ w → OfWidth w (marks_of s)
inside s same = subst (λ (n : ℕ). OfWidth n (marks_of s)) same s.inside

-- closing anew does what closing on does, from whatever set
module _ (B : Book) (law : Lawful B) {before after : MarkSet} where
  closed_anew : (X : Marks) {answer : Bool} → before.width ≡ B.width → ClosedTo B before after answer → ClosedOnTo B X before after answer
  closed_anew X same to =
      record {
        closes = λ clean. to;
        width = to.set.width;
        around = λ m t. equal_within (sym to.set.marks) m (law.extensive (marks_of before) (inside before same) m t);
        within = equal_within to.set.marks;
        clash = λ e. sym to.clash ∙ e;
      }

  pub closes_anew : (from : MarkSet) (r : Result Bool Refusal) → from.width ≡ B.width → Closes B before after r → ClosesOn B from before after r
  closes_anew from (Ok answer) same t =
      elim t [
        | inl p ↦ absurd p.1.0
        | inr p ↦ inr (λ d. elim d [ inl n ↦ p.0 n | inr n ↦ n same ], closed_anew (marks_of from) (same_width before.width B.width p.0) p.1)
      ]
  closes_anew from (Err e) same t = elim t [ inl p ↦ inl (inl p.0, p.1) | inr p ↦ absurd p.1 ]

-- all marks of the width, or the set

in_either : (b : Bool) (w : ℕ) (X S : Marks) → X ⊆ below w → X ⊆ S → X ⊆ all_where b w S
in_either true w X S all some = all
in_either false w X S all some = some

either_in : (b : Bool) (w : ℕ) (S X : Marks) → (T b → below w ⊆ X) → S ⊆ X → all_where b w S ⊆ X
either_in true w S X all some = all tt
either_in false w S X all some = some

-- bars laid on the set that the book below made of another
module _ (B : Book) (bars : List Bar) (before made after : MarkSet) where
  abbrev ds : List (List ℕ)
  ds = map bar_conditions bars

  abbrev S : Marks
  S = marks_of before

  abbrev M : Marks
  M = marks_of made

  abbrev k : Marks → Bool
  k X = B.clash X || some_stands ds (B.closure X)

  module _ (under answer : Bool) (told : BarsLaid bars under made after answer) where
    -- closing below, and then the bars, is closing
    laid : ClosedTo B before made under → ClosedTo (barred B bars) before after answer
    laid to =
        let clash : answer ≡ k S = told.clash ∙ ap₂ (λ (b : Bool) (X : Marks). b || some_stands ds X) to.clash to.set.marks in
        record {
          set = record {
            width = told.set.width ∙ to.set.width;
            marks = told.set.marks ∙ ap (λ (n : ℕ). all_where answer n M) to.set.width ∙ ap₂ (λ (b : Bool) (X : Marks). all_where b B.width X) clash to.set.marks;
          };
          clash = clash;
        }

    -- and so for closing on
    module _ (X : Marks) (to : ClosedOnTo B X before made under) where
      -- where a set is clean for the barred book, it is for the book below
      clean_below : CleanWithin (barred B bars) S X → CleanWithin B S X
      clean_below clean =
          record {
            closed = sym (all_where_not (k X) B.width (B.closure X) (fails clean.quiet)) ∙ clean.closed;
            quiet = is_false (B.clash X) (λ t. fails clean.quiet (or_left (B.clash X) (some_stands ds (B.closure X)) t));
            within = clean.within;
          }

      told_is : T answer → T (k S)
      told_is t =
          elim (or_cases under (some_stands ds M) (subst T told.clash t)) [
            | inl u ↦ or_left (B.clash S) (some_stands ds (B.closure S)) (holds (to.clash (is_true under u)))
            | inr d ↦ or_right (B.clash S) (some_stands ds (B.closure S)) (stands_grows ds M (B.closure S) to.within d)
          ]

      all_is : T answer → below made.width ⊆ (barred B bars).closure S
      all_is t m b =
          equal_within (sym (all_where_yes (k S) B.width (B.closure S) (told_is t))) m (subst (λ (n : ℕ). m ∈ below n) to.width b)

      made_in : M ⊆ (barred B bars).closure S
      made_in = in_either (k S) B.width M (B.closure S) (inside made to.width) to.within

      laid_on : ClosedOnTo (barred B bars) X before after answer
      laid_on =
          record {
            closes = λ clean. laid (to.closes (clean_below clean));
            width = told.set.width ∙ to.width;
            around = λ m t. equal_within (sym told.set.marks) m (in_either answer made.width M M made.inside (λ j u. u) m (to.around m t));
            within = λ m t. either_in answer made.width M ((barred B bars).closure S) all_is made_in m (equal_within told.set.marks m t);
            clash = λ e. is_true (k S) (told_is (holds e));
          }

  pub barred_closes_on : (from : MarkSet) (r s : Result Bool Refusal) → ClosesOn B from before made r → LaysBars bars r made after s → ClosesOn (barred B bars) from before after s
  barred_closes_on from (Ok under) (Ok answer) t told =
      elim t [ inl p ↦ absurd p.1.0 | inr p ↦ inr (p.0, laid_on under answer told.made (marks_of from) p.1) ]
  barred_closes_on from (Ok under) (Err e) t told = absurd told.made
  barred_closes_on from (Err e) s t told =
      elim t [
        | inl p ↦
            let stays = told.refused.1 in
            let so = subst (λ (x : Result Bool Refusal). Refuses x 7) (sym told.refused.0) p.1.0 in
            inl (p.0, (so, record { width = stays.width ∙ p.1.1.width; words = stays.words ∙ p.1.1.words }))
        | inr p ↦ absurd p.1
      ]
