-- How a set grows, turn by turn, to the least closed set around it that has the heads of the admitted fare lines.
use Rattle.std.proofs.Common.{◌≡◌, ℕ, ◌-◌, ◌<◌, Bool, true, false, not, T, List, map, sym, ap, ◌∙◌, subst, inl, inr, arith}
use mathlib.Core.List.Memᴰ
use mathlib.Core.List.{map-map}
use Rattle.std.proofs.lemmas.Bool.{false≢true, not-true, not-false}
use Rattle.std.proofs.lemmas.Option.{none-some}
use Rattle.marks.specs.declared.set.MarkSet.{MarkSet}
use Rattle.marks.specs.MarkSets.{marks_of}
use Rattle.marks.specs.Sets.{Marks, ◌⊆◌, below, OfWidth, size}
use Rattle.marks.proofs.Sets.{equal_within, same_sets, holds, fails, is_false}
use Rattle.marks.proofs.Sizes.{size_le}
use Rattle.readings.specs.Books.{Book, Lawful, Closed}
use Rattle.readings.specs.Rules.{Rule}
use Rattle.readings.specs.Yields.{HasHeads}
use Rattle.readings.proofs.Closing.{closed_if}
use Rattle.readings.proofs.Sizes.{size_grows, same_or_more}
use Rattle.lines.specs.Brings.{BringsAll, Done}
use Rattle.lines.specs.Passes.{View}
use Rattle.lines.specs.Records.{rule_of}
use Rattle.lines.specs.Theorems.{HasTheirHeads, SomeHeadless}
use Rattle.lines.specs.Views.{rule_view, fare_view}
use Rattle.lines.specs.declared.admission.Admission.{Admission}
use Rattle.lines.specs.declared.fare.FareLine.{FareLine}
use Rattle.lines.proofs.Meaning.{lawful_lines_fit}
use Rattle.books.specs.Closing.{ClosedTo, CleanWithin}
use Rattle.settling.specs.Calls.{LawfulFares}
use Rattle.settling.specs.Growth.{rules_of, LineLetInBy, Grown, Between, Turned}
use Rattle.settling.proofs.Fares.{heads_seen, heads_brought}

wide : {w : ℕ} (X : MarkSet) → X.width ≡ w → OfWidth w (marks_of X)
wide X e = subst (λ (w : ℕ). OfWidth w (marks_of X)) e X.inside

module _ {B : Book} (law : Lawful B) {lines : List FareLine} (gate : Admission) (lawful : LawfulFares B.width lines) where
  abbrev E : Marks
  E = marks_of gate.exceptions

  abbrev D : Marks
  D = marks_of gate.denied

  abbrev R : Marks
  R = marks_of gate.refuted

  abbrev P : Rule → Type 0
  P = LineLetInBy lines gate

  abbrev w : ℕ
  w = B.width

  -- the lines as a pass sees them, and that this is by their rules
  abbrev vs : List View
  vs = map (fare_view gate) lines

  seen : vs ≡ map (rule_view E D R) (rules_of lines)
  seen = sym (map-map (rule_view E D R) rule_of lines)

  seen_in : (Z : Marks) → HasHeads P Z → HasTheirHeads w vs Z
  seen_in Z heads = subst (λ (us : List View). HasTheirHeads w us Z) (sym seen) (heads_seen (rules_of lines) E D R Z w heads)

  seen_from : (Z : Marks) → HasTheirHeads w vs Z → HasHeads P Z
  seen_from Z heads =
      heads_brought (rules_of lines) E D R Z w (lawful_lines_fit w lines lawful.each) (subst (λ (us : List View). HasTheirHeads w us Z) seen heads)

  -- every fare line has a head
  headed : (Z : Marks) → SomeHeadless vs Z → ⊥
  headed Z s =
      let p = Memᴰ.of_map (fare_view gate) lines s.fires.line in
      none-some (rule_of p.0).head (sym (ap (λ (u : View). u.head) p.2 ∙ s.headless))

  -- the lines were brought in, and the set was closed
  module _ {before lined after : MarkSet} {told clash : Bool} (width : before.width ≡ w) (brings : BringsAll vs before lined told) (to : ClosedTo B lined after clash) where
    lined_width : lined.width ≡ w
    lined_width = brings.some.width ∙ width

    inside : OfWidth w (marks_of lined)
    inside = wide lined lined_width

    lined_heads : HasHeads P (marks_of lined)
    lined_heads = seen_from (marks_of lined) (subst (λ (n : ℕ). HasTheirHeads n vs (marks_of lined)) width brings.heads)

    grows : marks_of lined ⊆ marks_of after
    grows m t = equal_within (sym to.set.marks) m (law.extensive (marks_of lined) inside m t)

    pub closed_around : marks_of before ⊆ marks_of after
    closed_around m t = grows m (brings.some.around m t)

    pub closed_least : (Z : Marks) → OfWidth w Z → Closed B Z → HasHeads P Z → marks_of before ⊆ Z → marks_of after ⊆ Z
    closed_least Z z c heads s m t =
        equal_within c m
        (law.monotone (marks_of lined) Z inside z (brings.some.least Z s (subst (λ (n : ℕ). HasTheirHeads n vs Z) (sym width) (seen_in Z heads))) m
        (equal_within to.set.marks m t))

    -- without a clash there may be another turn
    pub closed_between : clash ≡ false → Between B P lined after
    closed_between e =
        record {
          lined = lined_width;
          width = to.set.width;
          heads = lined_heads;
          within = grows;
          closed = subst (Closed B) (sym to.set.marks) (law.idempotent (marks_of lined) inside);
          quiet =
              is_false (B.clash (marks_of after))
              (λ t.
              fails (sym to.clash ∙ e) (law.clash_comes_back (marks_of lined) inside (subst (λ (X : Marks). T (B.clash X)) to.set.marks t)));
        }

    -- with one the set has all marks
    pub closed_clash : clash ≡ true → Closed B (marks_of after) × HasHeads P (marks_of after)
    closed_clash e =
        let all : below w ⊆ marks_of after =
        λ m t. equal_within (sym to.set.marks) m (equal_within (sym (law.clash_gives_all (marks_of lined) inside (holds (sym to.clash ∙ e)))) m t) in (
          closed_if B law (marks_of after) (wide after to.set.width) (λ m t. all m (law.of_width (marks_of after) (wide after to.set.width) m t)),
          λ r p a. all r.head (lawful_lines_fit w lines lawful.each r p.line).head,
        )

    pub closed_grown : Closed B (marks_of after) × HasHeads P (marks_of after) → Grown B P before after
    closed_grown ends =
        record {
          width = to.set.width;
          least = record {
            of_width = wide after to.set.width;
            around = closed_around;
            closed = ends.0;
            heads = ends.1;
            least = λ Z z s c heads. closed_least Z z c heads s;
          };
        }

  -- a set between two turns is done where its lines were brought in
  pub between_done : {L X : MarkSet} → Between B P L X → Done X.width vs (marks_of L) (marks_of X)
  between_done {L} between =
      record {
        within = between.within;
        heads = λ v h f e b. between.within h (seen_in (marks_of L) between.heads v h f e (subst (λ (n : ℕ). h < n) between.width b));
        quiet = headed (marks_of L);
      }

  pub between_clean : {L X lined : MarkSet} {told : Bool} → Between B P L X → BringsAll vs X lined told → CleanWithin B (marks_of lined) (marks_of X)
  between_clean between brings = record { closed = between.closed; quiet = between.quiet; within = brings.some.around }

  -- a turn where closing had added nothing
  pub turned_none : {L X : MarkSet} → Between B P L X → marks_of X ≡ marks_of L → Turned B P L X L X false
  turned_none between same =
      record {
        width = between.width;
        around = λ m t. t;
        least = λ Z z c h s. s;
        goes_on = λ e. absurd (false≢true e);
        ends = λ _. (between.closed, subst (HasHeads P) (sym same) between.heads);
      }

  -- one where it had, and no line was brought in
  pub turned_still : {L X X' : MarkSet} {told : Bool} → Between B P L X → BringsAll vs X X' told → marks_of X' ≡ marks_of X → Turned B P L X L X' false
  turned_still {X' = X'} between brings same =
      record {
        width = brings.some.width ∙ between.width;
        around = brings.some.around;
        least = λ Z z c h s. subst (λ (Y : Marks). Y ⊆ Z) (sym same) s;
        goes_on = λ e. absurd (false≢true e);
        ends = λ _. (
          subst (Closed B) (sym same) between.closed,
          seen_from (marks_of X') (subst (λ (k : ℕ). HasTheirHeads k vs (marks_of X')) between.width brings.heads),
        );
      }

  -- and one where one was
  pub turned_some : {L X lined after : MarkSet} {told clash more : Bool} → Between B P L X → (marks_of X ≡ marks_of L → ⊥) → BringsAll vs X lined told
      → ClosedTo B lined after clash → more ≡ not clash → Turned B P L X lined after more
  turned_some {L} {X} {lined} {after} {told} {clash} {more} between differ brings to is =
      record {
        width = to.set.width;
        around = closed_around between.width brings to;
        least = closed_least between.width brings to;
        goes_on = λ e. (
          closed_between between.width brings to (not-true clash (sym is ∙ e)),
          elim (same_or_more w (marks_of L) (marks_of X) (wide X between.width) between.within) [
            | inl back ↦ absurd (differ (same_sets back between.within))
            | inr greater ↦ let rest = size_grows w (marks_of X) (marks_of lined) brings.some.around in omega arith
          ],
        );
        ends = λ e. closed_clash between.width brings to (not-false clash (sym is ∙ e));
      }

-- X came from A by turns, the last of which brought the lines in at L
pub record Growing (B : Book) (P : Rule → Type 0) (A L X : MarkSet) : Type 0 where
  pub between : Between B P L X
  pub around : marks_of A ⊆ marks_of X
  pub least : (Z : Marks) → OfWidth B.width Z → Closed B Z → HasHeads P Z → marks_of A ⊆ Z → marks_of X ⊆ Z

module _ {B : Book} {P : Rule → Type 0} where
  pub growing_on : {A L X L' X' : MarkSet} {more : Bool} → Growing B P A L X → Turned B P L X L' X' more → more ≡ true → Growing B P A L' X'
  growing_on g t e =
      record {
        between = (t.goes_on e).0;
        around = λ m u. t.around m (g.around m u);
        least = λ Z z c heads s. t.least Z z c heads (g.least Z z c heads s);
      }

  pub growing_end : {A L X L' X' : MarkSet} {more : Bool} → Growing B P A L X → Turned B P L X L' X' more → more ≡ false → Grown B P A X'
  growing_end {X' = X'} g t e =
      let ends = t.ends e in
      record {
        width = t.width;
        least = record {
          of_width = wide X' t.width;
          around = λ m u. t.around m (g.around m u);
          closed = ends.0;
          heads = ends.1;
          least = λ Z z s c heads. t.least Z z c heads (g.least Z z c heads s);
        };
      }

  -- the room that is left for the lines falls
  pub room_falls : {L X L' X' : MarkSet} {more : Bool} → Turned B P L X L' X' more → more ≡ true
      → B.width - size B.width (marks_of L') < B.width - size B.width (marks_of L)
  room_falls {L' = L'} t e =
      let more = (t.goes_on e).1 in
      let le = size_le B.width (marks_of L') in
      omega arith
