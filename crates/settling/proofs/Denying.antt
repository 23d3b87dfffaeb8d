-- Which heads a book denies at a set.
use Rattle.std.proofs.Common.{◌≡◌, ℕ, ◌+◌, ◌<◌, ◌≤◌, Bool, true, false, ◌&&◌, ◌||◌, eqb, ltb, ◌⊎◌, List, Result, sym, refl, ap, ◌∙◌, subst, ap₂, inl, inr, ⊎_elim, arith, ltb→lt, lt→ltb}
use mathlib.Core.Bool.{and-true}
use mathlib.Core.List.Memᴰ
use mathlib.Core.Path.{fun_ext}
use Rattle.std.proofs.lemmas.Bool.{cases_lt, cases_eq, cases_Bool, eq-eqb, ne_eqb, lt-ltb, le-ltb, and_left, and_right}
use Rattle.std.proofs.lemmas.Bool.Decides.{nat_tests}
use Rattle.std.specs.List.{AllByRecursion}
use Rattle.marks.specs.declared.refusal.Refusal.{Refusal}
use Rattle.marks.specs.declared.set.MarkSet.{MarkSet}
use Rattle.marks.specs.MarkSets.{marks_of, IsSet, Unchanged}
use Rattle.marks.specs.Refusals.{Refuses, Gives, Test}
use Rattle.marks.specs.Sets.{Marks, ◌∈◌, ◌⊆◌, OfWidth, no_marks, below, with_mark, ◌∪◌, ◌∖◌, Lowest}
use Rattle.marks.specs.Words.{held}
use Rattle.marks.proofs.Sets.{equal_within, holds, is_true, is_false, with_inside}
use Rattle.readings.specs.Books.{Book, Lawful, Denied, Clashes}
use Rattle.readings.proofs.Sets.{both, right, or_left, or_right, or_cases, decide, less_in, with_old, with_new, with_within}
use Rattle.readings.specs.Rules.{Rule, Counts, line, stands}
use Rattle.lines.specs.Lawful.{LawfulFare}
use Rattle.lines.specs.Records.{rule_of}
use Rattle.lines.specs.declared.fare.FareLine.{FareLine}
use Rattle.settling.specs.Calls.{GoesWith}
use Rattle.settling.specs.Denials.{HeadIn, denied_below, DeniesHeads, OnlyDenied}
use Rattle.settling.specs.Growth.{rules_of}
use Rattle.settling.proofs.Answering.{gives_all}
use Rattle.settling.proofs.Fares.{all_in_list}
use Rattle.lines.proofs.Meaning.{lawful_lines_fit}

-- what an insert leaves, refused or not: the set with the mark, if that is a mark of its width
pub record TookIn (before after : MarkSet) (m : ℕ) : Type 0 where
  pub width : after.width ≡ before.width
  pub around : marks_of before ⊆ marks_of after
  pub mark : m < before.width → m ∈ marks_of after

pub took_in : (before after : MarkSet) (m : ℕ) (r : Result (Unit {0}) Refusal)
    → Test (before.width ≤ m) (Refuses r 9 × Unchanged before after) (Gives r (λ _. IsSet after before.width (with_mark (marks_of before) m))) → TookIn before after m
took_in before after m r (inl f) =
    record {
      width = f.1.1.width;
      around = equal_within (ap held (sym f.1.1.words));
      mark = λ l. absurd (omega (arith, f.0));
    }
took_in before after m r (inr g) =
    let is = gives_all r g.1 in
    record {
      width = is.width;
      around = λ k t. equal_within (sym is.marks) k (with_old (marks_of before) m k t);
      mark = λ l. equal_within (sym is.marks) m (with_new (marks_of before) m);
    }

-- the four cases of a step, as tests
at_mark : (p q r s x b : Bool) → p ≡ true → q ≡ true → r ≡ true → s ≡ b → ((p && b) || (x && (r && s))) ≡ (q && (r && s))
at_mark p q r s x b e f g h = grind (arith, nat_tests)

off_mark : (p q r s x b : Bool) → p ≡ false → x ≡ q → ((p && b) || (x && (r && s))) ≡ (q && (r && s))
off_mark p q r s x b e f = grind (arith, nat_tests)

untried : (p q r s x b : Bool) → p ≡ false → r ≡ false → ((p && b) || (x && (r && s))) ≡ (q && (r && s))
untried p q r s x b e f = grind (arith, nat_tests)

module _ (B : Book) (S C : Marks) (from m : ℕ) (low : Lowest C from m) where
  -- the next mark of C is tried, and between it and the one before there is none
  step_at : (b : Bool) → b ≡ B.clash (with_mark S m) → (k : ℕ) → ((eqb k m && b) || denied_below B S C from k) ≡ denied_below B S C (m + 1) k
  step_at b is k = go (cases_eq k m) (cases_lt k from) (cases_lt k m)
    where
      go : (k ≡ m) ⊎ (k ≡ m → ⊥) → (k < from) ⊎ (from ≤ k) → (k < m) ⊎ (m ≤ k) → ((eqb k m && b) || denied_below B S C from k) ≡ denied_below B S C (m + 1) k
      go (inl e) x y =
          at_mark (eqb k m) (ltb k (m + 1)) (C k) (B.clash (with_mark S k)) (ltb k from) b (eq-eqb k m e) (lt-ltb k (m + 1) (omega arith))
          (ap C e ∙ is_true (C m) low.held) (ap (λ (j : ℕ). B.clash (with_mark S j)) e ∙ sym is)
      go (inr ne) (inl l) y =
          let h = low.after in
          off_mark (eqb k m) (ltb k (m + 1)) (C k) (B.clash (with_mark S k)) (ltb k from) b (ne_eqb k m ne)
          (lt-ltb k from l ∙ sym (lt-ltb k (m + 1) (omega arith)))
      go (inr ne) (inr h) (inl l) =
          untried (eqb k m) (ltb k (m + 1)) (C k) (B.clash (with_mark S k)) (ltb k from) b (ne_eqb k m ne) (is_false (C k) (low.first k h l))
      go (inr ne) (inr h) (inr n) =
          off_mark (eqb k m) (ltb k (m + 1)) (C k) (B.clash (with_mark S k)) (ltb k from) b (ne_eqb k m ne)
          (le-ltb k from h ∙ sym (le-ltb k (m + 1) (omega arith)))

  pub denied_step : (X : Marks) → X ≡ denied_below B S C from → true ≡ B.clash (with_mark S m) → with_mark X m ≡ denied_below B S C (m + 1)
  denied_step X e is =
      fun_ext (λ k. ap₂ (λ (x y : Bool). x || y) (sym (and-true (eqb k m))) (ap (λ (Y : Marks). Y k) e) ∙ step_at true is k)

  pub kept_step : (X : Marks) → X ≡ denied_below B S C from → false ≡ B.clash (with_mark S m) → X ≡ denied_below B S C (m + 1)
  kept_step X e is =
      e ∙ fun_ext (λ k. ap (λ (x : Bool). x || denied_below B S C from k) (sym (and_right (eqb k m) false refl)) ∙ step_at false is k)

-- where all marks of C lie below n, and the last was tried, all were
pub denied_all : (B : Book) (S C : Marks) (from w : ℕ) → OfWidth w C → ((k : ℕ) → from ≤ k → k ∈ C → ⊥) → denied_below B S C from ≡ denied_below B S C w
denied_all B S C from w inside none = fun_ext (λ k. go k (cases_Bool (C k)))
  where
    go : (k : ℕ) → (C k ≡ true) ⊎ (C k ≡ false) → denied_below B S C from k ≡ denied_below B S C w k
    go k (inl t) =
        ap (λ (x : Bool). x && (C k && B.clash (with_mark S k)))
        (is_true (ltb k from) (lt→ltb k from (below_from k t)) ∙ sym (is_true (ltb k w) (inside k (holds t))))
      where
        below_from : (k : ℕ) → C k ≡ true → k < from
        below_from k t = ⊎_elim (λ l. l) (λ h. absurd (none k h (holds t))) (cases_lt k from)
    go k (inr f) =
        let a : (C k && B.clash (with_mark S k)) ≡ false = and_left (C k) (B.clash (with_mark S k)) f in
        and_right (ltb k from) (C k && B.clash (with_mark S k)) a ∙ sym (and_right (ltb k w) (C k && B.clash (with_mark S k)) a)

-- nothing lies below 0
pub denied_none : (B : Book) (S C : Marks) → no_marks ≡ denied_below B S C 0
denied_none B S C = fun_ext (λ k. sym (and_left (ltb k 0) (C k && B.clash (with_mark S k)) (le-ltb k 0 (omega arith))))

-- an empty set holds only denied heads
pub no_heads : {B : Book} {lines : List FareLine} {facts : MarkSet} {S : Marks} (D : MarkSet) → D.width ≡ B.width → marks_of D ≡ no_marks → OnlyDenied B lines facts S D
no_heads D width none = record { width = width; denied = λ r c t. absurd (equal_within none r.head t) }

module _ (B : Book) (law : Lawful B) (lines : List FareLine) (facts at : MarkSet) (goes : GoesWith B lines facts) (width : at.width ≡ B.width) where
  abbrev S : Marks
  S = marks_of at

  wide : OfWidth B.width S
  wide = subst (λ (w : ℕ). OfWidth w S) width at.inside

  -- the head of a rule that counts is a mark of the width
  head_within : (r : Rule) → Counts (rules_of lines) (marks_of facts) r → r.head ∈ below B.width
  head_within r (line i) = (lawful_lines_fit B.width lines goes.lawful.each r i).head
  head_within r (stands {m} t) = subst (λ (w : ℕ). m ∈ below w) goes.width (facts.inside m t)

  with_wide : (m : ℕ) → m ∈ below B.width → OfWidth B.width (with_mark S m)
  with_wide m t = with_inside B.width S m (ltb→lt m B.width t) wide

  -- where the book clashes at the set, it denies everything there
  pub denies_all : (D : MarkSet) → IsSet D B.width (below B.width) → Clashes B S → DeniesHeads B lines facts S D
  denies_all D is clash =
      record {
        only = record {
          width = is.width;
          denied = λ r c _. law.clash_grows S (with_mark S r.head) wide (with_wide r.head (head_within r c)) (with_old S r.head) clash;
        };
        others = λ r c _. equal_within (sym is.marks) r.head (head_within r c);
      }

  -- where it does not, it denies nothing that the closure holds
  allowed : (m : ℕ) → (Clashes B S → ⊥) → m ∈ B.closure S → Denied B S m → ⊥
  allowed m none t denied =
      let C = B.closure S in
      let cw = law.of_width S wide in
      none (law.clash_comes_back S wide (law.clash_grows (with_mark S m) C (with_wide m (cw m t)) cw (with_within S C m t (law.extensive S wide)) denied))

  -- the facts and the heads of the lines are all heads there are
  head_there : (all : Marks) → marks_of facts ⊆ all → AllByRecursion (HeadIn facts.width all) lines → (r : Rule) → Counts (rules_of lines) (marks_of facts) r → r.head ∈ all
  head_there all f h r (stands {m} t) = f m t
  head_there all f h r (line i) =
      let from = Memᴰ.of_map rule_of lines i in
      let l = from.0 in
      let law_of = all_in_list (LawfulFare B.width) lines goes.lawful.each l from.1 in
      subst (λ (x : Rule). x.head ∈ all) from.2
      (all_in_list (HeadIn facts.width all) lines h l from.1 (let e = goes.width in let k = law_of.head in omega arith))

  -- so it is enough to try the other heads, but for those that are known to be denied
  pub denies_tried : (all : Marks) (known D : MarkSet) → marks_of facts ⊆ all → AllByRecursion (HeadIn facts.width all) lines → (Clashes B S → ⊥)
      → OnlyDenied B lines facts S known → IsSet D B.width (denied_below B S ((all ∖ B.closure S) ∖ marks_of known) B.width ∪ marks_of known) → DeniesHeads B lines facts S D
  denies_tried all known D f h none only is =
      record {
        only = record { width = is.width; denied = λ r c t. held r c (or_cases (new r.head) (K r.head) (equal_within is.marks r.head t)) };
        others = λ r c d. equal_within (sym is.marks) r.head (found r c d (decide (K r.head)));
      }
    where
      K : Marks
      K = marks_of known

      tried : Marks
      tried = (all ∖ B.closure S) ∖ K

      new : Marks
      new = denied_below B S tried B.width

      held : (r : Rule) → Counts (rules_of lines) (marks_of facts) r → (r.head ∈ new) ⊎ (r.head ∈ K) → Denied B S r.head
      held r c (inl t) = right (tried r.head) (B.clash (with_mark S r.head)) (right (below B.width r.head) _ t)
      held r c (inr k) = only.denied r c k

      found : (r : Rule) → Counts (rules_of lines) (marks_of facts) r → Denied B S r.head → (r.head ∈ K) ⊎ (r.head ∈ K → ⊥) → r.head ∈ (new ∪ K)
      found r c d (inl k) = or_right (new r.head) (K r.head) k
      found r c d (inr k) =
          or_left (new r.head) (K r.head)
          (both (below B.width r.head) _ (head_within r c)
          (both (tried r.head) _ (less_in (all ∖ B.closure S) K r.head (less_in all (B.closure S) r.head (head_there all f h r c) (λ t. allowed r.head none t d)) k) d))
