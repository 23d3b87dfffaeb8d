-- Marks found out in groups: closed sets at which the book does not clash.
use Rattle.std.proofs.Common.{◌≡◌, ℕ, ◌<◌, ◌≤◌, ◌⊎◌, ◌&&◌, ltb, inl, inr, T, Bool, false, sym, ap, ◌∙◌, subst}
use mathlib.Core.Path.{fun_ext}
use Rattle.std.proofs.lemmas.Bool.{cases_lt, le-ltb, and_left}
use Rattle.marks.specs.declared.set.MarkSet.{MarkSet}
use Rattle.marks.specs.MarkSets.{marks_of, IsSet}
use Rattle.marks.specs.Sets.{Marks, ◌⊆◌, OfWidth, with_mark}
use Rattle.marks.proofs.Sets.{equal_within, fails, is_false, same_test, with_inside}
use Rattle.readings.specs.Books.{Book, Lawful, Closed}
use Rattle.readings.proofs.Sets.{with_old, with_new, with_within, with_grows}
use Rattle.books.specs.Closing.{ClosedTo, ClosedOnTo}
use Rattle.settling.specs.Denials.{denied_below, Clean, CleanAround, ClosedWith}

module _ {B : Book} (law : Lawful B) where
  inside : (X : MarkSet) → X.width ≡ B.width → OfWidth B.width (marks_of X)
  inside X e = subst (λ (w : ℕ). OfWidth w (marks_of X)) e X.inside

  -- the closure of a set at which the book does not clash is clean
  pub clean_closed : {before after : MarkSet} {clash : Bool} → before.width ≡ B.width → ClosedTo B before after clash → clash ≡ false → Clean B after
  clean_closed {before} {after} width to e =
      let S = marks_of before in
      let s = inside before width in
      record {
        width = to.set.width;
        closed = subst (Closed B) (sym to.set.marks) (law.idempotent S s);
        quiet = is_false (B.clash (marks_of after)) (λ d.
            fails (sym to.clash ∙ e) (law.clash_comes_back S s (subst (λ (X : Marks). T (B.clash X)) to.set.marks d)));
      }

  -- a clean set with a mark added, closed on from itself
  pub closed_with : (m : ℕ) (before with after : MarkSet) (clash : Bool) → m < B.width → Clean B before → IsSet with before.width (with_mark (marks_of before) m)
      → ClosedOnTo B (marks_of before) with after clash → ClosedWith B m before after clash
  closed_with m before with after clash l clean is on =
      let M = with_mark (marks_of before) m in
      let more : marks_of before ⊆ marks_of with = λ k t. equal_within (sym is.marks) k (with_old (marks_of before) m k t) in
      let to = on.closes (record { closed = clean.closed; quiet = clean.quiet; within = more }) in
      record {
        told = to.clash ∙ ap B.clash is.marks;
        clean = λ e.
            record {
              clean = clean_closed (is.width ∙ clean.width) to e;
              around = λ k t. on.around k (equal_within (sym is.marks) k t);
            };
      }

  -- a mark that a clean set around S could take in is not denied at S
  pub took_denied : (S : Marks) (x : MarkSet) (m : ℕ) (y : MarkSet) → CleanAround B S x → CleanAround B (with_mark (marks_of x) m) y → B.clash (with_mark S m) ≡ false
  took_denied S x m y around more =
      let w = inside y more.clean.width in
      let up : with_mark S m ⊆ marks_of y = λ k t. more.around k (with_grows S (marks_of x) m around.around k t) in
      is_false (B.clash (with_mark S m)) (λ d. fails more.clean.quiet (law.clash_grows (with_mark S m) (marks_of y) (λ k t. w k (up k t)) w up d))

  -- what is denied at the closure is denied at the set
  module _ (S : Marks) (s : OfWidth B.width S) where
    same_denial : (m : ℕ) → m < B.width → B.clash (with_mark (B.closure S) m) ≡ B.clash (with_mark S m)
    same_denial m l =
        let C = B.closure S in
        let M = with_mark S m in
        let mw : OfWidth B.width M = with_inside B.width S m l s in
        let cw = law.of_width S s in
        let up = law.extensive M mw in
        same_test (B.clash (with_mark C m)) (B.clash M)
        (λ d.
        law.clash_comes_back M mw
        (law.clash_grows (with_mark C m) (B.closure M) (with_inside B.width C m l cw) (law.of_width M mw)
        (with_within C (B.closure M) m (up m (with_new S m)) (law.monotone S M s mw (with_old S m))) d))
        (λ d. law.clash_grows M (with_mark C m) mw (with_inside B.width C m l cw) (with_grows S C m (law.extensive S s)) d)

    pub denied_closed : (all : Marks) → denied_below B (B.closure S) all B.width ≡ denied_below B S all B.width
    denied_closed all = fun_ext (λ m. go m (cases_lt m B.width))
      where
        go : (m : ℕ) → (m < B.width) ⊎ (B.width ≤ m) → denied_below B (B.closure S) all B.width m ≡ denied_below B S all B.width m
        go m (inl l) = ap (λ (b : Bool). ltb m B.width && (all m && b)) (same_denial m l)
        go m (inr h) =
            let e = le-ltb m B.width h in
            and_left (ltb m B.width) (all m && B.clash (with_mark (B.closure S) m)) e ∙ sym (and_left (ltb m B.width) (all m && B.clash (with_mark S m)) e)
