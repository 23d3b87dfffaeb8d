-- A pass in memory, line by line.
use Rattle.std.proofs.Common.{◌≡◌, ℕ, Bool, true, false, not, ◌&&◌, ◌||◌, List, [], ◌∷◌, is_some, Some, None, Option, cond, ltb, sym, refl, ap, ◌∙◌, subst, ap₂, inl, inr}
use mathlib.Core.Bool.{or_assoc, or-false}
use Rattle.std.specs.List.{slice_get, cons_option}
use Rattle.std.proofs.lemmas.Bool.{cond-true}
use Rattle.marks.specs.MarkSets.{marks_of}
use Rattle.marks.specs.Sets.{Marks, ◌∈◌, ◌⊆◌, ◌∪◌, ◌∖◌, with_mark}
use Rattle.marks.proofs.Sets.{same_sets, equal_within}
use Rattle.readings.proofs.Sets.{or_left, or_right, or_cases, less_in, less_left, less_out, decide, with_cases, with_old, with_new}
use Rattle.lines.specs.declared.growth.Growth.{Growth}
use Rattle.lines.specs.Agendas.{named}
use Rattle.lines.specs.Growths.{Added}
use Rattle.lines.specs.Passes.{View, fires, with_head, brought, swept, stood, Passes}
use Rattle.lines.proofs.Turns.{brought_grows}

-- sets that grew in two steps: what is new in both
new_twice : (F X Y Z : Marks) → X ⊆ Y → Y ⊆ Z → (F ∪ (Y ∖ X)) ∪ (Z ∖ Y) ≡ F ∪ (Z ∖ X)
new_twice F X Y Z xy yz = same_sets there back
  where
    later : (m : ℕ) → m ∈ (Y ∖ X) → m ∈ (Z ∖ X)
    later m t = less_in Z X m (yz m (less_left Y X m t)) (less_out Y X m t)

    there : ((F ∪ (Y ∖ X)) ∪ (Z ∖ Y)) ⊆ F ∪ (Z ∖ X)
    there m t =
        elim (or_cases ((F ∪ (Y ∖ X)) m) ((Z ∖ Y) m) t) [
          | inl a ↦
              elim (or_cases (F m) ((Y ∖ X) m) a) [
                | inl f ↦ or_left (F m) ((Z ∖ X) m) f
                | inr y ↦ or_right (F m) ((Z ∖ X) m) (later m y)
              ]
          | inr z ↦ or_right (F m) ((Z ∖ X) m) (less_in Z X m (less_left Z Y m z) (λ x. less_out Z Y m z (xy m x)))
        ]

    back : F ∪ (Z ∖ X) ⊆ ((F ∪ (Y ∖ X)) ∪ (Z ∖ Y))
    back m t =
        elim (or_cases (F m) ((Z ∖ X) m) t) [
          | inl f ↦ or_left ((F ∪ (Y ∖ X)) m) ((Z ∖ Y) m) (or_left (F m) ((Y ∖ X) m) f)
          | inr z ↦
              elim (decide (Y m)) [
                | inl y ↦ or_left ((F ∪ (Y ∖ X)) m) ((Z ∖ Y) m) (or_right (F m) ((Y ∖ X) m) (less_in Y X m y (less_out Z X m z)))
                | inr n ↦ or_right ((F ∪ (Y ∖ X)) m) ((Z ∖ Y) m) (less_in Z Y m (less_left Z X m z) n)
              ]
        ]

new_none : (F X : Marks) → F ≡ F ∪ (X ∖ X)
new_none F X =
    same_sets (λ m t. or_left (F m) ((X ∖ X) m) t)
    (λ m t. elim (or_cases (F m) ((X ∖ X) m) t) [ inl f ↦ f | inr x ↦ absurd (less_out X X m x (less_left X X m x)) ])

-- a head that was not there is what is new
new_head : (F S : Marks) (m : ℕ) (b : Bool) → (m ∈ S → ⊥) → cond b (with_mark F m) F ≡ F ∪ (cond b (with_mark S m) S ∖ S)
new_head F S m false n = new_none F S
new_head F S m true n =
    let S' = with_mark S m in
    same_sets
    (λ k t.
    elim (with_cases F m k t) [
      | inl e ↦ or_right (F k) ((S' ∖ S) k) (less_in S' S k (subst (λ (j : ℕ). j ∈ S') (sym e) (with_new S m)) (λ s. n (subst (λ (j : ℕ). j ∈ S) e s)))
      | inr f ↦ or_left (F k) ((S' ∖ S) k) f
    ])
    (λ k t.
    elim (or_cases (F k) ((S' ∖ S) k) t) [
      | inl f ↦ with_old F m k f
      | inr x ↦
          elim (with_cases S m k (less_left S' S k x)) [
            | inl e ↦ subst (λ (j : ℕ). j ∈ with_mark F m) (sym e) (with_new F m)
            | inr s ↦ absurd (less_out S' S k x s)
          ]
    ])

-- a turn that brings in a new head
pub passes_added : (v : View) (before after : Growth) (m : ℕ) → v.head ≡ Some m → (m ∈ marks_of before.set → ⊥) → fires v (marks_of before.set) ≡ true
    → Added m before after → Passes (v ∷ []) before after
passes_added v before after m head new fire add =
    let S = marks_of before.set in
    let w = before.set.width in
    let is : brought w v S ≡ with_head w (Some m) S = cond-true (fires v S) (with_head w v.head S) S fire ∙ ap (λ (o : Option ℕ). with_head w o S) head in
    record {
      set = record { width = add.set.width; marks = add.set.marks ∙ sym is };
      fresh =
          add.fresh ∙ new_head (marks_of before.fresh) S m (ltb m w) new
          ∙ ap (λ (X : Marks). marks_of before.fresh ∪ (X ∖ S)) (sym add.set.marks);
      told =
          add.stood ∙ sym (or-false before.stood)
          ∙ ap (λ (o : Option ℕ). before.stood || ((not (is_some o) && fires v S) || false)) (sym head);
    }

-- a pass that has come to the lines `rest` of `all`, from the growth `start` to the growth `here`
pub record Going (all rest : List View) (start here : Growth) : Type 0 where
  pub width : here.set.width ≡ start.set.width
  pub set : swept start.set.width rest (marks_of here.set) ≡ swept start.set.width all (marks_of start.set)
  pub stands : (here.stood || stood start.set.width rest (marks_of here.set)) ≡ (start.stood || stood start.set.width all (marks_of start.set))
  pub grown : marks_of start.set ⊆ marks_of here.set
  pub fresh : marks_of here.fresh ≡ marks_of start.fresh ∪ (marks_of here.set ∖ marks_of start.set)

pub going_start : (vs : List View) (s : Growth) → Going vs vs s s
going_start vs s = record { width = refl; set = refl; stands = refl; grown = λ m t. t; fresh = new_none (marks_of s.fresh) (marks_of s.set) }

pub going_more : {all rest : List View} {v : View} {start here next : Growth} → Going all (v ∷ rest) start here → Passes (v ∷ []) here next → Going all rest start next
going_more {all} {rest} {v} {start} {here} {next} going one =
    let w = start.set.width in
    let S = marks_of here.set in
    let x = not (is_some v.head) && fires v S in
    let is : marks_of next.set ≡ brought w v S = one.set.marks ∙ ap (λ (n : ℕ). brought n v S) going.width in
    let grows : S ⊆ marks_of next.set = λ m t. equal_within (sym is) m (brought_grows w v S m t) in
    record {
      width = one.set.width ∙ going.width;
      set = ap (swept w rest) is ∙ going.set;
      stands =
          ap₂ (λ (y : Bool) (X : Marks). y || stood w rest X) (one.told ∙ ap (λ (y : Bool). here.stood || y) (or-false x)) is
          ∙ or_assoc here.stood x (stood w rest (brought w v S)) ∙ going.stands;
      grown = λ m t. grows m (going.grown m t);
      fresh =
          one.fresh ∙ ap (λ (F : Marks). F ∪ (marks_of next.set ∖ S)) going.fresh
          ∙ new_twice (marks_of start.fresh) (marks_of start.set) S (marks_of next.set) going.grown grows;
    }

pub going_end : {all : List View} {start here : Growth} → Going all [] start here → Passes all start here
going_end {here = here} going =
    record {
      set = record { width = going.width; marks = going.set };
      fresh = going.fresh;
      told = sym (or-false here.stood) ∙ going.stands;
    }

-- the next number names a line, or none
pub going_named : (vs : List View) {all : List View} {start here next : Growth} (is is' : List ℕ) (i : ℕ) (v : View) → is ≡ i ∷ is' → slice_get vs i ≡ Some v
    → Going all (named vs is) start here → Passes (v ∷ []) here next → Going all (named vs is') start next
going_named vs {all} {start} {here} is is' i v lead line going one =
    let e : named vs is ≡ v ∷ named vs is' = ap (named vs) lead ∙ ap (λ (o : Option View). cons_option o (named vs is')) line in
    going_more (subst (λ (us : List View). Going all us start here) e going) one

pub going_past : (vs : List View) {all : List View} {start here : Growth} (is is' : List ℕ) (i : ℕ) → is ≡ i ∷ is' → slice_get vs i ≡ None
    → Going all (named vs is) start here → Going all (named vs is') start here
going_past vs {all} {start} {here} is is' i lead line going =
    let e : named vs is ≡ named vs is' = ap (named vs) lead ∙ ap (λ (o : Option View). cons_option o (named vs is')) line in
    subst (λ (us : List View). Going all us start here) e going

pub going_last : (vs : List View) {all : List View} {start here : Growth} (is : List ℕ) → is ≡ [] → Going all (named vs is) start here → Passes all start here
going_last vs {all} {start} {here} is lead going =
    going_end (subst (λ (us : List View). Going all us start here) (ap (named vs) lead) going)
