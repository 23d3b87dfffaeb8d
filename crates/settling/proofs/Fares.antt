-- Rules as a pass sees them: it brings in the heads of the admitted ones.
use Rattle.std.proofs.Common.{◌≡◌, ℕ, T, List, [], ◌∷◌, map, Some, sym, refl, ap, ◌∙◌, subst, inl, inr, ltb→lt, arith}
use mathlib.Core.List.Memᴰ
use mathlib.Core.List.{Memᴰ}
use Rattle.std.specs.List.{AllByRecursion}
use Rattle.marks.specs.declared.set.MarkSet.{MarkSet}
use Rattle.marks.specs.MarkSets.{marks_of}
use Rattle.marks.specs.Sets.{Marks, ◌∈◌, OfWidth}
use Rattle.marks.proofs.Sets.{holds, is_true}
use Rattle.readings.specs.Books.{Book, Lawful}
use Rattle.readings.specs.Rules.{Rule, RuleWithin, AllIn, Fit}
use Rattle.readings.specs.Yields.{HasHeads}
use Rattle.lines.specs.Passes.{View}
use Rattle.lines.specs.Theorems.{HasTheirHeads}
use Rattle.lines.specs.Views.{admits, rule_view}
use Rattle.lines.proofs.Admitting.{admission_stands}
use Rattle.lines.proofs.Meaning.{lawful_lines_fit}
use Rattle.lines.specs.declared.admission.Admission.{Admission}
use Rattle.lines.specs.declared.fare.FareLine.{FareLine}
use Rattle.lines.specs.declared.index.Index.{Index}
use Rattle.lines.specs.Indexes.{IsIndexOf, Indexes}
use Rattle.lines.specs.Passes.{conditions_of}
use Rattle.lines.specs.Views.{fare_view}
use Rattle.lines.proofs.Short.{fares_indexed}
use Rattle.settling.specs.Calls.{GoesWith}
use Rattle.settling.specs.Growth.{rules_of, LineLetIn}

-- what holds of every element holds of each that is there
pub all_in_list : {A : Type 0} (P : A → Type 0) (xs : List A) → AllByRecursion P xs → (x : A) → Memᴰ x xs → P x
all_in_list P [] all x i = absurd (Memᴰ.not-nil i)
all_in_list P (y ∷ ys) all x i =
    elim (Memᴰ.cases_cons i) [ inl e ↦ subst P (sym e) all.0 | inr j ↦ all_in_list P ys all.1 x j ]

module _ (rs : List Rule) (E D R Z : Marks) where
  -- a set that has the heads of the rules has what a pass over them brings in
  pub heads_seen : (w : ℕ) → HasHeads (LineLetIn rs E D R) Z → HasTheirHeads w (map (rule_view E D R) rs) Z
  heads_seen w has v m f is l =
      let from = Memᴰ.of_map (rule_view E D R) rs f.line in
      let is_view = sym from.2 in
      let r = from.0 in
      let t : T (admits E D R r) = subst (λ (x : View). T x.admitted) is_view f.admitted in
      let conditions : AllIn r.conditions Z = subst (λ (x : View). AllIn x.conditions Z) is_view f.conditions in
      let e : ◌≡◌ {A = ℕ} r.head m = let h : Some r.head ≡ Some m = ap (λ (x : View). x.head) from.2 ∙ is in cc in
      subst (λ (k : ℕ). k ∈ Z) e
      (has r (record { line = from.1; admitted = (admission_stands E D R r).0 (is_true (admits E D R r) t) }) conditions)

  -- and the other way round, where the heads lie within the width
  pub heads_brought : (w : ℕ) → ((r : Rule) → Memᴰ r rs → RuleWithin w r) → HasTheirHeads w (map (rule_view E D R) rs) Z → HasHeads (LineLetIn rs E D R) Z
  heads_brought w within has r p conditions =
      has (rule_view E D R r) r.head
      (record { line = Memᴰ.map (rule_view E D R) p.line; admitted = holds ((admission_stands E D R r).1 p.admitted); conditions = conditions })
      refl (ltb→lt r.head w (within r p.line).head)

-- facts and fare lines that go with a lawful book fit it
pub fits : (B : Book) → Lawful B → (lines : List FareLine) (facts : MarkSet) → GoesWith B lines facts → Fit B (rules_of lines) (marks_of facts)
fits B law lines facts goes =
    record {
      lawful = law;
      within = lawful_lines_fit B.width lines goes.lawful.each;
      of_width = subst (λ (w : ℕ). OfWidth w (marks_of facts)) goes.width facts.inside;
    }

-- and their index has room for them
pub fares_found : {B : Book} {lines : List FareLine} {facts : MarkSet} (index : Index 8192) (gate : Admission) → GoesWith B lines facts
    → IsIndexOf index (conditions_of (map (fare_view gate) lines)) → Indexes index (conditions_of (map (fare_view gate) lines))
fares_found {B} {lines} {facts} index gate goes is =
    let few = facts.few in
    let e = goes.width in
    fares_indexed index gate B.width lines (omega arith) goes.lawful is
