-- Lawful lines have lists for which an index has room.
use Rattle.std.proofs.Common.{◌≡◌, ℕ, ◌<◌, ◌≤◌, ◌*◌, List, [], ◌∷◌, length, map, ◌∙◌, arith}
use Rattle.std.specs.List.{AllByRecursion}
use Rattle.std.proofs.ByRecursion.{All-weaker}
use Rattle.std.proofs.Common.{length-take}
use Rattle.std.proofs.lemmas.List.{length-map}
use Rattle.lines.specs.declared.admission.Admission.{Admission}
use Rattle.lines.specs.declared.fare.FareLine.{FareLine}
use Rattle.lines.specs.declared.index.Index.{Index}
use Rattle.lines.specs.declared.list.MarkList.{MarkList}
use Rattle.lines.specs.declared.term.TermLine.{TermLine}
use Rattle.lines.specs.Indexes.{ShortList, IsIndexOf, Indexes}
use Rattle.lines.specs.Lawful.{LawfulList, LawfulFare, LawfulTerm, AllLawful}
use Rattle.lines.specs.Passes.{View, conditions_of}
use Rattle.lines.specs.Records.{used}
use Rattle.lines.specs.Views.{term_view, fare_view}

short_list : (w : ℕ) (l : MarkList) → w ≤ 512 → LawfulList w l → ShortList (used l)
short_list w l few law =
    record {
      few = let a = length-take l.count l.marks in let c = law.count in omega arith;
      below = All-weaker (λ (m : ℕ). m < w) (λ (m : ℕ). m < 512) (λ m h. omega arith) (used l) law.below;
    }

module _ {A : Type 0} (view : A → View) where
  short_views : (xs : List A) → AllByRecursion (λ x. ShortList (view x).conditions) xs → AllByRecursion ShortList (conditions_of (map view xs))
  short_views [] all = tt
  short_views (x ∷ xs) all = (all.0, short_views xs all.1)

  as_many : (xs : List A) → length (conditions_of (map view xs)) ≡ length xs
  as_many xs = length-map (map view xs) (λ (v : View). v.conditions) ∙ length-map xs view

  indexes : {M : ℕ} (index : Index M) (xs : List A) → 8 * length xs ≤ M → length xs ≤ 8191 → AllByRecursion (λ x. ShortList (view x).conditions) xs
      → IsIndexOf index (conditions_of (map view xs)) → Indexes index (conditions_of (map view xs))
  indexes index xs room few short is =
      let n = as_many xs in record { is = is; room = omega arith; few = omega arith; short = short_views xs short }

pub fares_indexed : (index : Index 8192) (gate : Admission) (w : ℕ) (lines : List FareLine) → w ≤ 512 → AllLawful (LawfulFare w) 1024 lines
    → IsIndexOf index (conditions_of (map (fare_view gate) lines)) → Indexes index (conditions_of (map (fare_view gate) lines))
fares_indexed index gate w lines narrow law is =
    let few = law.few in
    indexes (fare_view gate) index lines (omega arith) (omega arith)
    (All-weaker (LawfulFare w) (λ (l : FareLine). ShortList (used l.conditions)) (λ l lawful. short_list w l.conditions narrow lawful.conditions) lines law.each) is

pub terms_indexed : (index : Index 4096) (w : ℕ) (lines : List TermLine) → w ≤ 512 → AllLawful (LawfulTerm w) 512 lines
    → IsIndexOf index (conditions_of (map term_view lines)) → Indexes index (conditions_of (map term_view lines))
terms_indexed index w lines narrow law is =
    let few = law.few in
    indexes term_view index lines (omega arith) (omega arith)
    (All-weaker (LawfulTerm w) (λ (l : TermLine). ShortList (used l.conditions)) (λ l lawful. short_list w l.conditions narrow lawful.conditions) lines law.each) is
