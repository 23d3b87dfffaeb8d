-- How many bytes lawful lists, lines and files take at the most, and that a file takes as many.
use Rattle.std.proofs.Common.{◌≡◌, ℕ, zero, suc, ◌+◌, ◌*◌, ◌<◌, ◌≤◌, List, length, replicate, IfSome, refl, ap, ◌∙◌, arith, length-append}
use lib.ListN.{length-replicate}
use Rattle.std.specs.List.{flat_map, AllByRecursion}
use Rattle.std.proofs.ByRecursion.{All-weaker, sum_by_le}
use Rattle.std.proofs.lemmas.List.{length-take}
use Rattle.std.proofs.lemmas.List.Concat.{length-flat_map}
use Rattle.std.proofs.lemmas.List.Folds.{sum_by-replicate}
use Rattle.std.proofs.lemmas.Bool.Decides.{nat_tests}
use Rattle.lines.specs.declared.fare.FareLine.{FareLine}
use Rattle.lines.specs.declared.list.MarkList.{MarkList}
use Rattle.lines.specs.declared.term.Kind.{Kind}
use Rattle.lines.specs.declared.term.Kind.TheVariants.{Gives, Denies}
use Rattle.lines.specs.declared.term.TermLine.{TermLine}
use Rattle.lines.specs.Lawful.{LawfulList, LawfulFare, LawfulTerm}
use Rattle.lines.specs.Records.{used, the_kind}
use Rattle.tariff.specs.Numbers.{encode}
use Rattle.tariff_format.specs.Encoding.{Tariff, LawfulTariff, list_bytes, fare_bytes, head_bytes, term_bytes, file_bytes}
use Rattle.tariff_writer.specs.Theorems.{full_list, full_fare, full_term, largest}
use Rattle.tariff_format.specs.Laws.{Proper}
use Rattle.tariff_format.specs.Tariffs.{WholeFare, WholeTerm}
use Rattle.tariff_writer.proofs.Pieces.{length_fare, length_term, length_file}

short_number : (n : ℕ) → n < 128 → length (encode n) ≡ 1
short_number n small = grind (arith, nat_tests)

small_number : (n : ℕ) → n < 16384 → length (encode n) ≤ 2
small_number n small = grind (arith, nat_tests)

-- things of which each takes at most m bytes
module _ {A : Type 0} (f : A → List ℕ) (P : A → Type 0) (m : ℕ) (each : (x : A) → P x → length (f x) ≤ m) where
  joined_most : (xs : List A) → AllByRecursion P xs → length (flat_map f xs) ≤ length xs * m
  joined_most xs all = omega (arith, length-flat_map f xs, sum_by_le (λ x. length (f x)) m xs (All-weaker P (λ x. length (f x) ≤ m) each xs all))

-- for a width w up to 512
module _ (w : ℕ) (few : w ≤ 512) where
  list_most : (l : MarkList) → LawfulList w l → length (list_bytes l) ≤ 17
  list_most l h =
      let count = short_number l.count (omega (arith, h.count)) in
      let marks = joined_most encode (λ m. m < w) 2 (λ n b. small_number n (omega arith)) (used l) h.below in
      omega (arith, h.count, length-append (encode l.count) (flat_map encode (used l)), length-take l.count l.marks)

  fare_most : (l : FareLine) → LawfulFare w l → length (fare_bytes l) ≤ 36
  fare_most l h =
      let head = small_number l.head (omega (arith, h.head)) in
      let conditions = list_most l.conditions h.conditions in
      let unless = list_most l.unless h.unless in
      omega (arith, length_fare l)

  head_most : (k : Kind) (m : ℕ) → IfSome ((the_kind k).head m) (λ n. n < w) → length (encode (the_kind k).number) + length (head_bytes k m) ≤ 3
  head_most Gives m h = let head = small_number m (omega arith) in omega arith
  head_most Denies m h = omega arith

  term_most : (l : TermLine) → LawfulTerm w l → length (term_bytes l) ≤ 20
  term_most l h =
      let head = head_most l.kind l.head h.head in
      let conditions = list_most l.conditions h.conditions in
      omega (arith, length_term l)

pub file_most : (t : Tariff) → LawfulTariff t → length (file_bytes t) ≤ 47110
file_most t h =
    let width = small_number t.width (omega (arith, h.few)) in
    let fare_count = small_number (length t.fares) (omega (arith, h.fares.few)) in
    let term_count = small_number (length t.terms) (omega (arith, h.terms.few)) in
    let fares = joined_most fare_bytes _ 36 (fare_most t.width h.few) t.fares h.fares.each in
    let terms = joined_most term_bytes _ 20 (term_most t.width h.few) t.terms h.terms.each in
    omega (arith, h.fares.few, h.terms.few, length_file t.width t.fares t.terms)

-- the same thing many times
all_replicate : {A : Type 0} (P : A → Type 0) (n : ℕ) (x : A) → P x → AllByRecursion P (replicate n x)
all_replicate P zero x h = tt
all_replicate P (suc n) x h = (h, all_replicate P n x h)

joined_replicate : {A : Type 0} (f : A → List ℕ) (n : ℕ) (x : A) → length (flat_map f (replicate n x)) ≡ n * length (f x)
joined_replicate f n x = length-flat_map f (replicate n x) ∙ sum_by-replicate (λ y. length (f y)) n x

full_list_lawful : LawfulList 512 full_list
full_list_lawful = record { count = omega arith; ascends = search arith; below = search arith }

pub largest_proper : Proper largest
largest_proper = record {
  lawful = record {
    some = omega arith;
    few = omega arith;
    fares = record { few = omega (arith, length-replicate 1024 full_fare); each = all_replicate (LawfulFare 512) 1024 full_fare (record { head = omega arith; conditions = full_list_lawful; unless = full_list_lawful }) };
    terms = record { few = omega (arith, length-replicate 512 full_term); each = all_replicate (LawfulTerm 512) 512 full_term (record { head = omega arith; conditions = full_list_lawful }) };
  };
  whole = record { fares = all_replicate WholeFare 1024 full_fare (record { conditions = refl; unless = refl }); terms = all_replicate WholeTerm 512 full_term refl };
}

pub largest_reached : length (file_bytes largest) ≡ 47110
largest_reached =
    let fares = ap (λ n. length (encode n)) (length-replicate 1024 full_fare) in
    let terms = ap (λ n. length (encode n)) (length-replicate 512 full_term) in
    length_file 512 (replicate 1024 full_fare) (replicate 512 full_term) ∙ omega (arith, fares, terms, joined_replicate fare_bytes 1024 full_fare, joined_replicate term_bytes 512 full_term)
