-- A record with its unused places 0 is lawful, has the same bytes, and is the same in all used places.
use Rattle.std.proofs.Common.{◌≡◌, ℕ, ◌-◌, ◌<◌, List, [], ◌∷◌, ◌++◌, map, length, replicate, IfSome, sym, refl, ap, ◌∙◌, subst, ap₂, arith, length-append}
use Rattle.std.specs.List.{flat_map, AllZip, AllByRecursion}
use Rattle.std.proofs.lemmas.List.{length-take-le, length-map, length-replicate}
use Rattle.lines.specs.declared.fare.FareLine.{FareLine}
use Rattle.lines.specs.declared.list.MarkList.{MarkList}
use Rattle.lines.specs.declared.term.Kind.{Kind}
use Rattle.lines.specs.declared.term.Kind.TheVariants.{Gives, Denies}
use Rattle.lines.specs.declared.term.TermLine.{TermLine}
use Rattle.lines.specs.Equal.{SameList, SameFare, SameTerm}
use Rattle.lines.specs.Lawful.{Ascends, AllBelow, LawfulList, LawfulFare, LawfulTerm}
use Rattle.lines.specs.Records.{used, the_kind, term_head}
use Rattle.tariff.specs.Numbers.{encode}
use Rattle.tariff_format.specs.Encoding.{Tariff, LawfulTariff, list_bytes, fare_bytes, head_bytes, term_bytes, file_bytes}
use Rattle.tariff_format.specs.Laws.{Proper}
use Rattle.tariff_format.specs.Lines.{held}
use Rattle.tariff_format.specs.Tariffs.{tariff_of, WholeList, WholeFare, WholeTerm, WholeTariff, SameTariff}
use Rattle.tariff_format.specs.Tidy.{tidy_list, tidy_fare, tidy_head, tidy_term, tidy_tariff}
use Rattle.tariff_format.proofs.ExactLists.{used_held}

-- what tidying does to a lawful, whole record
pub record Tidied {R : Type 0} (L W : R → Type 0) (tidy : R → R) (enc : R → List ℕ) (x : R) : Type 0 where
  pub lawful : L (tidy x)
  pub whole : W (tidy x)
  pub zeros : tidy (tidy x) ≡ tidy x
  pub bytes : enc (tidy x) ≡ enc x

module _ (w : ℕ) where
  -- as many places are used as the count says
  used_all : (l : MarkList) → LawfulList w l → WholeList l → length (used l) ≡ l.count
  used_all l h whole = let few = h.count in length-take-le l.count l.marks (omega (arith, whole))

  tidied_list : (l : MarkList) → LawfulList w l → WholeList l → Tidied (LawfulList w) WholeList tidy_list list_bytes l
  tidied_list l h whole =
      let same = used_held (used l) in
      let count = used_all l h whole in
      record {
        lawful = record { count = let few = h.count in omega (arith, count); ascends = subst Ascends (sym same) h.ascends; below = subst (AllBelow w) (sym same) h.below };
        whole = let few = h.count in omega (arith, count, length-append (used l) (replicate (8 - length (used l)) 0), length-replicate {A = ℕ} (8 - length (used l)) 0);
        zeros = ap held same;
        bytes = ap₂ (λ (n : ℕ) (ms : List ℕ). encode n ++ flat_map encode ms) count same;
      }

  -- lists that tidy to one are the same
  told_list : (a b : MarkList) → LawfulList w a → WholeList a → LawfulList w b → WholeList b → tidy_list a ≡ tidy_list b → SameList a b
  told_list a b ha wa hb wb e =
      let marks : used a ≡ used b = sym (used_held (used a)) ∙ ap used e ∙ used_held (used b) in
      record { count = sym (used_all a ha wa) ∙ ap length marks ∙ used_all b hb wb; marks = marks }

  tidied_fare : (l : FareLine) → LawfulFare w l → WholeFare l → Tidied (LawfulFare w) WholeFare tidy_fare fare_bytes l
  tidied_fare l h whole =
      let cs = tidied_list l.conditions h.conditions whole.conditions in
      let us = tidied_list l.unless h.unless whole.unless in
      record {
        lawful = record { head = h.head; conditions = cs.lawful; unless = us.lawful };
        whole = record { conditions = cs.whole; unless = us.whole };
        zeros = (λ i. record { head = l.head; conditions = cs.zeros i; unless = us.zeros i });
        bytes = (λ i. encode l.head ++ (cs.bytes i ++ us.bytes i));
      }

  told_fare : (a b : FareLine) → LawfulFare w a → WholeFare a → LawfulFare w b → WholeFare b → tidy_fare a ≡ tidy_fare b → SameFare a b
  told_fare a b ha wa hb wb e = record {
    head = ap (λ (l : FareLine). l.head) e;
    conditions = told_list a.conditions b.conditions ha.conditions wa.conditions hb.conditions wb.conditions (ap (λ (l : FareLine). l.conditions) e);
    unless = told_list a.unless b.unless ha.unless wa.unless hb.unless wb.unless (ap (λ (l : FareLine). l.unless) e);
  }

  -- the head of a line of a kind
  head_low : (k : Kind) (m : ℕ) → IfSome ((the_kind k).head m) (λ n. n < w) → IfSome ((the_kind k).head (tidy_head k m)) (λ n. n < w)
  head_low Gives m h = h
  head_low Denies m h = tt

  head_again : (k : Kind) (m : ℕ) → tidy_head k (tidy_head k m) ≡ tidy_head k m
  head_again Gives m = refl
  head_again Denies m = refl

  head_same : (k : Kind) (m : ℕ) → head_bytes k (tidy_head k m) ≡ head_bytes k m
  head_same Gives m = refl
  head_same Denies m = refl

  head_kept : (k : Kind) (m : ℕ) → (the_kind k).head (tidy_head k m) ≡ (the_kind k).head m
  head_kept Gives m = refl
  head_kept Denies m = refl

  tidied_term : (l : TermLine) → LawfulTerm w l → WholeTerm l → Tidied (LawfulTerm w) WholeTerm tidy_term term_bytes l
  tidied_term l h whole =
      let cs = tidied_list l.conditions h.conditions whole in
      record {
        lawful = record { head = head_low l.kind l.head h.head; conditions = cs.lawful };
        whole = cs.whole;
        zeros = (λ i. record { kind = l.kind; head = head_again l.kind l.head i; conditions = cs.zeros i });
        bytes = (λ i. encode (the_kind l.kind).number ++ (head_same l.kind l.head i ++ cs.bytes i));
      }

  told_term : (a b : TermLine) → LawfulTerm w a → WholeTerm a → LawfulTerm w b → WholeTerm b → tidy_term a ≡ tidy_term b → SameTerm a b
  told_term a b ha wa hb wb e = record {
    kind = ap (λ (l : TermLine). l.kind) e;
    head = sym (head_kept a.kind a.head) ∙ ap term_head e ∙ head_kept b.kind b.head;
    conditions = told_list a.conditions b.conditions ha.conditions wa hb.conditions wb (ap (λ (l : TermLine). l.conditions) e);
  }

-- the same of lists of records
module _ {R : Type 0} (L W : R → Type 0) (tidy : R → R) (enc : R → List ℕ) where
  abbrev AllTidied : List R → Type 0
  AllTidied xs = (AllByRecursion L (map tidy xs) × AllByRecursion W (map tidy xs)) × (map tidy (map tidy xs) ≡ map tidy xs) × (flat_map enc (map tidy xs) ≡ flat_map enc xs)

  all_tidied : ((x : R) → L x → W x → Tidied L W tidy enc x) → (xs : List R) → AllByRecursion L xs → AllByRecursion W xs → AllTidied xs
  all_tidied each [] lawful whole = ((tt, tt), refl, refl)
  all_tidied each (x ∷ xs) lawful whole =
      let one = each x lawful.0 whole.0 in
      let rest = all_tidied each xs lawful.1 whole.1 in
      (((one.lawful, rest.0.0), (one.whole, rest.0.1)), (λ i. one.zeros i ∷ rest.1 i), (λ i. one.bytes i ++ rest.2 i))

  all_told : (S : R → R → Type 0) → ((x y : R) → L x → W x → L y → W y → tidy x ≡ tidy y → S x y) → (xs ys : List R) → AllByRecursion L xs → AllByRecursion W xs → AllByRecursion L ys → AllByRecursion W ys → map tidy xs ≡ map tidy ys → AllZip S xs ys
  all_told S each [] [] lx wx ly wy e = tt
  all_told S each [] (y ∷ ys) lx wx ly wy e = absurd (cc)
  all_told S each (x ∷ xs) [] lx wx ly wy e = absurd (cc)
  all_told S each (x ∷ xs) (y ∷ ys) lx wx ly wy e =
      let here : tidy x ≡ tidy y = cc in
      let rest : map tidy xs ≡ map tidy ys = cc in
      (each x y lx.0 wx.0 ly.0 wy.0 here, all_told S each xs ys lx.1 wx.1 ly.1 wy.1 rest)

-- and of a tariff
pub tidied_tariff : (t : Tariff) → Proper t → Tidied LawfulTariff WholeTariff tidy_tariff file_bytes t
tidied_tariff t proper =
    let w : ℕ = t.width in
    let law = proper.lawful in
    let fares = all_tidied (LawfulFare w) WholeFare tidy_fare fare_bytes (tidied_fare w) t.fares law.fares.each proper.whole.fares in
    let terms = all_tidied (LawfulTerm w) WholeTerm tidy_term term_bytes (tidied_term w) t.terms law.terms.each proper.whole.terms in
    let many = length-map t.fares tidy_fare in
    let more = length-map t.terms tidy_term in
    record {
      lawful = record {
        some = law.some;
        few = law.few;
        fares = record { few = let l = law.fares.few in omega (arith, many); each = fares.0.0 };
        terms = record { few = let l = law.terms.few in omega (arith, more); each = terms.0.0 };
      };
      whole = record { fares = fares.0.1; terms = terms.0.1 };
      zeros = (λ i. tariff_of w (fares.1 i) (terms.1 i));
      bytes = (λ i. encode w ++ (encode (many i) ++ (encode (more i) ++ (fares.2 i ++ terms.2 i))));
    }

-- tariffs that tidy to one are the same
pub told_tariff : (t u : Tariff) → Proper t → Proper u → tidy_tariff t ≡ tidy_tariff u → SameTariff t u
told_tariff t u ht hu e =
    let wide : u.width ≡ t.width = sym (ap (λ (d : Tariff). d.width) e) in
    let w : ℕ = t.width in
    record {
      width = sym wide;
      fares = all_told (LawfulFare w) WholeFare tidy_fare fare_bytes SameFare (told_fare w) t.fares u.fares ht.lawful.fares.each ht.whole.fares (subst (λ v. AllByRecursion (LawfulFare v) u.fares) wide hu.lawful.fares.each) hu.whole.fares (ap (λ (d : Tariff). d.fares) e);
      terms = all_told (LawfulTerm w) WholeTerm tidy_term term_bytes SameTerm (told_term w) t.terms u.terms ht.lawful.terms.each ht.whole.terms (subst (λ v. AllByRecursion (LawfulTerm v) u.terms) wide hu.lawful.terms.each) hu.whole.terms (ap (λ (d : Tariff). d.terms) e);
    }
