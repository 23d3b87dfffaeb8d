-- The file of a tariff is bytes, and reads back as that tariff.
use Rattle.std.proofs.Common.{◌≡◌, ℕ, ◌<◌, ◌≤◌, List, [], ◌∷◌, ◌++◌, length, take, IfSome, Ok, Result, sym, refl, ap, ◌∙◌, subst, arith}
use Rattle.std.specs.List.{flat_map, AllByRecursion}
use Rattle.std.proofs.ByRecursion.{All-append}
use Rattle.std.proofs.lemmas.List.{length-map}
use Rattle.lines.specs.declared.fare.FareLine.{FareLine}
use Rattle.lines.specs.declared.list.MarkList.{MarkList}
use Rattle.lines.specs.declared.term.Kind.{Kind}
use Rattle.lines.specs.declared.term.Kind.TheVariants.{Gives, Denies}
use Rattle.lines.specs.declared.term.TermLine.{TermLine}
use Rattle.lines.specs.Lawful.{LawfulList, LawfulFare, LawfulTerm}
use Rattle.lines.specs.Records.{used, the_kind}
use Rattle.tariff.specs.Numbers.{Bytes, encode}
use Rattle.tariff.specs.Writings.{Written}
use Rattle.tariff.proofs.Overlays.{written_first}
use Rattle.tariff.proofs.Spelling.{by_form}
use Rattle.tariff_format.specs.declared.fault.FileFault.{FileFault}
use Rattle.tariff_format.specs.Answers.{Taken, FileAnswer}
use Rattle.tariff_format.specs.Encoding.{Tariff, LawfulTariff, list_bytes, fare_bytes, head_bytes, term_bytes, file_bytes}
use Rattle.tariff_format.specs.Files.{file_at}
use Rattle.tariff_format.specs.Laws.{Proper}
use Rattle.tariff_format.specs.Tariffs.{SameTariff}
use Rattle.tariff_format.specs.Tidy.{tidy_fare, tidy_term, tidy_tariff}
use Rattle.tariff_format.proofs.Answering.{right_file, only_file}
use Rattle.tariff_format.proofs.Tidying.{tidied_tariff, told_tariff}

encode_bytes : (n : ℕ) → n ≤ 65535 → Bytes (encode n)
encode_bytes n small = by_form Bytes n (λ h. (omega arith, tt)) (λ h k. (omega arith, (omega arith, tt))) (λ h. (omega arith, (omega arith, (omega arith, tt))))

joined_bytes : {X : Type 0} (enc : X → List ℕ) (P : X → Type 0) → ((x : X) → P x → Bytes (enc x)) → (xs : List X) → AllByRecursion P xs → Bytes (flat_map enc xs)
joined_bytes enc P each [] h = tt
joined_bytes enc P each (x ∷ xs) h = All-append (λ b. b < 256) (enc x) (flat_map enc xs) (each x h.0) (joined_bytes enc P each xs h.1)

both_bytes : (xs ys : List ℕ) → Bytes xs → Bytes ys → Bytes (xs ++ ys)
both_bytes = All-append (λ b. b < 256)

module _ (w : ℕ) (small : w ≤ 512) where
  mark_bytes : (m : ℕ) → m < w → Bytes (encode m)
  mark_bytes m low = encode_bytes m (omega arith)

  list_are : (l : MarkList) → LawfulList w l → Bytes (list_bytes l)
  list_are l h = let few = h.count in both_bytes (encode l.count) (flat_map encode (used l)) (encode_bytes l.count (omega arith)) (joined_bytes encode (λ m. m < w) mark_bytes (used l) h.below)

  fare_are : (l : FareLine) → LawfulFare w l → Bytes (fare_bytes l)
  fare_are l h =
      both_bytes (encode l.head) (list_bytes l.conditions ++ list_bytes l.unless) (mark_bytes l.head h.head)
      (both_bytes (list_bytes l.conditions) (list_bytes l.unless) (list_are l.conditions h.conditions) (list_are l.unless h.unless))

  kind_are : (k : Kind) → Bytes (encode (the_kind k).number)
  kind_are Gives = encode_bytes 1 (omega arith)
  kind_are Denies = encode_bytes 2 (omega arith)

  head_are : (k : Kind) (m : ℕ) → IfSome ((the_kind k).head m) (λ n. n < w) → Bytes (head_bytes k m)
  head_are Gives m h = mark_bytes m h
  head_are Denies m h = tt

  term_are : (l : TermLine) → LawfulTerm w l → Bytes (term_bytes l)
  term_are l h =
      both_bytes (encode (the_kind l.kind).number) (head_bytes l.kind l.head ++ list_bytes l.conditions) (kind_are l.kind)
      (both_bytes (head_bytes l.kind l.head) (list_bytes l.conditions) (head_are l.kind l.head h.head) (list_are l.conditions h.conditions))

file_are : (t : Tariff) → LawfulTariff t → Bytes (file_bytes t)
file_are t h =
    let wide = h.few in let many = h.fares.few in let more = h.terms.few in
    let fares = joined_bytes fare_bytes (LawfulFare t.width) (fare_are t.width wide) t.fares h.fares.each in
    let terms = joined_bytes term_bytes (LawfulTerm t.width) (term_are t.width wide) t.terms h.terms.each in
    both_bytes (encode t.width) _ (encode_bytes t.width (omega arith))
    (both_bytes (encode (length t.fares)) _ (encode_bytes (length t.fares) (omega arith))
    (both_bytes (encode (length t.terms)) _ (encode_bytes (length t.terms) (omega arith))
    (both_bytes (flat_map fare_bytes t.fares) (flat_map term_bytes t.terms) fares terms)))

-- the file of a proper tariff is taken
pub file_taken : (m n : ℕ) (t : Tariff) → Proper t → length t.fares ≤ m → length t.terms ≤ n → file_at m n (file_bytes t) ≡ Ok (tidy_tariff t, length (file_bytes t))
file_taken m n t proper enough room =
    let tidied = tidied_tariff t proper in
    let taken : Taken m n (tidy_tariff t) = record {
      tidy = record { lawful = tidied.lawful; zeros = tidied.zeros };
      fares = omega (arith, length-map t.fares tidy_fare);
      terms = omega (arith, length-map t.terms tidy_term);
    } in
    only_file m n (file_bytes t) (file_are t proper.lawful) (Ok (tidy_tariff t, length (file_bytes t))) (record { taken = taken; bytes = sym tidied.bytes }, refl)

pub tidy_same : (t : Tariff) → Proper t → SameTariff t (tidy_tariff t)
tidy_same t proper = let tidied = tidied_tariff t proper in told_tariff t (tidy_tariff t) proper (record { lawful = tidied.lawful; whole = tidied.whole }) (sym tidied.zeros)

-- two proper tariffs with the same file
pub file_one : (t u : Tariff) → Proper t → Proper u → file_bytes t ≡ file_bytes u → SameTariff t u
file_one t u ht hu e =
    let one = file_taken 1024 512 t ht ht.lawful.fares.few ht.lawful.terms.few in
    let two = file_taken 1024 512 u hu hu.lawful.fares.few hu.lawful.terms.few in
    let both : ◌≡◌ {A = Result (Tariff × ℕ) FileFault} (Ok (tidy_tariff t, length (file_bytes t))) (Ok (tidy_tariff u, length (file_bytes u))) = sym one ∙ ap (file_at 1024 512) e ∙ two in
    let pair : ◌≡◌ {A = Tariff × ℕ} (tidy_tariff t, length (file_bytes t)) (tidy_tariff u, length (file_bytes u)) = cc in
    told_tariff t u ht hu (ap (λ (x : Tariff × ℕ). x.0) pair)

-- what was written is read
pub written_read : (m n : ℕ) (t : Tariff) (out after : List ℕ) (k : ℕ) → Proper t → length t.fares ≤ m → length t.terms ≤ n → Written out 0 (file_bytes t) after k → file_at m n (take k after) ≡ Ok (tidy_tariff t, k)
written_read m n t out after k proper enough room h =
    let first = written_first out (file_bytes t) after k h in
    let long : length (file_bytes t) ≡ k = omega (arith, h.place) in
    ap (file_at m n) first ∙ file_taken m n t proper enough room ∙ ap (λ q. Ok (tidy_tariff t, q)) long

-- what was read is written
pub read_written : (m n : ℕ) (bs : List ℕ) (t : Tariff) (q : ℕ) (out after : List ℕ) (k : ℕ) → Bytes bs → file_at m n bs ≡ Ok (t, q) → Written out 0 (file_bytes t) after k → take k after ≡ bs
read_written m n bs t q out after k bytes e h = written_first out (file_bytes t) after k h ∙ sym (subst (FileAnswer m n bs) e (right_file m n bs bytes)).0.bytes
