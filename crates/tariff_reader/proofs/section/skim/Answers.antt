use Rattle.std.proofs.Common.{◌≡◌, ℕ, zero, suc, ◌+◌, List, ◌∷◌, length, IfOk, Ok, Err, Result, refl, ap, ◌∙◌, subst, arith}
use Rattle.tariff.specs.Readings.{text, and_then, mapped, many}
use Rattle.tariff.proofs.Runs.{many_more, many_all}
use Rattle.tariff_reader.specs.Answers.{Reads}
use Rattle.tariff_reader.proofs.section.skim.Goals as goal

module _ {A E : Type 0} where
  ends : (r : Result (A × ℕ) E) (q : ℕ) → mapped (λ _. tt {0}) r ≡ Ok (tt, q) → (x : A) × (r ≡ Ok (x, q))
  ends (Ok x) q h = let e : ◌≡◌ {A = Unit {0} × ℕ} (tt, x.1) (tt, q) = cc in (x.0, ap (λ (z : Unit {0} × ℕ). Ok (x.0, z.1)) e)
  ends (Err f) q h = absurd (cc)

-- as many are read as were asked for
abbrev Counted : {A E : Type 0} → ℕ → Result (List A × ℕ) E → Type 0
Counted n r = IfOk r (λ x. length x.0 ≡ n)

length_many : {A E S : Type 0} (read : S → ℕ → Result (A × ℕ) E) (next : A → S → S) (n : ℕ) (s : S) (p : ℕ) → Counted n (many read next n s p)
length_many read next zero s p = refl
length_many {A} {E} read next (suc n) s p = first (read s p) (λ x q. length_many read next n (next x s) q)
  where
    more : (x : A) (r : Result (List A × ℕ) E) → Counted n r → Counted (suc n) (mapped (λ xs. x ∷ xs) r)
    more x (Ok y) h = ap suc h
    more x (Err e) h = tt

    first : (r : Result (A × ℕ) E) → ((x : A) (q : ℕ) → Counted n (many read next n (next x s) q)) → Counted (suc n) (and_then r (λ x q. mapped (λ xs. x ∷ xs) (many read next n (next x s) q)))
    first (Ok x) h = more x.0 (many read next n (next x.0 s) x.1) (h x.0 x.1)
    first (Err e) h = tt

reads : {L E : Type 0} (read_line : ℕ → ℕ → Result (L × ℕ) E) (n i p q : ℕ) → mapped (λ _. tt {0}) (many read_line (λ _ j. j + 1) n i p) ≡ Ok (tt, q) → Reads (many read_line (λ _ j. j + 1) n i p) n q
reads read_line n i p q h =
    let e = ends (many read_line (λ _ j. j + 1) n i p) q h in
    record { lines = e.0; count = subst (Counted n) e.1 (length_many read_line (λ _ j. j + 1) n i p); value = e.1 }

pub loop-index-preserved : goal.loop-index-preserved
loop-index-preserved g c =
    let read_line = g.L.Line.reading c.args.width in
    let here = c.in_ok-read.ensures in
    let inv = c.loop-index.invariant in
    let found = here.value ∙ ap (λ t. read_line t c.loop-index.index c.loop-index.reader.place) inv.0 in
    (here.same ∙ inv.0, inv.1 ∙ many_more (λ _. tt {0}) (read_line (text c.args.reader.now)) (λ _ i. i + 1) c.args.count c.loop-index.index c.loop-index.index c.loop-index.reader.place c.in_ok-read.field-0 c.read.new.reader.place (omega arith) found)

pub returns-clause-value : goal.returns-clause-value
returns-clause-value g c =
    let inv = c.loop-index.invariant in
    let end = many_all (λ _. tt {0}) (g.L.Line.reading c.args.width (text c.args.reader.now)) (λ _ i. i + 1) c.args.count c.loop-index.index c.loop-index.index c.loop-index.reader.place (omega arith) in
    reads _ _ _ _ _ (inv.1 ∙ end)
