-- Each method stops, both at the same pair and after the same number of rounds; that pair is the least reading.
use mathlib.Core.List.{List}
use mathlib.Core.Path.{◌≡◌, subst, subst₂, sym, ap, ◌∙◌}
use Prim.Native.Nat.{ℕ, suc, ◌+◌, ◌<◌, ◌≤◌}
use native.Mathlib.Omega.{arith}
use Rattle.marks.specs.Sets.{Marks, outside, among}
use Rattle.readings.specs.Books.{Book}
use Rattle.readings.specs.Rules.{Rule, Fit}
use Rattle.readings.specs.Readings.{LeastReading}
use Rattle.readings.specs.Methods.{Run, FirstRound, first_method, second_method, Stops}
use Rattle.readings.specs.Says.{Rounds}
use Rattle.readings.specs.Computed.{settled_of}
use Rattle.readings.specs.ExactlyOne.{ExactlyOne}
use Rattle.readings.specs.declared.method.Method.{Method}
use Rattle.readings.specs.declared.method.Method.TheVariants.{First, Second}
use Rattle.readings.proofs.FirstRounds.{run_unique, rests_at_least, least_reading_unique}
use Rattle.readings.proofs.SecondRounds.{second_first, first_rests, second_rests}
use Rattle.readings.proofs.Computing.{settled_right}

-- the first method stops at one place alone
pub first_stops_once : {B : Book} {lines : List Rule} {facts : Marks} {n n' : ℕ} {T U T' U' : Marks}
    → Stops (first_method B lines facts) n T U → Stops (first_method B lines facts) n' T' U' → (n ≡ n') × (T ≡ T') × (U ≡ U')
first_stops_once {B} {lines} {facts} {T = T} {U} {T'} {U'} s s' =
    let less : s.before < s'.before → ⊥ = λ h. s'.first s.before T s.other h s.run s.last in
    let more : s'.before < s.before → ⊥ = λ h. s.first s'.before T' s'.other h s'.run s'.last in
    let e : s.before ≡ s'.before = omega arith in
    let q = run_unique (subst (λ (k : ℕ). Run (first_method B lines facts) k T s.other) e s.run) s'.run in
    (s.count ∙ ap suc e ∙ sym s'.count, q.0, s.upper ∙ q.1 ∙ sym s'.upper)

module _ {B : Book} {lines : List Rule} {facts : Marks} (fit : Fit B lines facts) where
  to_second : {n : ℕ} {T U : Marks} → Stops (first_method B lines facts) n T U → Stops (second_method B lines facts) n T U
  to_second s =
      let p = second_rests fit s.run s.last in
      record {
        before = s.before;
        count = s.count;
        other = p.0;
        upper = s.upper ∙ p.2;
        run = p.1;
        last = p.3;
        first = λ j T' F' h run r. s.first j T' (outside B.width F') h (second_first fit run) (first_rests fit run r);
      }

  to_first : {n : ℕ} {T U : Marks} → Stops (second_method B lines facts) n T U → Stops (first_method B lines facts) n T U
  to_first s =
      record {
        before = s.before;
        count = s.count;
        other = outside B.width s.other;
        upper = s.upper;
        run = second_first fit s.run;
        last = first_rests fit s.run s.last;
        first = λ j T' U' h run r. let p = second_rests fit run r in s.first j T' p.0 h p.1 p.3;
      }

  pub stop : (j k : Method) {n : ℕ} {T U : Marks} → Rounds B lines facts j n T U → Rounds B lines facts k n T U
  stop First First s = s
  stop First Second s = to_second s
  stop Second First s = to_first s
  stop Second Second s = s

  pub stops_once : (j k : Method) {n n' : ℕ} {T U T' U' : Marks} → Rounds B lines facts j n T U → Rounds B lines facts k n' T' U'
      → (n ≡ n') × (T ≡ T') × (U ≡ U')
  stops_once j k s s' = first_stops_once (stop j First s) (stop k First s')

  pub stops_bound : (k : Method) {n : ℕ} {T U : Marks} → Rounds B lines facts k n T U → n ≤ B.width + 2
  stops_bound k s =
      let c = settled_right fit in
      let e = stops_once k First s c.stops in
      subst (λ (n : ℕ). n ≤ B.width + 2) (sym e.0) c.bounded

  pub one_end : (k : Method) → ExactlyOne (λ (e : ℕ × Marks × Marks). Rounds B lines facts k e.0 e.1 e.2)
  one_end k =
      let s = (settled_right fit).stops in
      record {
        it = ((settled_of B lines facts).0, among (settled_of B lines facts).1, among (settled_of B lines facts).2);
        holds = stop First k s;
        only = λ e h. let q = stops_once k First h s in λ i. (q.0 i, q.1 i, q.2 i);
      }

  first_end : {n : ℕ} {T U : Marks} → Stops (first_method B lines facts) n T U → LeastReading B lines facts T U
  first_end {T = T} {U} s =
      let last : FirstRound B lines facts U T U = subst (λ (V : Marks). FirstRound B lines facts V T V) (sym s.upper) s.last in
      let run : Run (first_method B lines facts) s.before T U = subst (Run (first_method B lines facts) s.before T) (sym s.upper) s.run in
      rests_at_least fit run last

  pub ends_at_least : (k : Method) {n : ℕ} {T U : Marks} → Rounds B lines facts k n T U → LeastReading B lines facts T U
  ends_at_least k s = first_end (stop k First s)

  pub one_least_reading : ExactlyOne (λ (p : Marks × Marks). LeastReading B lines facts p.0 p.1)
  one_least_reading =
      let p = first_end (settled_right fit).stops in
      record {
        it = (among (settled_of B lines facts).1, among (settled_of B lines facts).2);
        holds = p;
        only = λ a h. let q = least_reading_unique h p in λ i. (q.0 i, q.1 i);
      }

  -- so every least reading is where a run of the first method has come
  pub least_run : {T U : Marks} → LeastReading B lines facts T U → (k : ℕ) × Run (first_method B lines facts) k T U
  least_run {T} {U} p =
      let s = (settled_right fit).stops in
      let q = least_reading_unique (first_end s) p in
      (s.before, subst₂ (Run (first_method B lines facts) s.before) q.0 (sym s.upper ∙ q.1) s.run)
