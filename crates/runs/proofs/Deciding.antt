-- The rules leave no reply open: two right replies to one call after one history are the same.
use Rattle.std.proofs.Common.{◌≡◌, ℕ, cond, eqb, List, [], ◌∷◌, Ok, Err, Result, sym, refl, ap, ◌∙◌, subst, inl, inr, arith}
use Rattle.marks.specs.declared.refusal.Refusal.{Refusal}
use Rattle.marks.specs.declared.refusal.Refusal.TheVariants.{BytesEnd, Malformed, OutsideLimit, NotAscending, FewRecords, BytesRemain, Width, Record, MarkTooHigh, FactStands, NoSuchFact, NotSettled, OutputShort}
use Rattle.marks.specs.Refusals.{number, Refuses, Gives, Test}
use Rattle.marks.specs.Sets.{Marks}
use Rattle.readings.specs.Books.{Book}
use Rattle.readings.specs.Readings.{LeastReading}
use Rattle.readings.specs.Says.{the_answer, the_verdict, Rounds}
use Rattle.readings.specs.declared.method.Method.{Method}
use Rattle.readings.specs.declared.method.Method.TheVariants.{First}
use Rattle.readings.specs.declared.verdict.Verdict.{Verdict}
use Rattle.readings.proofs.FirstRounds.{least_reading_unique}
use Rattle.readings.proofs.Stopping.{first_stops_once}
use Rattle.readings.proofs.Verdicts.{answer_once, one_verdict}
use Rattle.lines.specs.declared.fare.FareLine.{FareLine}
use Rattle.settling.specs.Growth.{rules_of}
use Rattle.sheet.specs.Cases.{the_reply}
use Rattle.sheet.specs.declared.call.Call.{Call}
use Rattle.sheet.specs.declared.call.Call.TheVariants.{Enter, Strike, Settle, Ask}
use Rattle.sheet.specs.declared.reply.Reply.{Reply}
use Rattle.sheet.specs.declared.reply.Reply.TheVariants.{Done, Settled, Told}
use Rattle.sheet.specs.declared.reply.Settlement.{Settlement}
use Rattle.runs.specs.Histories.{History, Standing}
use Rattle.runs.specs.Runs.{SettleRight, AskRight, ReplyRight, more}
use Rattle.runs.specs.Theorems.{RunsDecide}
use Rattle.runs.proofs.Turning.{event, one_standing}

-- a refusal is known by its number
from : ℕ → List Refusal → Refusal
from n [] = OutputShort
from n (r ∷ rs) = cond (eqb n (number r)) r (from n rs)

all_refusals : List Refusal
all_refusals = BytesEnd ∷ Malformed ∷ OutsideLimit ∷ NotAscending ∷ FewRecords ∷ BytesRemain ∷ Width ∷ Record ∷ MarkTooHigh ∷ FactStands ∷ NoSuchFact ∷ NotSettled ∷ []

numbered : (r : Refusal) → from (number r) all_refusals ≡ r
unfolding from all_refusals
numbered BytesEnd = refl
numbered Malformed = refl
numbered OutsideLimit = refl
numbered NotAscending = refl
numbered FewRecords = refl
numbered BytesRemain = refl
numbered Width = refl
numbered Record = refl
numbered MarkTooHigh = refl
numbered FactStands = refl
numbered NoSuchFact = refl
numbered NotSettled = refl
numbered OutputShort = refl

one_refusal : (n : ℕ) (x x' : Result Reply Refusal) → Refuses x n → Refuses x' n → x ≡ x'
one_refusal n (Ok y) x' p q = absurd p
one_refusal n (Err r) (Ok y) p q = absurd q
one_refusal n (Err r) (Err r') p q = ap Err (sym (numbered r) ∙ ap (λ (k : ℕ). from k all_refusals) (p ∙ sym q) ∙ numbered r')

one_test : {F X X' R R' Z : Type 0} → (X → X' → Z) → (R → R' → Z) → Test F X R → Test F X' R' → Z
one_test f g (inl p) (inl q) = f p.1 q.1
one_test f g (inl p) (inr q) = absurd (q.0 p.0)
one_test f g (inr p) (inl q) = absurd (p.0 q.0)
one_test f g (inr p) (inr q) = g p.1 q.1

one_given : {P : Reply → Type 0} → ((y y' : Reply) → P y → P y' → y ≡ y') → (x x' : Result Reply Refusal) → Gives x P → Gives x' P → x ≡ x'
one_given f (Ok y) (Ok y') p q = ap Ok (f y y' p q)
one_given f (Ok y) (Err r) p q = absurd q
one_given f (Err r) x' p q = absurd p

one_done : (y y' : Reply) → (the_reply y).done → (the_reply y').done → y ≡ y'
one_done Done Done p q = refl
one_done Done (Settled s) p q = absurd q
one_done Done (Told a) p q = absurd q
one_done (Settled s) y' p q = absurd p
one_done (Told a) y' p q = absurd p

one_settlement : (s s' : Settlement) → s.verdict ≡ s'.verdict → s.rounds ≡ s'.rounds → s ≡ s'
one_settlement s s' e f =
    ap (λ (v : Verdict). record { verdict = v; rounds = s.rounds }) e ∙ ap (λ (n : ℕ). record { verdict = s'.verdict; rounds = n }) f

module _ (B : Book) (lines : List FareLine) (h : History) where
  -- what holds of one least reading of the facts that stand holds of any other
  align : (P : Marks → Marks → Marks → Type 0) {F T U F' T' U' : Marks} → Standing h F → LeastReading B (rules_of lines) F T U
      → Standing h F' → LeastReading B (rules_of lines) F' T' U' → P F' T' U' → P F T U
  align P {F} {T} {U} {F'} {T'} {U'} f l f' l' x =
      let e = one_standing f' f in
      let d = least_reading_unique (subst (λ (G : Marks). LeastReading B (rules_of lines) G T' U') e l') l in
      subst (λ (V : Marks). P F T V) d.1 (subst (λ (S : Marks). P F S U') d.0 (subst (λ (G : Marks). P G T' U') e x))

  one_told : (m : ℕ) (y y' : Reply) → (the_reply y).told (AskRight B lines h m) → (the_reply y').told (AskRight B lines h m) → y ≡ y'
  one_told m Done y' p q = absurd p
  one_told m (Settled s) y' p q = absurd p
  one_told m (Told a) Done p q = absurd q
  one_told m (Told a) (Settled s) p q = absurd q
  one_told m (Told a) (Told a') p q =
      let one = answer_once p.T p.U m in
      let says = align (λ F T U. (the_answer a').says T U m) p.standing p.reading q.standing q.reading q.says in
      ap Told (one.only a p.says ∙ sym (one.only a' says))

  one_settled : (k : Method) (y y' : Reply) → (the_reply y).settled (SettleRight B lines h k) → (the_reply y').settled (SettleRight B lines h k) → y ≡ y'
  one_settled k Done y' p q = absurd p
  one_settled k (Told a) y' p q = absurd p
  one_settled k (Settled s) Done p q = absurd q
  one_settled k (Settled s) (Told a) p q = absurd q
  one_settled k (Settled s) (Settled s') p q =
      let verdict = align (λ F T U. (the_verdict s'.verdict).says B (rules_of lines) F T U) p.standing p.reading q.standing q.reading q.verdict in
      let rounds = align (λ F T U. Rounds B (rules_of lines) F First s'.rounds T U) p.standing p.reading q.standing q.reading (q.either First) in
      ap Settled
      (one_settlement s s' (one_verdict B (rules_of lines) p.facts p.T p.U s.verdict s'.verdict p.verdict verdict)
      (first_stops_once (p.either First) rounds).0)

  one_reply : (w : ℕ) (c : Call) (x x' : Result Reply Refusal) → ReplyRight B lines w h c x → ReplyRight B lines w h c x' → x ≡ x'
  one_reply w (Enter m) x x' = one_test (one_refusal 9 x x') (one_test (one_refusal 10 x x') (one_given one_done x x'))
  one_reply w (Strike m) x x' = one_test (one_refusal 9 x x') (one_test (one_refusal 11 x x') (one_given one_done x x'))
  one_reply w (Settle k) x x' = one_test (one_refusal 7 x x') (one_test (one_refusal 8 x x') (one_given (one_settled k) x x'))
  one_reply w (Ask m) x x' = one_test (one_refusal 9 x x') (one_test (one_refusal 12 x x') (one_given (one_told m) x x'))

first_same : {c c' : Call} {cs cs' : List Call} → c ∷ cs ≡ c' ∷ cs' → (c ≡ c') × (cs ≡ cs')
first_same e = (cc, cc)

never : {c : Call} {cs : List Call} → [] ≡ c ∷ cs → ⊥
never e = let z : ◌≡◌ {A = ℕ} 0 1 = cc in omega arith

pub runs_decide : RunsDecide
runs_decide B lines w [] [] e r r' = refl
runs_decide B lines w [] (x ∷ xs) e r r' = absurd (never e)
runs_decide B lines w (x ∷ xs) [] e r r' = absurd (never (sym e))
runs_decide B lines w (x ∷ xs) (y ∷ ys) e (more r p) (more r' p') =
    let s = first_same e in
    let rest : xs ≡ ys = runs_decide B lines w xs ys s.1 r r' in
    let right : ReplyRight B lines w xs x.call y.reply =
    subst (λ (g : History). ReplyRight B lines w g x.call y.reply) (sym rest)
    (subst (λ (c : Call). ReplyRight B lines w ys c y.reply) (sym s.0) p') in
    let reply : x.reply ≡ y.reply = one_reply B lines xs w x.call x.reply y.reply p right in
    ap (λ (c : Call). event c x.reply ∷ xs) s.0 ∙ ap (λ (z : Result Reply Refusal). event y.call z ∷ xs) reply ∙ ap (λ (g : History). y ∷ g) rest
