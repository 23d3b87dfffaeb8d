-- The bytes decide the host call's answer and its output.
use Rattle.std.proofs.Common.{◌≡◌, ℕ, ◌+◌, ◌<◌, ◌≤◌, ◌⊎◌, List, length, get_or, Ok, Err, Result, sym, refl, ap, ◌∙◌, subst, inl, inr, arith}
use Rattle.std.proofs.lemmas.List.{ext_get_or}
use Rattle.std.proofs.lemmas.Bool.{cases_lt}
use Rattle.marks.specs.Refusals.{number}
use Rattle.marks.specs.Sets.{Marks}
use Rattle.readings.specs.Says.{the_answer, the_verdict}
use Rattle.readings.specs.declared.answer.Answer.{Answer}
use Rattle.readings.specs.declared.verdict.Verdict.{Verdict}
use Rattle.readings.proofs.FirstRounds.{least_reading_unique}
use Rattle.readings.proofs.Verdicts.{answer_once, one_verdict}
use Rattle.tariff.specs.Facts.{FactsAre, FactsFault, facts_at}
use Rattle.tariff.specs.Numbers.{Bytes}
use Rattle.tariff.specs.declared.fault.NumberFault.{NumberFault}
use Rattle.tariff.proofs.Strings.{only_facts}
use Rattle.tariff_format.specs.Answers.{FileIs, FileHasFault}
use Rattle.tariff_format.specs.Encoding.{Tariff}
use Rattle.tariff_format.specs.Faults.{the_file_fault}
use Rattle.tariff_format.specs.Files.{file_at}
use Rattle.tariff_format.specs.declared.fault.FileFault.{FileFault}
use Rattle.tariff_format.proofs.Answering.{only_file}
use Rattle.host.specs.Host.{AnswerByte, AnswersIn, book_of, fare_rules, Settled, RefusedWith, HostAnswer, file_refused, facts_refused, output_short, settled}
use Rattle.host.specs.Decides.{HostDecides}

-- two results of one reading: both are taken as the same, or both are refused for the same
module _ {A E : Type 0} {r : Result (A × ℕ) E} where
  both_taken : {x y : A} {p q : ℕ} → r ≡ Ok (x, p) → r ≡ Ok (y, q) → x ≡ y
  both_taken {x} {y} {p} {q} e f = let same : ◌≡◌ {A = A × ℕ} (x, p) (y, q) = cc in ap (λ (z : A × ℕ). z.0) same

  both_refused : {f g : E} → r ≡ Err f → r ≡ Err g → f ≡ g
  both_refused e f = cc

  not_both : {f : E} {x : A × ℕ} → r ≡ Err f → r ≡ Ok x → ⊥
  not_both e f = let z : ◌≡◌ {A = ℕ} 0 1 = cc in omega arith

-- one answer and one output
abbrev Same : (a a' : ℕ) (after after' : List ℕ) → Type 0
Same a a' after after' = (a ≡ a') × (after ≡ after')

byte_same : (T U : Marks) (m b b' : ℕ) → AnswerByte T U m b → AnswerByte T U m b' → b ≡ b'
byte_same T U m b b' x x' =
    let once = answer_once T U m in
    x.number ∙ ap (λ (y : Answer). (the_answer y).number) (once.only x.answer x.says ∙ sym (once.only x'.answer x'.says)) ∙ sym x'.number

output_same : {before after after' : List ℕ} (w : ℕ) (T U : Marks) → AnswersIn w T U before after → AnswersIn w T U before after' → after ≡ after'
output_same {before} {after} {after'} w T U x x' = ext_get_or 0 after after' (x.as_long ∙ sym x'.as_long) (λ k _. by_place k (cases_lt k w))
  where
    by_place : (k : ℕ) → (k < w) ⊎ (w ≤ k) → get_or after k 0 ≡ get_or after' k 0
    by_place k (inl l) = byte_same T U k _ _ (x.marks k l) (x'.marks k l)
    by_place k (inr g) = x.behind k g ∙ sym (x'.behind k g)

module _ {before after after' : List ℕ} {a a' : ℕ} where
  refused_same : {n n' : ℕ} → n ≡ n' → RefusedWith n before after a → RefusedWith n' before after' a' → Same a a' after after'
  refused_same e r r' = (r.number ∙ ap (λ k. 100 + k) e ∙ sym r'.number, r.unchanged ∙ sym r'.unchanged)

  settled_same : (t : Tariff) (F : Marks) → Settled t F before after a → Settled t F before after' a' → Same a a' after after'
  settled_same t F s s' =
      let one = least_reading_unique s'.reading s.reading in
      let T : Marks = s.lower in
      let U : Marks = s.upper in
      let says : (the_verdict s'.verdict).says (book_of t) (fare_rules t) F T U =
      subst (λ (Y : Marks). (the_verdict s'.verdict).says (book_of t) (fare_rules t) F T Y) one.1
      (subst (λ (X : Marks). (the_verdict s'.verdict).says (book_of t) (fare_rules t) F X s'.upper) one.0 s'.says) in
      let answers : AnswersIn t.width T U before after' =
      subst (λ (Y : Marks). AnswersIn t.width T Y before after') one.1 (subst (λ (X : Marks). AnswersIn t.width X s'.upper before after') one.0 s'.answers) in (
        s.number ∙ ap (λ (v : Verdict). (the_verdict v).number) (one_verdict (book_of t) (fare_rules t) F T U s.verdict s'.verdict s.says says) ∙ sym s'.number,
        output_same t.width T U s.answers answers,
      )

-- what is left to tell apart, test by test
module _ (facts before after : List ℕ) (a : ℕ) where
  abbrev WithFacts : Tariff → Marks → Type 0
  WithFacts t F = ((length before < t.width) × RefusedWith 13 before after a) ⊎ ((t.width ≤ length before) × Settled t F before after a)

  abbrev WithTariff : Tariff → Type 0
  WithTariff t = ((f : NumberFault) × FactsFault t.width facts f × RefusedWith (number f.refusal) before after a) ⊎ ((F : Marks) × FactsAre t.width facts F × WithFacts t F)

  abbrev Outcome : List ℕ → Type 0
  Outcome file = ((f : FileFault) × FileHasFault 1024 512 file f × RefusedWith (the_file_fault f).number before after a) ⊎ ((t : Tariff) × FileIs 1024 512 file t × WithTariff t)

  outcome : (file : List ℕ) → HostAnswer file facts before after a → Outcome file
  outcome file (file_refused f x r) = inl (f, x, r)
  outcome file (facts_refused t f x y r) = inr (t, x, inl (f, y, r))
  outcome file (output_short t F x y short r) = inr (t, x, inr (F, y, inl (short, r)))
  outcome file (settled t F x y room s) = inr (t, x, inr (F, y, inr (room, s)))

module _ (file facts before after after' : List ℕ) (a a' : ℕ) (file_bytes : Bytes file) where
  by_output : (t : Tariff) (F : Marks) → WithFacts facts before after a t F → WithFacts facts before after' a' t F → Same a a' after after'
  by_output t F (inl x) (inl y) = refused_same refl x.1 y.1
  by_output t F (inl x) (inr y) = absurd (let l = x.0 in let g = y.0 in omega arith)
  by_output t F (inr x) (inl y) = absurd (let l = y.0 in let g = x.0 in omega arith)
  by_output t F (inr x) (inr y) = settled_same t F x.1 y.1

  module _ (t : Tariff) (small : t.width ≤ 512) where
    taken : (F : Marks) → FactsAre t.width facts F → facts_at t.width facts ≡ Ok (F, length facts)
    taken F x = only_facts t.width facts small (Ok (F, length facts)) (x, refl)

    refused : (f : NumberFault) → FactsFault t.width facts f → facts_at t.width facts ≡ Err f
    refused f x = only_facts t.width facts small (Err f) x

    by_facts : WithTariff facts before after a t → WithTariff facts before after' a' t → Same a a' after after'
    by_facts (inl (f, x, r)) (inl (g, y, s)) = refused_same (ap (λ (e : NumberFault). number e.refusal) (both_refused (refused f x) (refused g y))) r s
    by_facts (inl (f, x, r)) (inr (F, y, s)) = absurd (not_both (refused f x) (taken F y))
    by_facts (inr (F, x, r)) (inl (g, y, s)) = absurd (not_both (refused g y) (taken F x))
    by_facts (inr (F, x, r)) (inr (G, y, s)) = by_output t F r (subst (WithFacts facts before after' a' t) (both_taken (taken G y) (taken F x)) s)

  read : (t : Tariff) → FileIs 1024 512 file t → file_at 1024 512 file ≡ Ok (t, length file)
  read t x = only_file 1024 512 file file_bytes (Ok (t, length file)) (x, refl)

  unread : (f : FileFault) → FileHasFault 1024 512 file f → file_at 1024 512 file ≡ Err f
  unread f x = only_file 1024 512 file file_bytes (Err f) x

  by_file : Outcome facts before after a file → Outcome facts before after' a' file → Same a a' after after'
  by_file (inl (f, x, r)) (inl (g, y, s)) = refused_same (ap (λ (e : FileFault). (the_file_fault e).number) (both_refused (unread f x) (unread g y))) r s
  by_file (inl (f, x, r)) (inr (t, y, s)) = absurd (not_both (unread f x) (read t y))
  by_file (inr (t, x, r)) (inl (g, y, s)) = absurd (not_both (unread g y) (read t x))
  by_file (inr (t, x, r)) (inr (u, y, s)) = by_facts t x.taken.tidy.lawful.few r (subst (WithTariff facts before after' a') (both_taken (read u y) (read t x)) s)

pub host_decides : HostDecides
host_decides file facts before after after' a a' file_bytes x y = by_file file facts before after after' a a' file_bytes (outcome facts before after a file x) (outcome facts before after' a' file y)
