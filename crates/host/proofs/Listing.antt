-- The numbers that the host call can answer.
use Rattle.std.proofs.Common.{◌≡◌, ℕ, ◌+◌, List, Some, None, Option, refl, sym, subst, inl, inr, arith}
use mathlib.Core.List.{Memᴰ}
use Rattle.marks.specs.Refusals.{number}
use Rattle.marks.specs.declared.refusal.Refusal.{Refusal}
use Rattle.marks.specs.declared.refusal.Refusal.TheVariants.{BytesEnd, Malformed, OutsideLimit, NotAscending, FewRecords, BytesRemain, Width, Record, MarkTooHigh, FactStands, NoSuchFact, NotSettled, OutputShort}
use Rattle.readings.specs.Says.{the_verdict}
use Rattle.readings.specs.declared.verdict.Verdict.{Verdict}
use Rattle.readings.specs.declared.verdict.Verdict.TheVariants.{Clear, Suspect, Broken}
use Rattle.tariff.specs.Facts.{FactsFault, at_count, at_mark, left_over}
use Rattle.tariff.specs.Faults.{Fails}
use Rattle.tariff.specs.declared.fault.NumberFault.{NumberFault}
use Rattle.tariff_format.specs.Answers.{FileHasFault, file_fault, at_number, few_fares, few_terms, left_over as file_left_over}
use Rattle.tariff_format.specs.Faults.{the_file_fault}
use Rattle.tariff_format.specs.declared.fault.FileFault.{FileFault}
use Rattle.tariff_format.specs.declared.fault.LineAt.{LineAt}
use Rattle.host.specs.Host.{RefusedWith, file_refused, facts_refused, output_short, settled}
use Rattle.host.specs.Decides.{verdict_answers, refusal_answers, HostAnswersListed}

-- 100 and the number is one of the answers of a refusal
abbrev Listed : ℕ → Type 0
Listed n = Memᴰ (100 + n) refusal_answers

one_listed : Listed 1
one_listed = Memᴰ.head refl

two_listed : Listed 2
two_listed = Memᴰ.tail (Memᴰ.head refl)

three_listed : Listed 3
three_listed = Memᴰ.tail (Memᴰ.tail (Memᴰ.head refl))

four_listed : Listed 4
four_listed = Memᴰ.tail (Memᴰ.tail (Memᴰ.tail (Memᴰ.head refl)))

six_listed : Listed 6
six_listed = Memᴰ.tail (Memᴰ.tail (Memᴰ.tail (Memᴰ.tail (Memᴰ.head refl))))

thirteen_listed : Listed 13
thirteen_listed = Memᴰ.tail (Memᴰ.tail (Memᴰ.tail (Memᴰ.tail (Memᴰ.tail (Memᴰ.head refl)))))

-- a number fails no test but 1 to 4
test_listed : (low high least : ℕ) (bs : List ℕ) (why : Refusal) → Fails low high least bs why → Listed (number why)
test_listed low high least bs BytesEnd x = one_listed
test_listed low high least bs Malformed x = two_listed
test_listed low high least bs OutsideLimit x = three_listed
test_listed low high least bs NotAscending x = four_listed
test_listed low high least bs FewRecords x = absurd x
test_listed low high least bs BytesRemain x = absurd x
test_listed low high least bs Width x = absurd x
test_listed low high least bs Record x = absurd x
test_listed low high least bs MarkTooHigh x = absurd x
test_listed low high least bs FactStands x = absurd x
test_listed low high least bs NoSuchFact x = absurd x
test_listed low high least bs NotSettled x = absurd x
test_listed low high least bs OutputShort x = absurd x

facts_listed : (w : ℕ) (facts : List ℕ) (f : NumberFault) → FactsFault w facts f → Listed (number f.refusal)
facts_listed w facts f (at_count x) = test_listed _ _ _ _ f.refusal x.test
facts_listed w facts f (at_mark k ms q b l x) = test_listed _ _ _ _ f.refusal x.test
facts_listed w facts f (left_over k ms q b e l is) = subst (λ (g : NumberFault). Listed (number g.refusal)) (sym is) six_listed

-- a number's fault keeps its refusal, in a line or not
same_number : (at : Option LineAt) (f : NumberFault) → (the_file_fault (file_fault at f)).number ≡ number f.refusal
same_number None f = refl
same_number (Some at) f = refl

file_listed : (file : List ℕ) (f : FileFault) → FileHasFault 1024 512 file f → Listed (the_file_fault f).number
file_listed file f (at_number x) =
    subst (λ (g : FileFault). Listed (the_file_fault g).number) (sym x.is)
    (subst Listed (sym (same_number _ _)) (test_listed _ _ _ _ x.why x.test))
file_listed file f (few_fares h o few is) = absurd (let most = o.right.fares.1 in omega arith)
file_listed file f (few_terms h o room few is) = absurd (let most = o.right.terms.1 in omega arith)
file_listed file f (file_left_over t rest taken e some is) = subst (λ (g : FileFault). Listed (the_file_fault g).number) (sym is) six_listed

verdict_listed : (v : Verdict) → Memᴰ (the_verdict v).number verdict_answers
verdict_listed Clear = Memᴰ.head refl
verdict_listed Suspect = Memᴰ.tail (Memᴰ.head refl)
verdict_listed Broken = Memᴰ.tail (Memᴰ.tail (Memᴰ.head refl))

refused_listed : {n : ℕ} {before after : List ℕ} {a : ℕ} → Listed n → RefusedWith n before after a → Memᴰ a refusal_answers × (after ≡ before)
refused_listed x r = (subst (λ k. Memᴰ k refusal_answers) (sym r.number) x, r.unchanged)

pub host_answers_listed : HostAnswersListed
host_answers_listed file facts before after a (file_refused f x r) = inr (refused_listed (file_listed file f x) r)
host_answers_listed file facts before after a (facts_refused t f is x r) = inr (refused_listed (facts_listed t.width facts f x) r)
host_answers_listed file facts before after a (output_short t F is x short r) = inr (refused_listed thirteen_listed r)
host_answers_listed file facts before after a (settled t F is x room s) =
    inl (subst (λ k. Memᴰ k verdict_answers) (sym s.number) (verdict_listed s.verdict))
