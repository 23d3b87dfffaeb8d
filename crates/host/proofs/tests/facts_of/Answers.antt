use Rattle.std.proofs.Common.{◌≡◌, ◌∙◌, subst, inl, inr}
use Rattle.std.proofs.lemmas.Result.{err_from_is_err_and}
use Rattle.tariff.specs.Facts.{FactsFault}
use Rattle.host.proofs.tests.facts_of.Goals as goal

pub returns-in_err-read_facts : goal.returns-in_err-read_facts
returns-in_err-read_facts c =
    let p = err_from_is_err_and c.from_residual.result c.from_residual.ensures.1 in
    let read = c.in_err-read_facts.ensures.says in
    let wide : c.in-Ok.set.width ≡ c.args.tables.now.width = elim c.in-Ok.ensures [ inl x ↦ absurd x.1 | inr x ↦ x.1.width ∙ c.width.ensures ] in
    rw (p.1, p.2) (subst (λ w. FactsFault w c.args.facts.now c.in_err-read_facts.field-0.0) wide read.1)
