use Rattle.std.proofs.lemmas.Result.{err_from_is_err_and}
use Rattle.tariff_reader.proofs.tables.Tables.test_first.Goals as goal

pub returns-in_err-check-clause-fault : goal.returns-in_err-check-clause-fault
returns-in_err-check-clause-fault c =
    let p = err_from_is_err_and c.from_residual.result c.from_residual.ensures.1 in
    let check = c.in_err-check.ensures in
    rw (p.1, p.2) ((check.says.answer _).0 check.value)
