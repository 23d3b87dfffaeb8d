use Rattle.std.proofs.Common.{sym, ap, ◌∙◌, subst}
use Rattle.tariff.proofs.Decoding.{bytes_fit}
use Rattle.std.proofs.lemmas.List.{take_rest}
use Rattle.tariff.specs.Readings.{decode, tested}
use Rattle.tariff.specs.Faults.{NumberAnswer}
use Rattle.tariff.proofs.Answering.{right_answer}
use Rattle.tariff.proofs.reader.number_at.Goals as goal

pub returns-clause-says : goal.returns-clause-says
returns-clause-says c =
    let bs = c.args.bytes.now in
    let p = c.args.place in
    let limits = c.args.limits in
    let value = c.judged.ensures.value ∙ ap (λ l. tested limits.low limits.high limits.least p (decode l)) (take_rest bs p) in
    let bytes = bytes_fit bs c.type_inv.bytes in
    subst (NumberAnswer limits.low limits.high limits.least bs p) (sym value) (right_answer limits.low limits.high limits.least bs p bytes)
