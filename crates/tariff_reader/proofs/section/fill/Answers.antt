use Rattle.std.proofs.Common.{◌+◌, length, sym, ap, ◌∙◌, arith}
use Rattle.std.proofs.lemmas.Result.{err_from_is_err_and}
use Rattle.tariff.specs.Readings.{text}
use Rattle.tariff.proofs.Runs.{many_stop}
use Rattle.tariff_reader.proofs.Filling.{fill_more}
use Rattle.tariff_reader.proofs.section.fill.Goals as goal

pub returns-in_err-record-clause-value : goal.returns-in_err-record-clause-value
returns-in_err-record-clause-value g c =
    let read_line = g.L.Line.reading c.args.width in
    let here = c.in_err-record.ensures in
    let inv = c.loop-index.invariant in
    let out = err_from_is_err_and c.from_residual.result c.from_residual.ensures.1 in
    let found = here.value ∙ ap (λ t. read_line t c.loop-index.index c.loop-index.reader.place) inv.0 in
    let stop = many_stop _ (read_line (text c.args.reader.now)) (λ _ i. i + 1) (length c.args.records.now) c.loop-index.index c.loop-index.index c.loop-index.reader.place _ (omega arith) found in
    rw (out.1, out.2) (sym (inv.1 ∙ stop))

pub loop-index-preserved : goal.loop-index-preserved
loop-index-preserved g c =
    let read_line = g.L.Line.reading c.args.width in
    let here = c.in_ok-record.ensures in
    let inv = c.loop-index.invariant in
    let found = here.value ∙ ap (λ t. read_line t c.loop-index.index c.loop-index.reader.place) inv.0 in
    (here.same ∙ inv.0, inv.1 ∙ fill_more (read_line (text c.args.reader.now)) (λ _ i. i + 1) (length c.args.records.now) c.loop-index.index c.loop-index.index c.loop-index.reader.place c.loop-index.records c.in_ok-record.field-0 c.read.new.reader.place (omega arith) (omega arith) found)
