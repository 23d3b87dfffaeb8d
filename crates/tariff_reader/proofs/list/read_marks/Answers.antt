use Rattle.std.proofs.Common.{◌+◌, length, ap, ◌∙◌, arith}
use Rattle.tariff.specs.Lists.{mark_at}
use Rattle.tariff.specs.Readings.{text}
use Rattle.tariff_reader.proofs.Filling.{fill_more}
use Rattle.tariff_reader.proofs.list.read_marks.Goals as goal

pub loop-place-preserved : goal.loop-place-preserved
loop-place-preserved c =
    let inv = c.loop-place.invariant in
    let here = c.in_ok-mark.ensures in
    let found = here.value ∙ ap (λ t. mark_at c.args.width t c.loop-place.least c.loop-place.reader.place) inv.0 in (
      here.same ∙ inv.0,
      inv.1 ∙ fill_more (mark_at c.args.width (text c.args.reader.now)) (λ m _. m + 1) (length c.args.places.now) c.loop-place.place-index c.loop-place.least c.loop-place.reader.place c.loop-place.places c.in_ok-mark.mark c.step.new.self.place (omega arith) (omega arith) found,
    )
