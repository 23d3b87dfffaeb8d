use Rattle.std.proofs.Common.{ℕ, ◌+◌, ◌-◌, List, sym, ap, ◌∙◌, ap₂}
use Rattle.marks.specs.MarkSets.{marks_of}
use Rattle.tariff.specs.Facts.{adding}
use Rattle.tariff.specs.Lists.{mark_at, marks_at}
use Rattle.tariff.specs.Readings.{text, mapped}
use Rattle.tariff.proofs.Runs.{many_more}
use Rattle.tariff.proofs.facts.read_marks.Goals as goal

pub loop-preserved : goal.loop-preserved
loop-preserved c =
    let inv = c.loop.invariant in
    let here = c.in_ok-m.ensures in
    let set = here.set.1 in
    let found = here.value ∙ ap₂ (λ (w : ℕ) (t : List ℕ). mark_at w t c.loop.least c.loop.reader.place) inv.1 inv.0 in (
      here.same ∙ inv.0,
      set.width ∙ inv.1,
      inv.2
          ∙ many_more (adding (marks_of c.loop.set)) (mark_at c.args.set.now.width (text c.args.reader.now)) (λ m _. m + 1) c.args.count c.loop.counter c.loop.least c.loop.reader.place c.in_ok-m.m c.read_mark.new.reader.place c.loop-test.true found
          ∙ ap (λ S. mapped (adding S) (marks_at c.args.set.now.width (text c.args.reader.now) (c.args.count - (c.loop.counter + 1)) (c.in_ok-m.m + 1) c.read_mark.new.reader.place)) (sym set.marks),
    )
