use Rattle.settling.proofs.Founding.{is_model}
use Rattle.settling.proofs.founded.Trip+BareBook.model.Goals as goal

pub returns : goal.returns
returns c =
    let t = c.args.self.now in
    is_model t.book.now.width t.lines.now t.facts.now c.in_ok-reading.field-0 c.in_ok-fails.fails t.goes c.in_ok-reading.ensures c.in_ok-fails.ensures
