use Rattle.std.proofs.Common.{inl, inr, ◌∙◌}
use Rattle.settling.proofs.Answering.{answered, gives_map, passed}
use Rattle.settling.proofs.Grouping.{closed_with}
use Rattle.settling.proofs.deny.close_with.Goals as goal

pub returns : goal.returns
returns g c =
    let clean = c.requires.clean in
    let with = answered c.in_ok-insert.ensures in
    gives_map c.close_on.result
    (λ clash on. closed_with (g.met.B.TermBook.lawful c.args.book.now) c.args.m c.args.set.now c.insert.new.self c.close_on.new.set clash c.requires.mark clean with on)
    (passed (λ f. elim f [ inl d ↦ d (with.width ∙ clean.width) | inr d ↦ d clean.width ]) c.close_on.ensures)
