use Rattle.std.proofs.Common.{sym, ◌∙◌}
use Rattle.std.proofs.lemmas.Bool.{false≢true}
use Rattle.settling.proofs.Whole.{quiet_below}
use Rattle.settling.proofs.trip.Trip.clashes_closed.Goals as goal

pub returns-then-not-branch : goal.returns-then-not-branch
returns-then-not-branch g c =
    let t = c.args.self.now in
    sym (quiet_below (g.met.B.TermBook.lawful t.book.now) c.args.set.now c.requires.width c.requires.closed
    (λ e. false≢true (sym c.if-not-branch.true ∙ c.in_ok-is_whole.ensures.1 e)))
