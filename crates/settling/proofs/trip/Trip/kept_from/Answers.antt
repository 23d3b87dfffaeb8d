use Rattle.std.proofs.Common.{sym, ◌∙◌}
use Rattle.marks.proofs.Sets.{fails}
use Rattle.settling.proofs.Fares.{fits}
use Rattle.settling.proofs.Starting.{untested_kept}
use Rattle.settling.proofs.trip.Trip.kept_from.Goals as goal

pub returns-then-not-branch-clause-kept : goal.returns-then-not-branch-clause-kept
returns-then-not-branch-clause-kept g c =
    let t = c.args.self.now in
    let fit = fits (g.B.TermBook.book t.book.now) (g.met.B.TermBook.lawful t.book.now) t.lines.now t.facts.now t.goes in
    let grown = c.in_ok-untested.ensures in
    record {
      width = grown.width;
      kept = untested_kept fit c.requires.known.denied grown.least (fails (sym c.in_ok-clashes_closed.ensures ∙ c.if-not-branch.true)) c.requires.within;
    }
