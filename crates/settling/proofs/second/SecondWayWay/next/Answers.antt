use Rattle.marks.specs.MarkSets.{marks_of}
use Rattle.settling.proofs.Fares.{fits}
use Rattle.settling.proofs.Starting.{grown_within, denied_grows}
use Rattle.settling.proofs.second.SecondWayWay.next.Goals as goal

pub kept_from-requires-clause-within : goal.kept_from-requires-clause-within
kept_from-requires-clause-within g c =
    let t = c.args.trip.now in
    let fit = fits (g.B.TermBook.book t.book.now) (g.met.B.TermBook.lawful t.book.now) t.lines.now t.facts.now t.goes in
    grown_within fit c.requires.reached.run c.in_ok-grown.ensures.grown

pub kept_from-requires-clause-known : goal.kept_from-requires-clause-known
kept_from-requires-clause-known g c =
    let t = c.args.trip.now in
    let fit = fits (g.B.TermBook.book t.book.now) (g.met.B.TermBook.lawful t.book.now) t.lines.now t.facts.now t.goes in
    let grown = c.in_ok-grown.ensures.grown in
    record {
      width = c.requires.known.width;
      denied = λ r i d. denied_grows fit (marks_of c.args.lower.now) (marks_of c.in_ok-grown.grown) r i grown.of_width grown.around (c.requires.known.denied r i d);
    }
