use Rattle.marks.specs.MarkSets.{marks_of}
use Rattle.readings.proofs.SecondRounds.{TWithin}
use Rattle.settling.proofs.Fares.{fits}
use Rattle.settling.proofs.Starting.{next_within, denied_grows}
use Rattle.settling.proofs.first.FirstWayWay.next.Goals as goal

pub full_from-requires-clause-within : goal.full_from-requires-clause-within
full_from-requires-clause-within g c =
    let t = c.args.trip.now in
    let fit = fits (g.B.TermBook.book t.book.now) (g.met.B.TermBook.lawful t.book.now) t.lines.now t.facts.now t.goes in
    TWithin fit c.requires.reached.run

pub guarded_from-requires-clause-within : goal.guarded_from-requires-clause-within
guarded_from-requires-clause-within g c =
    let t = c.args.trip.now in
    let fit = fits (g.B.TermBook.book t.book.now) (g.met.B.TermBook.lawful t.book.now) t.lines.now t.facts.now t.goes in
    next_within fit c.requires.reached.run c.in_ok-next_lower.ensures.yield

pub guarded_from-requires-clause-known : goal.guarded_from-requires-clause-known
guarded_from-requires-clause-known g c =
    let t = c.args.trip.now in
    let fit = fits (g.B.TermBook.book t.book.now) (g.met.B.TermBook.lawful t.book.now) t.lines.now t.facts.now t.goes in
    let full = c.in_ok-next_lower.ensures.yield in
    let grows = TWithin fit c.requires.reached.run (marks_of c.in_ok-next_lower.next_lower) full.of_width full.closed full.heads in
    record {
      width = c.requires.known.width;
      denied = λ r i d. denied_grows fit (marks_of c.args.lower.now) (marks_of c.in_ok-next_lower.next_lower) r i full.of_width grows (c.requires.known.denied r i d);
    }
