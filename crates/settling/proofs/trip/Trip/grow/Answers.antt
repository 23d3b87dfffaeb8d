use Rattle.settling.proofs.Answering.{answered}
use Rattle.settling.proofs.Fares.{fares_found}
use Rattle.settling.proofs.Growing.{closed_around, closed_least, closed_between, closed_clash, closed_grown, growing_on, growing_end, room_falls}
use Rattle.settling.proofs.trip.Trip.grow.Goals as goal

pub returns-then-branch : goal.returns-then-branch
returns-then-branch g c =
    let t = c.args.self.now in
    let law = g.met.B.TermBook.lawful t.book.now in
    let gate = c.args.gate.now in
    let brings = c.bring_all.ensures.all (fares_found t.index.now gate t.goes (t.indexed gate)) in
    let closes = answered c.in_ok-close.ensures in
    closed_grown law gate t.goes.lawful c.requires brings closes (closed_clash law gate t.goes.lawful c.requires brings closes c.if-branch.true)

pub loop-init : goal.loop-init
loop-init g c =
    let t = c.args.self.now in
    let law = g.met.B.TermBook.lawful t.book.now in
    let gate = c.args.gate.now in
    let brings = c.bring_all.ensures.all (fares_found t.index.now gate t.goes (t.indexed gate)) in
    let closes = answered c.in_ok-close.ensures in
    record {
      between = closed_between law gate t.goes.lawful c.requires brings closes c.if-branch.false;
      around = closed_around law gate t.goes.lawful c.requires brings closes;
      least = closed_least law gate t.goes.lawful c.requires brings closes;
    }

pub loop-smaller : goal.loop-smaller
loop-smaller g c = room_falls c.in_ok-turn.ensures c.if-branch-2.true

pub loop-preserved : goal.loop-preserved
loop-preserved g c = growing_on c.loop.invariant c.in_ok-turn.ensures c.if-branch-2.true

pub returns : goal.returns
returns g c = growing_end c.loop.invariant c.in_ok-turn.ensures c.if-branch-2.false
