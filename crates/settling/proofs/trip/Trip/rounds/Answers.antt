use Rattle.std.proofs.Common.{◌∙◌}
use Rattle.settling.proofs.Answering.{given}
use Rattle.settling.proofs.Denying.{no_heads}
use Rattle.settling.proofs.Rounding.{going_start, going_less, going_on, going_end}
use Rattle.settling.proofs.Settles.{settles_by}
use Rattle.settling.proofs.Ways.{going_way}
use Rattle.settling.proofs.trip.Trip.rounds.Goals as goal

pub loop-rounds-init : goal.loop-rounds-init
loop-rounds-init g c =
    let t = c.args.self.now in
    let way = going_way g.W.Way.method (g.B.TermBook.book t.book.now) (g.met.B.TermBook.lawful t.book.now) t.lines.now t.facts.now t.goes in
    let lower = given c.in_ok-lower.ensures in
    let other = c.in_ok-other.ensures in
    let width = lower.width ∙ c.width.ensures in (
      going_start _ _ _ way width other.width lower.marks other.marks,
      no_heads c.in_ok-lower.lower width lower.marks,
    )

pub loop-rounds-smaller : goal.loop-rounds-smaller
loop-rounds-smaller g c =
    let t = c.args.self.now in
    let way = going_way g.W.Way.method (g.B.TermBook.book t.book.now) (g.met.B.TermBook.lawful t.book.now) t.lines.now t.facts.now t.goes in
    going_less _ _ _ way c.loop-rounds.invariant.0 c.in_ok-round.ensures.rounded c.if-branch.true

pub loop-rounds-preserved : goal.loop-rounds-preserved
loop-rounds-preserved g c =
    let t = c.args.self.now in
    let way = going_way g.W.Way.method (g.B.TermBook.book t.book.now) (g.met.B.TermBook.lawful t.book.now) t.lines.now t.facts.now t.goes in
    (going_on _ _ _ way c.loop-rounds.invariant.0 c.in_ok-round.ensures.rounded c.if-branch.true, c.in_ok-round.ensures.known)

pub returns : goal.returns
returns g c =
    let t = c.args.self.now in
    let k = g.W.Way.method in
    let B = g.B.TermBook.book t.book.now in
    let law = g.met.B.TermBook.lawful t.book.now in
    let way = going_way k B law t.lines.now t.facts.now t.goes in
    let last = c.in_ok-round.ensures.rounded in
    settles_by B law t.lines.now t.facts.now t.goes k _ _ last.lower c.in_ok-upper.ensures (going_end _ _ _ way c.loop-rounds.invariant.0 last c.if-branch.false)
