use Rattle.std.proofs.Common.{refl, sym, ◌∙◌}
use Rattle.std.proofs.lemmas.Bool.{false≢true}
use Rattle.settling.proofs.Answering.{answered, given}
use Rattle.settling.proofs.Fares.{fares_found}
use Rattle.settling.proofs.Growing.{between_done, between_clean, turned_none, turned_still, turned_some}
use Rattle.settling.proofs.trip.Trip.turn.Goals as goal

pub returns-then-branch : goal.returns-then-branch
returns-then-branch g c =
    let t = c.args.self.now in
    turned_none (g.met.B.TermBook.lawful t.book.now) c.args.gate.now t.goes.lawful c.requires ((given c.in_ok-same_marks.ensures).0 c.if-branch.true)

pub returns-then-branch-2 : goal.returns-then-branch-2
returns-then-branch-2 g c =
    let t = c.args.self.now in
    let law = g.met.B.TermBook.lawful t.book.now in
    let gate = c.args.gate.now in
    let brings = (answered c.in_ok-bring_on.ensures).all (fares_found t.index.now gate t.goes (t.indexed gate)) (between_done law gate t.goes.lawful c.requires) in
    turned_still law gate t.goes.lawful c.requires brings ((given c.in_ok-same_marks-2.ensures).0 c.if-branch-2.true)

pub returns : goal.returns
returns g c =
    let t = c.args.self.now in
    let law = g.met.B.TermBook.lawful t.book.now in
    let gate = c.args.gate.now in
    let brings = (answered c.in_ok-bring_on.ensures).all (fares_found t.index.now gate t.goes (t.indexed gate)) (between_done law gate t.goes.lawful c.requires) in
    let closes = (answered c.in_ok-clash.ensures).closes (between_clean law gate t.goes.lawful c.requires brings) in
    turned_some law gate t.goes.lawful c.requires (λ e. false≢true (sym c.if-branch.false ∙ (given c.in_ok-same_marks.ensures).1 e)) brings closes refl
