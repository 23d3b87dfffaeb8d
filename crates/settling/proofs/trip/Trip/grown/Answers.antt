use Rattle.std.proofs.Common.{ap, ◌∙◌}
use Rattle.marks.specs.MarkSets.{marks_of}
use Rattle.marks.specs.Sets.{Marks, ◌∪◌}
use Rattle.settling.proofs.Answering.{answered}
use Rattle.settling.proofs.Letting.{grown_with_facts}
use Rattle.settling.proofs.Whole.{whole_grown}
use Rattle.settling.proofs.trip.Trip.grown.Goals as goal

pub returns-then-branch : goal.returns-then-branch
returns-then-branch g c =
    let t = c.args.self.now in
    whole_grown (g.met.B.TermBook.lawful t.book.now) t.goes c.args.gate.now c.args.start.now c.requires.width (c.in_ok-is_whole.ensures.0 c.if-branch.true)

pub returns : goal.returns
returns g c =
    let facts = answered c.in_ok-subtract.ensures in
    let all = answered c.in_ok-union_with.ensures in
    grown_with_facts c.args.self.now.lines.now c.args.self.now.facts.now c.args.gate.now (all.marks ∙ ap (λ (X : Marks). marks_of c.args.start.now ∪ X) facts.marks) c.in_ok-grow.ensures
