use Rattle.std.proofs.Common.{ℕ, T, sym, ◌∙◌, subst}
use Rattle.marks.specs.MarkSets.{IsSet}
use Rattle.marks.specs.Sets.{Marks, below}
use Rattle.settling.proofs.Answering.{given, gives_map, passed, set_width}
use Rattle.settling.proofs.Denying.{denies_all}
use Rattle.settling.proofs.trip.Trip.denied_under.Goals as goal

pub returns-then-branch : goal.returns-then-branch
returns-then-branch g c =
    let t = c.args.self.now in
    let B = g.B.TermBook.book t.book.now in
    let at = c.args.at.now in
    let w = c.width.ensures in
    let same = (given c.in_ok-same_marks.ensures).0 c.if-branch.true in
    gives_map c.full.result
    (λ D is.
    denies_all B (g.met.B.TermBook.lawful t.book.now) t.lines.now t.facts.now at t.goes c.requires.at D
    (subst (λ (n : ℕ). IsSet D n (below n)) w is) (subst (λ (X : Marks). T (B.clash X)) same c.requires.clash))
    (passed (set_width at c.width.result (w ∙ sym c.requires.at)) c.full.ensures)
