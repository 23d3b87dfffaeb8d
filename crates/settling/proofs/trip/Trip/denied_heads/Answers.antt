use Rattle.std.proofs.Common.{◌≡◌, ℕ, sym, ap, ◌∙◌, subst, ap₂}
use Rattle.marks.specs.MarkSets.{marks_of, IsSet}
use Rattle.marks.specs.Sets.{Marks, OfWidth, below, ◌∪◌, ◌∖◌}
use Rattle.marks.proofs.Sets.{holds, fails}
use Rattle.settling.specs.Denials.{denied_below}
use Rattle.settling.proofs.Answering.{answered, gives_map, passed, set_width}
use Rattle.settling.proofs.Denying.{denies_all, denies_tried}
use Rattle.settling.proofs.Grouping.{clean_closed, denied_closed}
use Rattle.settling.proofs.trip.Trip.denied_heads.Goals as goal

pub returns-then-branch : goal.returns-then-branch
returns-then-branch g c =
    let t = c.args.self.now in
    let B = g.B.TermBook.book t.book.now in
    let at = c.args.at.now in
    let w = c.width.ensures in
    let closed = answered c.in_ok-close.ensures in
    gives_map c.full.result
    (λ D is.
    denies_all B (g.met.B.TermBook.lawful t.book.now) t.lines.now t.facts.now at t.goes c.requires.at D
    (subst (λ (n : ℕ). IsSet D n (below n)) w is) (holds (sym closed.clash ∙ c.if-branch.true)))
    (passed (set_width at c.width.result (w ∙ sym c.requires.at)) c.full.ensures)

pub denied_among-requires-clause-clean : goal.denied_among-requires-clause-clean
denied_among-requires-clause-clean g c =
    clean_closed (g.met.B.TermBook.lawful c.args.self.now.book.now) c.requires.at (answered c.in_ok-close.ensures) c.if-branch.false

pub returns : goal.returns
returns g c =
    let t = c.args.self.now in
    let B = g.B.TermBook.book t.book.now in
    let law = g.met.B.TermBook.lawful t.book.now in
    let at = c.args.at.now in
    let wide : OfWidth B.width (marks_of at) = subst (λ (n : ℕ). OfWidth n (marks_of at)) c.requires.at at.inside in
    let closed = answered c.in_ok-close.ensures in
    let heads = c.all_heads-tried.ensures in
    let all = marks_of c.all_heads-tried.result in
    let rest = all ∖ B.closure (marks_of at) in
    let known = c.args.known.now in
    let K = marks_of known in
    let denied = c.in_ok-denied.ensures in
    let union = answered c.in_ok-union_with.ensures in
    let tried : marks_of c.subtract-2.new.self ≡ rest ∖ K =
    (answered c.in_ok-subtract-2.ensures).marks
    ∙ ap (λ (X : Marks). X ∖ K) ((answered c.in_ok-subtract.ensures).marks ∙ ap (λ (X : Marks). all ∖ X) closed.set.marks) in
    let found : marks_of c.in_ok-denied.denied ≡ denied_below B (marks_of at) (rest ∖ K) B.width =
    denied.marks ∙ ap₂ (λ (X Y : Marks). denied_below B X Y B.width) closed.set.marks tried ∙ denied_closed law (marks_of at) wide (rest ∖ K) in
    denies_tried B law t.lines.now t.facts.now at t.goes c.requires.at all known c.union_with.new.self heads.facts heads.heads (fails (sym closed.clash ∙ c.if-branch.false)) c.requires.known
    (record { width = union.width ∙ denied.width; marks = union.marks ∙ ap (λ (X : Marks). X ∪ K) found })
