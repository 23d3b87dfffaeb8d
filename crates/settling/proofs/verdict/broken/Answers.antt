use Rattle.std.proofs.Common.{ℕ, sym, ap, ◌∙◌, subst}
use Rattle.marks.specs.MarkSets.{marks_of}
use Rattle.marks.specs.Sets.{OfWidth}
use Rattle.settling.proofs.Answering.{given}
use Rattle.settling.proofs.Judging.{broken_by}
use Rattle.settling.proofs.verdict.broken.Goals as goal

pub returns : goal.returns
returns g c =
    let B = g.B.TermBook.book c.args.book.now in
    let lower = c.args.reading.now.lower in
    let none = (given c.in_ok-none.ensures).marks in
    broken_by B (marks_of lower) (marks_of c.args.reading.now.upper) c.in_ok-is_subset.field-0
    (subst (λ (w : ℕ). OfWidth w (marks_of lower)) c.requires lower.inside)
    (ap B.clash (sym none) ∙ sym c.in_ok-clashes.ensures ∙ c.if-branch.false) (given c.in_ok-is_subset.ensures)
