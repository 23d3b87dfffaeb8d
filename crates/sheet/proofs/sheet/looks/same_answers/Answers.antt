use Rattle.marks.specs.MarkSets.{marks_of}
use Rattle.marks.proofs.Sets.{holds, fails}
use Rattle.settling.proofs.Answering.{given}
use Rattle.sheet.proofs.Answering.{same_lower, same_upper, same_all}
use Rattle.sheet.proofs.sheet.looks.same_answers.Goals as goal

pub returns-then-lower_same : goal.returns-then-lower_same
returns-then-lower_same c =
    let T = marks_of c.args.one.now.lower in
    let U = marks_of c.args.one.now.upper in
    let T' = marks_of c.args.other.now.lower in
    let U' = marks_of c.args.other.now.upper in
    let lower = given c.in_ok-lower_same.ensures in
    let upper = given c.in_ok-upper_same.ensures in (
      (λ e. same_all T U T' U' (lower.0 c.if-lower_same.true) (upper.0 e)),
      (λ same. upper.1 (same_upper T U T' U' same)),
    )

pub returns-else-lower_same : goal.returns-else-lower_same
returns-else-lower_same c =
    let lower = given c.in_ok-lower_same.ensures in
    ((λ e. absurd (fails c.if-lower_same.false (holds e))), (λ same. lower.1 (same_lower _ _ _ _ same)))
