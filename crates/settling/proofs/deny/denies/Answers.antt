use Rattle.std.proofs.Common.{sym, subst}
use Rattle.marks.specs.MarkSets.{marks_of}
use Rattle.marks.specs.Sets.{with_mark}
use Rattle.settling.specs.Denials.{CleanIfAny}
use Rattle.settling.proofs.Grouping.{took_denied}
use Rattle.settling.proofs.deny.denies.Goals as goal

pub returns-in-Some-clause-denied : goal.returns-in-Some-clause-denied
returns-in-Some-clause-denied g c =
    let B = g.B.TermBook.book c.args.book.now in
    let group = c.args.group.now in
    let m = c.args.m in
    let more = subst (CleanIfAny B (with_mark (marks_of group) m)) c.in-Some.is c.in_ok-greater.ensures in
    sym (took_denied (g.met.B.TermBook.lawful c.args.book.now) (marks_of c.args.at.now) group m c.in-Some.greater c.requires.group more)
