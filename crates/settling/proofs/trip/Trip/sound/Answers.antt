use Rattle.std.proofs.Common.{sym, ◌∙◌}
use Rattle.marks.specs.MarkSets.{marks_of}
use Rattle.settling.specs.Growth.{rules_of}
use Rattle.settling.proofs.Answering.{passed, gives_map}
use Rattle.settling.proofs.Judging.{sound_by}
use Rattle.settling.proofs.trip.Trip.sound.Goals as goal

pub returns : goal.returns
returns g c =
    let t = c.args.self.now in
    let full = c.in_ok-full_of.ensures in
    gives_map c.same_marks.result
    (λ b. sound_by (g.B.TermBook.book t.book.now) (rules_of t.lines.now) (marks_of t.facts.now) (marks_of c.args.set.now) (marks_of c.in_ok-full_of.field-0) b
    (sym c.in_ok-clashes.ensures ∙ c.if-branch.false) full.yield)
    (passed (λ differ. differ (full.width ∙ sym c.requires)) c.same_marks.ensures)
