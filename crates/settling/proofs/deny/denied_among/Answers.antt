use Rattle.std.proofs.Common.{ℕ, ◌+◌, sym, ◌∙◌, subst, arith}
use Rattle.marks.specs.declared.set.MarkSet.{MarkSet}
use Rattle.marks.specs.MarkSets.{marks_of, IsSet}
use Rattle.marks.specs.Sets.{OfWidth}
use Rattle.settling.specs.Denials.{denied_below}
use Rattle.settling.proofs.Answering.{answered, given}
use Rattle.settling.proofs.Denying.{denied_step, kept_step, denied_all, denied_none}
use Rattle.settling.proofs.deny.denied_among.Goals as goal
use Rattle.settling.proofs.deny.denied_among.Goals.{then-branch+in_ok-insert, else-branch}

pub loop-m-init : goal.loop-m-init
loop-m-init g c =
    let new = given c.in_ok-denied.ensures in (
      omega arith,
      record { width = new.width ∙ c.width.ensures; marks = new.marks ∙ denied_none (g.B.TermBook.book c.args.book.now) (marks_of c.args.at.now) (marks_of c.args.tried.now) },
      record { clean = c.requires.clean; around = λ m t. t },
    )

pub loop-m-preserved : goal.loop-m-preserved
loop-m-preserved g c =
    let B = g.B.TermBook.book c.args.book.now in
    let S = marks_of c.args.at.now in
    let C = marks_of c.args.tried.now in
    let m = c.in-Some.m in
    let low = c.in-Some.ensures.next in
    let within = c.in-Some.ensures.within in
    let before = c.loop-m.invariant.1 in
    let is = c.in_ok-denies.ensures.denied in (
      omega arith,
      elim c.if-branch.branch [
        | then-branch+in_ok-insert w ↦
            let new = answered w.in_ok-insert.ensures in
            subst (λ (s : MarkSet). IsSet s B.width (denied_below B S C (m + 1))) (sym w.denied-is)
            (record { width = new.width ∙ before.width; marks = new.marks ∙ denied_step B S C c.loop-m.from m low (marks_of c.loop-m.denied) before.marks (sym w.if-branch.true ∙ is) })
        | else-branch w ↦
            subst (λ (s : MarkSet). IsSet s B.width (denied_below B S C (m + 1))) (sym w.denied-is)
            (record { width = before.width; marks = kept_step B S C c.loop-m.from m low (marks_of c.loop-m.denied) before.marks (sym w.if-branch.false ∙ is) })
      ],
      c.in_ok-denies.ensures.group,
    )

pub returns : goal.returns
returns g c =
    let B = g.B.TermBook.book c.args.book.now in
    let tried = c.args.tried.now in
    let last = c.loop-m.invariant.1 in
    record {
      width = last.width;
      marks =
          last.marks
          ∙ denied_all B (marks_of c.args.at.now) (marks_of tried) c.loop-m.from B.width
          (subst (λ (w : ℕ). OfWidth w (marks_of tried)) c.requires.tried tried.inside) c.in_default.ensures.next;
    }
