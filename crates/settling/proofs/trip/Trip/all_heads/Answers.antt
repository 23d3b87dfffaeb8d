use Rattle.std.proofs.Common.{◌∙◌, arith}
use Rattle.std.proofs.ByRecursion.{All-more, All-weaker}
use Rattle.marks.specs.MarkSets.{marks_of}
use Rattle.settling.specs.Denials.{HeadIn}
use Rattle.settling.proofs.Denying.{took_in}
use Rattle.settling.proofs.trip.Trip.all_heads.Goals as goal

pub loop-line-preserved : goal.loop-line-preserved
loop-line-preserved g c =
    let l = c.loop-line in
    let t = took_in l.heads c.insert.new.self _ c.insert.result c.insert.ensures in
    let P = HeadIn c.args.self.now.facts.now.width (marks_of c.insert.new.self) in (
      t.width ∙ l.invariant.0,
      (λ m u. t.around m (l.invariant.1 m u)),
      All-more P c.args.self.now.lines.now l.line-index _ c.loop-line-test.true
          (All-weaker (HeadIn c.args.self.now.facts.now.width (marks_of l.heads)) P (λ x h k. t.around x.head (h k)) _ l.invariant.2)
          (λ h. t.mark (let e = l.invariant.0 in omega arith)),
    )
