use Rattle.std.proofs.Common.{map, inl, inr}
use Rattle.marks.specs.MarkSets.{marks_of}
use Rattle.lines.proofs.Bringing.{brings_on}
use Rattle.lines.proofs.bring.bring_on.Goals as goal

pub returns : goal.returns
returns g c =
    elim c.in_ok-growth.ensures [
      | inl f ↦ absurd f.1
      | inr is ↦
          inr (
            is.0,
            brings_on c.args.index.now (map (g.L.Line.view c.args.gate.now) c.args.lines.now) (marks_of c.args.done.now) c.args.set.now
                c.in_ok-growth.growth c.follow.new.growth is.1.0 is.1.1 is.1.2 c.follow.ensures,
          )
    ]
