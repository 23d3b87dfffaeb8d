use Rattle.std.proofs.Common.{◌/◌, ◌<◌, length, sym, subst, arith}
use Rattle.marks.specs.Sets.{Marks, OfWidth}
use Rattle.marks.proofs.Sets.{with_inside}
use Rattle.marks.proofs.Words.{held_put}
use Rattle.marks.proofs.set.words.put_mark.Goals as goal

pub returns : goal.returns
returns c =
    let ws = c.args.words.now in
    let i : c.args.m / 64 < length ws = omega arith in
    let e = held_put ws c.args.m i in
    record { marks = e; inside = λ w l inside. subst (λ (S : Marks). OfWidth w S) (sym e) (with_inside w _ c.args.m l inside) }
