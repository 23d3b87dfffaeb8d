use Rattle.std.proofs.Common.{◌/◌, ◌<◌, length, sym, subst, arith}
use Rattle.marks.specs.Sets.{Marks, OfWidth}
use Rattle.marks.proofs.Sets.{without_inside}
use Rattle.marks.proofs.Words.{held_take}
use Rattle.marks.proofs.set.words.take_mark.Goals as goal

pub returns : goal.returns
returns c =
    let ws = c.args.words.now in
    let i : c.args.m / 64 < length ws = omega arith in
    let e = held_take ws c.args.m i in
    record { marks = e; inside = λ w inside. subst (λ (S : Marks). OfWidth w S) (sym e) (without_inside w _ c.args.m inside) }
