use Rattle.std.proofs.Common.{length, refl, ap, ◌∙◌, arith, length-append}
use Rattle.marks.specs.MarkSets.{marks_of}
use Rattle.tariff.specs.Facts.{members}
use Rattle.tariff.specs.Numbers.{encode}
use Rattle.tariff.proofs.Turns.{mark_bytes, bytes_next, bytes_all}
use Rattle.tariff.proofs.facts.marks_size.Goals as goal

pub loop-m-init : goal.loop-m-init
unfolding members
loop-m-init c = (omega arith, refl, omega arith)

pub loop-m-preserved : goal.loop-m-preserved
loop-m-preserved c =
    let S = marks_of c.args.facts.now in
    let low = c.in-Some.ensures.next in
    let within = c.in-Some.ensures.within in
    let after = low.after in
    let more = ap length (bytes_next S c.loop-m.at c.in-Some.m low) ∙ length-append (mark_bytes c.loop-m.at S) (encode c.in-Some.m) in
    let inv = c.loop-m.invariant in
    let one = c.number_size-total.ensures in
    (omega arith, omega arith, omega arith)

pub returns-clause-exact : goal.returns-clause-exact
returns-clause-exact c =
    let S = marks_of c.args.facts.now in
    let inv = c.loop-m.invariant in
    let all = ap length (bytes_all c.loop-m.at c.args.facts.now.width S inv.0 c.in_default.ensures.next) in
    omega arith
