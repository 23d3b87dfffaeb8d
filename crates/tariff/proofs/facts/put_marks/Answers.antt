use Rattle.std.proofs.Common.{sym, subst, arith}
use Rattle.marks.specs.MarkSets.{marks_of}
use Rattle.tariff.specs.Facts.{members}
use Rattle.tariff.specs.Numbers.{encode}
use Rattle.tariff.specs.Writings.{Written}
use Rattle.tariff.proofs.Overlays.{written_none, written_more}
use Rattle.tariff.proofs.Turns.{mark_bytes, bytes_next, bytes_all, next_room}
use Rattle.tariff.proofs.facts.put_marks.Goals as goal

pub loop-m-init : goal.loop-m-init
unfolding members
loop-m-init c = (omega arith, written_none c.args.out.now c.args.place)

pub put_number-end-requires : goal.put_number-end-requires
put_number-end-requires c =
    let S = marks_of c.args.facts.now in
    let room = next_room S c.loop-m.at c.in-Some.m c.args.facts.now.width c.in-Some.ensures.next c.in-Some.ensures.within in
    omega (arith, c.requires, c.loop-m.invariant.1.place, c.loop-m.auto.out)

pub loop-m-preserved : goal.loop-m-preserved
loop-m-preserved c =
    let S = marks_of c.args.facts.now in
    let low = c.in-Some.ensures.next in
    let within = c.in-Some.ensures.within in (
      omega arith,
      subst (λ l. Written c.args.out.now c.args.place l c.put_number-end.new.out c.put_number-end.result) (sym (bytes_next S c.loop-m.at c.in-Some.m low))
          (written_more c.args.out.now c.args.place (mark_bytes c.loop-m.at S) (encode c.in-Some.m) (omega (arith, c.requires)) c.loop-m.invariant.1 c.put_number-end.ensures),
    )

pub returns : goal.returns
returns c =
    let S = marks_of c.args.facts.now in
    subst (λ l. Written c.args.out.now c.args.place l c.loop-m.out c.loop-m.end) (sym (bytes_all c.loop-m.at c.args.facts.now.width S c.loop-m.invariant.0 c.in_default.ensures.next)) c.loop-m.invariant.1
