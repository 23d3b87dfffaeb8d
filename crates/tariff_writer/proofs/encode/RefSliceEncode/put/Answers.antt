use Rattle.std.proofs.Common.{subst, arith}
use Rattle.std.proofs.ByRecursion.{All-more}
use Rattle.tariff_writer.proofs.Turns.{room_more, written_next}
use Rattle.tariff_writer.proofs.encode.RefSliceEncode.put.Goals as goal

pub put-next-requires : goal.put-next-requires
put-next-requires g c =
    let room = room_more g.E.Encode.bytes c.args.self.now.now c.loop-item.item-index c.item-item.result c.loop-item-test.true c.item-item.is in
    omega (arith, c.requires, c.loop-item.invariant.0.place, c.loop-item.auto.out)

pub loop-item-preserved : goal.loop-item-preserved
loop-item-preserved g c =
    let items = c.args.self.now.now in
    let i = c.loop-item.item-index in
    let item = c.item-item.result in (
      written_next g.E.Encode.bytes items i item c.loop-item-test.true c.item-item.is c.args.out.now c.args.place (omega (arith, c.requires)) c.loop-item.invariant.0 c.put-next.ensures.written,
      All-more g.E.Encode.whole items i item c.loop-item-test.true c.loop-item.invariant.1 (subst g.E.Encode.whole c.item-item.is c.put-next.ensures.whole),
    )
