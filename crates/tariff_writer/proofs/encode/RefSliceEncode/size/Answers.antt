use Rattle.std.proofs.Common.{arith}
use Rattle.tariff_writer.proofs.Turns.{room_more}
use Rattle.tariff_writer.proofs.encode.RefSliceEncode.size.Goals as goal

pub size-total-requires : goal.size-total-requires
size-total-requires g c =
    let room = room_more g.E.Encode.bytes c.args.self.now.now c.loop-item.item-index c.item-item.result c.loop-item-test.true c.item-item.is in
    omega (arith, c.requires)

pub overflow_add-total : goal.overflow_add-total
overflow_add-total g c =
    let room = room_more g.E.Encode.bytes c.args.self.now.now c.loop-item.item-index c.item-item.result c.loop-item-test.true c.item-item.is in
    omega (arith, c.requires, c.loop-item.invariant, c.size-total.ensures)
