use Rattle.std.proofs.Common.{take}
use Rattle.std.specs.List.{flat_map, AllByRecursion}
use Rattle.tariff.specs.Writings.{Written}
use Rattle.tariff_writer.proofs.encode.RefSliceEncode.put.Given as goal

abbrev pub invariant-loop-item : goal.invariant-loop-item
invariant-loop-item g l =
    Written l.initial.out l.place (flat_map g.E.Encode.bytes (take l.item-index l.self.now)) l.out l.next × AllByRecursion g.E.Encode.whole (take l.item-index l.self.now)
