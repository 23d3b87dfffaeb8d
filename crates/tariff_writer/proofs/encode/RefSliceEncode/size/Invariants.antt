use Rattle.std.proofs.Common.{◌≡◌, length, take}
use Rattle.std.specs.List.{flat_map}
use Rattle.tariff_writer.proofs.encode.RefSliceEncode.size.Given as goal

abbrev pub invariant-loop-item : goal.invariant-loop-item
invariant-loop-item g l = l.total ≡ length (flat_map g.E.Encode.bytes (take l.item-index l.self.now))
