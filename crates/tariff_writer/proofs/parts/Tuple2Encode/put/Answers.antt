use Rattle.std.proofs.Common.{arith}
use Rattle.tariff.proofs.Overlays.{written_more}
use Rattle.tariff_writer.proofs.parts.Tuple2Encode.put.Goals as goal

pub returns-clause-written : goal.returns-clause-written
returns-clause-written g c = written_more c.args.out.now c.args.place _ _ (omega (arith, c.requires)) c.put-place.ensures.written c.put.ensures.written
