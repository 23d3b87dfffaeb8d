use Rattle.std.proofs.Common.{arith}
use Rattle.tariff_format.proofs.Backs.{written_read, read_written}
use Rattle.tariff_writer.specs.Lent.{the_tariff}
use Rattle.tariff_writer.proofs.Limits.{file_most}
use Rattle.tariff_writer.proofs.lent.Tariff.put_file.Goals as goal

pub returns : goal.returns
returns c =
    let t = the_tariff c.args.self.now in
    let put = c.put.ensures in
    record {
      proper = put.whole;
      file = put.written;
      most = omega (arith, put.written.place, file_most t c.args.self.now.lawful);
      back = λ m k enough room. written_read m k t c.args.out.now _ _ put.whole enough room put.written;
      same = λ m k bs q bytes e. read_written m k bs t q c.args.out.now _ _ bytes e put.written;
    }
