use Rattle.std.proofs.Common.{arith}
use Rattle.tariff_writer.specs.Lent.{the_tariff}
use Rattle.tariff_writer.proofs.Limits.{file_most}
use Rattle.tariff_writer.proofs.lent.Tariff.file_size.Goals as goal

pub size-requires : goal.size-requires
size-requires c = omega (arith, file_most (the_tariff c.args.self.now) c.args.self.now.lawful)

pub returns : goal.returns
returns c = record {
  lawful = c.args.self.now.lawful;
  exact = c.size.ensures;
  most = omega (arith, c.size.ensures, file_most (the_tariff c.args.self.now) c.args.self.now.lawful);
}
