use Rattle.std.proofs.Common.{sym, subst}
use Rattle.host.specs.Host.{HostAnswer}
use Rattle.host.proofs.call.settle_trip.Goals as goal

pub returns : goal.returns
returns c = subst (HostAnswer c.args.file.now c.args.facts.now c.args.out.now c.settle_bytes.new.out) (sym c.number_of.ensures) c.settle_bytes.ensures
