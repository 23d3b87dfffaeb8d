use Rattle.std.proofs.Common.{refl}
use Rattle.lines.proofs.Indexing.{none_named}
use Rattle.lines.proofs.index.Index.new.Goals as goal

pub returns : goal.returns
returns g c = none_named _ refl
