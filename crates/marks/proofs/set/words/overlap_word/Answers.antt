use Rattle.std.proofs.Common.{arith}
use Rattle.marks.proofs.Overlaps.{word_overlaps}
use Rattle.marks.proofs.set.words.overlap_word.Goals as goal

pub returns : goal.returns
returns c = word_overlaps c.args.a c.args.b c.args.used (omega arith) (omega arith) (omega arith)
