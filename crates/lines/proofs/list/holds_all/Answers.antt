use Rattle.std.proofs.Common.{rules, tests}
use Rattle.std.proofs.lemmas.Iterator.{YieldsList-from_slice}
use Rattle.std.proofs.lemmas.Iterator.Search.{all_from_yields_List}
use Rattle.marks.specs.MarkSets.{marks_of}
use Rattle.lines.proofs.Told.{all_told}
use Rattle.lines.proofs.list.holds_all.Goals as goal

pub returns : goal.returns
returns c =
    all_told (marks_of c.args.set.now) c.args.marks.now c.all.result
    (all_from_yields_List _ _ _ _ c.all.ensures.ran (YieldsList-from_slice c.args.marks.now cc) (λ x b q k. search (rules, tests)))
