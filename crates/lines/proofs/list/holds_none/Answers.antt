use Rattle.std.proofs.Common.{rules, tests}
use Rattle.std.proofs.lemmas.Iterator.{YieldsList-from_slice}
use Rattle.std.proofs.lemmas.Iterator.Search.{any_from_yields_List}
use Rattle.marks.specs.MarkSets.{marks_of}
use Rattle.lines.proofs.Told.{none_told}
use Rattle.lines.proofs.list.holds_none.Goals as goal

pub returns : goal.returns
returns c =
    none_told (marks_of c.args.set.now) c.args.marks.now c.any.result
    (any_from_yields_List _ _ _ _ c.any.ensures.ran (YieldsList-from_slice c.args.marks.now cc) (λ x b q k. search (rules, tests)))
