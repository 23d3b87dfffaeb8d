use Rattle.std.proofs.Common.{rules, tests}
use Rattle.lines.proofs.Told.{rise_told}
use Rattle.lines.proofs.list.ascend.Goals as goal

pub returns : goal.returns
returns c = rise_told c.args.marks.now c.is_sorted_by.result c.is_sorted_by.ensures.cases (λ f a b g k. search (rules, tests))
