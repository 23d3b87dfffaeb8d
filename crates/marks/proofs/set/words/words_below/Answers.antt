use Rattle.std.proofs.Common.{rules, ◌≡◌, arith}
use Rattle.std.proofs.lemmas.Bool.{le-ltb}
use Rattle.marks.specs.Sets.{below}
use Rattle.marks.specs.Words.{held}
use Rattle.marks.proofs.Sets.{equal_within}
use Rattle.marks.proofs.Words.{made_held}
use Rattle.marks.proofs.set.words.words_below.Goals as goal

pub returns : goal.returns
returns c =
    let w = c.args.width in
    let e : held c.from_fn.result ≡ below w =
    made_held (below w) c.from_fn.result (λ i v f' call. search rules) c.from_fn.ensures.items (λ m h. le-ltb m w (omega arith)) in
    record { marks = e; inside = equal_within e }
