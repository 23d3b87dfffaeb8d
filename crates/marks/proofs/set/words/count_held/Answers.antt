use Rattle.std.proofs.Common.{rules, ◌≡◌, ◌<◌, ◌^◌, ◌*◌, length, sum_by, ◌∙◌, ap, arith, ℕ}
use lib.Count.{ones}
use Rattle.marks.specs.Sets.{size}
use Rattle.marks.specs.Words.{held}
use Rattle.marks.proofs.Sizes.{size_le}
use Rattle.marks.proofs.Words.{ones_held}
use Rattle.marks.proofs.set.words.count_held.Goals as goal

pub sum-requires-clause-fits : goal.sum-requires-clause-fits
sum-requires-clause-fits c =
    let ws = c.args.words.now in
    let e = ones_held ws c.fits-words in
    let n = size_le (64 * length ws) (held ws) in
    let few : sum_by ones ws < 2 ^ 16 = omega arith in
    (search rules)

pub returns : goal.returns
returns c =
    let ws = c.args.words.now in
    let ones : c.sum.result ≡ sum_by ones ws = search rules in
    let all : 64 * length ws ≡ 512 = omega arith in
    ones ∙ ones_held ws c.fits-words ∙ ap (λ (n : ℕ). size n (held ws)) all
