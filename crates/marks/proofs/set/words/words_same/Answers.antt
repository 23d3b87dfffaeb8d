use Rattle.std.proofs.Common.{rules, ◌≡◌, arith, ap}
use Rattle.std.proofs.lemmas.List.{ext_get_or}
use Rattle.marks.specs.Words.{held}
use Rattle.marks.proofs.Words.{words_same}
use Rattle.marks.proofs.set.words.words_same.Goals as goal

pub returns : goal.returns
returns c =
    let a = c.args.a.now in
    let b = c.args.b.now in (
      (λ e. let same : a ≡ b = search rules in ap held same),
      λ h. let same : a ≡ b = ext_get_or 0 a b (omega arith) (λ i _. words_same a b i (c.fits-a i) (c.fits-b i) h) in (search rules),
    )
