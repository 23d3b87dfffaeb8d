use Rattle.std.proofs.Common.{rules, ◌≡◌, get_or, sym, ap, ◌∙◌, ap₂, subst, arith}
use Rattle.marks.specs.Joins.{joined}
use Rattle.marks.specs.Sets.{Marks, OfWidth}
use Rattle.marks.specs.Words.{bit, held}
use Rattle.marks.proofs.Sets.{joined_inside}
use Rattle.marks.proofs.Words.{held_past, held_word, made_held}
use Rattle.marks.proofs.set.words.join_words.Goals as goal

pub returns : goal.returns
returns g c =
    let a = c.args.a.now in
    let b = c.args.b.now in
    let on = g.by.on in
    let e : held c.from_fn.result ≡ joined on (held a) (held b) =
    made_held (joined on (held a) (held b)) c.from_fn.result
    (λ i v f' call. (
      search rules,
      λ k l. ap (λ x. bit x k) (c.requires.1.1 (get_or a i 0) (get_or b i 0) v (c.fits-a i) (c.fits-b i) (search rules))
          ∙ g.by.bits (get_or a i 0) (get_or b i 0) k (c.fits-a i) (c.fits-b i) l
          ∙ sym (ap₂ on (held_word a i k l) (held_word b i k l)),
    ))
    c.from_fn.ensures.items
    (λ m h. ap₂ on (held_past a m (omega arith)) (held_past b m (omega arith)) ∙ g.by.none) in
    record { marks = e; inside = λ w f h. subst (λ (S : Marks). OfWidth w S) (sym e) (joined_inside on g.by.none w (held a) (held b) f h) }
