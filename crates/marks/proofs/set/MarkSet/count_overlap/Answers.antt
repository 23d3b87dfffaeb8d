use Rattle.std.proofs.Common.{ℕ, ◌*◌, sym, subst, arith}
use Rattle.marks.specs.Sets.{below, OfWidth}
use Rattle.marks.specs.Words.{held}
use Rattle.marks.proofs.Overlaps.{overlaps_none, overlaps_few, overlaps_more, overlaps_all}
use Rattle.marks.proofs.Words.{held_word}
use Rattle.marks.proofs.set.MarkSet.count_overlap.Goals as goal

pub loop-i-init : goal.loop-i-init
loop-i-init c = overlaps_none (below c.args.self.now.width) (held c.args.self.now.words) (held c.args.other.now.words)

pub overflow_add-total : goal.overflow_add-total
overflow_add-total c =
    let so_far = overlaps_few _ _ _ _ _ c.loop-i.invariant in
    let word = overlaps_few _ _ _ _ _ c.overlap_word-word.ensures in
    omega arith

pub overflow_add-total-in-loop-i : goal.overflow_add-total-in-loop-i
overflow_add-total-in-loop-i c =
    let so_far = overlaps_few _ _ _ _ _ c.loop-i.invariant in
    let word = overlaps_few _ _ _ _ _ c.overlap_word-word.ensures in
    omega arith

pub overflow_add-total-in-loop-i-2 : goal.overflow_add-total-in-loop-i-2
overflow_add-total-in-loop-i-2 c =
    let so_far = overlaps_few _ _ _ _ _ c.loop-i.invariant in
    let word = overlaps_few _ _ _ _ _ c.overlap_word-word.ensures in
    omega arith

pub overflow_add-total-in-loop-i-3 : goal.overflow_add-total-in-loop-i-3
overflow_add-total-in-loop-i-3 c =
    let so_far = overlaps_few _ _ _ _ _ c.loop-i.invariant in
    let word = overlaps_few _ _ _ _ _ c.overlap_word-word.ensures in
    omega arith

pub loop-i-preserved : goal.loop-i-preserved
loop-i-preserved c =
    let i = c.loop-i.i in
    overlaps_more i _ _ _ _ _ _ c.loop-i.total c.overlap_word-word.result
    (λ k l. sym (c.word_below.ensures k l)) (held_word c.args.self.now.words i) (held_word c.args.other.now.words i)
    c.loop-i.invariant c.overlap_word-word.ensures

pub returns : goal.returns
returns c = overlaps_all c.args.self.now.width (64 * c.loop-i.i) _ _ _ (omega arith) c.args.self.now.inside
    (subst (λ (w : ℕ). OfWidth w (held c.args.other.now.words)) c.requires c.args.other.now.inside) c.loop-i.invariant
