use Rattle.std.proofs.Common.{◌≡◌, ◌+◌, [], ◌∷◌, ◌++◌, map, take, sym, ap, ◌∙◌, arith}
use Rattle.std.proofs.lemmas.List.{map_more}
use Rattle.marks.specs.declared.set.MarkSet.{MarkSet}
use Rattle.marks.specs.MarkSets.{marks_of}
use Rattle.world_book.specs.Common.{common_step, none_step}
use Rattle.world_book.proofs.worlds.common_marks.Goals as goal

pub loop-world-preserved : goal.loop-world-preserved
loop-world-preserved c =
    let ws = c.args.worlds.now in
    let s = c.args.set.now in
    let i = c.loop-world.world-index in
    let x = c.world-item.result in
    let before = map marks_of (take i ws) in
    let more : map marks_of (take (i + 1) ws) ≡ before ++ marks_of x ∷ [] =
    map_more marks_of ws i x (omega arith) ∙ ap (λ (y : MarkSet). before ++ marks_of y ∷ []) (sym c.world-item.is) in
    let told = c.keep_world.ensures in (
      record {
        width = told.keeps.width ∙ c.loop-world.invariant.0.width;
        marks = common_step s.width (marks_of s) before (marks_of x) more c.loop-world.invariant.0.marks told.holds told.keeps.marks;
      },
      none_step s.width (marks_of s) before (marks_of x) more c.loop-world.invariant.1 told.holds,
    )
