use Rattle.std.proofs.Common.{ℕ, List, map, sym, subst}
use Rattle.marks.specs.Sets.{◌∈◌}
use Rattle.marks.specs.MarkSets.{marks_of}
use Rattle.lines.specs.declared.growth.Growth.{Growth}
use Rattle.lines.specs.Agendas.{named}
use Rattle.lines.specs.Indexes.{named_for}
use Rattle.lines.specs.Passes.{Passes}
use Rattle.lines.proofs.Following.{Following, following_start, following_more, following_end, done_more, taken_below}
use Rattle.lines.proofs.bring.follow.Goals as goal

pub loop-m-init : goal.loop-m-init
loop-m-init g c = following_start _ _ c.keep_marked.new.growth

pub loop-m-smaller : goal.loop-m-smaller
loop-m-smaller g c =
    let vs = map (g.L.Line.view c.args.gate.now) c.args.lines.now in
    let is = named_for c.args.index.now c.in-Some.m in
    let passes = subst (λ (is : List ℕ). Passes (named vs is) c.take.new.self c.pass.new.growth) c.touched.ensures c.pass.ensures in
    done_more vs is c.in-Some.m c.loop-m.growth c.take.new.self c.pass.new.growth c.in-Some.ensures passes c.keep_marked.new.growth.set.width
    (taken_below c.in-Some.m c.loop-m.growth c.take.new.self c.in-Some.ensures _ c.loop-m.invariant.grows.width)

pub loop-m-preserved : goal.loop-m-preserved
loop-m-preserved g c =
    let vs = map (g.L.Line.view c.args.gate.now) c.args.lines.now in
    let passes = subst (λ (is : List ℕ). Passes (named vs is) c.take.new.self c.pass.new.growth) c.touched.ensures c.pass.ensures in
    following_more c.args.index.now vs c.in-Some.m c.keep_marked.new.growth c.loop-m.growth c.take.new.self c.pass.new.growth c.in-Some.ensures passes c.loop-m.invariant

pub returns : goal.returns
returns g c =
    let vs = map (g.L.Line.view c.args.gate.now) c.args.lines.now in
    following_end c.args.index.now vs c.args.growth.now c.keep_marked.new.growth c.take.new.self c.keep_marked.ensures
    (subst (Following c.args.index.now vs c.keep_marked.new.growth) (sym c.in_default.ensures.0) c.loop-m.invariant)
    (λ m t. c.in_default.ensures.1 m (subst (λ (x : Growth). m ∈ marks_of x.fresh) c.in_default.ensures.0 t))
