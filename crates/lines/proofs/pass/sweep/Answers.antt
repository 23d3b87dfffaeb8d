use Rattle.std.proofs.Common.{length, map, ap, ◌∙◌, refl, arith}
use Rattle.std.specs.Option.{option_map}
use Rattle.std.proofs.lemmas.Option.{slice_get_read, slice_get-map, slice_get_past}
use Rattle.lines.proofs.Going.{going_start, going_named, going_past, going_last}
use Rattle.lines.proofs.pass.sweep.Goals as goal

pub loop-i-init : goal.loop-i-init
loop-i-init g c = going_start _ c.args.growth.now

pub loop-i-smaller-then-i-lines : goal.loop-i-smaller-then-i-lines
loop-i-smaller-then-i-lines g c = let e = ap length c.in-Some.ensures in omega arith

pub loop-i-smaller : goal.loop-i-smaller
loop-i-smaller g c = let e = ap length c.in-Some.ensures in omega arith

pub loop-i-preserved-then-i-lines : goal.loop-i-preserved-then-i-lines
loop-i-preserved-then-i-lines g c =
    let view = g.L.Line.view c.args.gate.now in
    let xs = c.args.lines.now in
    let i = c.in-Some.i in
    let x = c.index-lines-i.result in
    let item = slice_get_read xs (length xs) i x refl c.if-i-lines.true c.index-lines-i.is in
    going_named (map view xs) (g.A.Agenda.names c.loop-i.agenda) (g.A.Agenda.names c.next.new.self) i (view x) c.in-Some.ensures
    (slice_get-map view xs i ∙ ap (option_map view) item) c.loop-i.invariant c.take_turn.ensures

pub loop-i-preserved : goal.loop-i-preserved
loop-i-preserved g c =
    let view = g.L.Line.view c.args.gate.now in
    let xs = c.args.lines.now in
    let i = c.in-Some.i in
    going_past (map view xs) (g.A.Agenda.names c.loop-i.agenda) (g.A.Agenda.names c.next.new.self) i c.in-Some.ensures
    (slice_get-map view xs i ∙ ap (option_map view) (slice_get_past xs i c.if-i-lines.false)) c.loop-i.invariant

pub returns : goal.returns
returns g c =
    going_last (map (g.L.Line.view c.args.gate.now) c.args.lines.now) (g.A.Agenda.names c.loop-i.agenda) c.in_default.ensures.0 c.loop-i.invariant
