use Rattle.std.proofs.Common.{map, sym, ap, ◌∙◌}
use Rattle.std.proofs.lemmas.List.{length-map}
use Rattle.lines.specs.Agendas.{counting}
use Rattle.lines.proofs.Bringing.{brings_in}
use Rattle.lines.proofs.bring.bring_all.Goals as goal

pub returns : goal.returns
returns g c =
    let view = g.L.Line.view c.args.gate.now in
    let xs = c.args.lines.now in
    brings_in c.args.index.now (map view xs) _ c.args.set.now c.of-growth.result c.pass.new.growth c.follow.new.growth
    c.of-growth.ensures.set c.of-growth.ensures.fresh c.of-growth.ensures.stood (c.of.ensures ∙ ap (counting 0) (sym (length-map xs view))) c.pass.ensures c.follow.ensures
