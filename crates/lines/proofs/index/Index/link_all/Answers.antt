use Rattle.std.proofs.Common.{sym, ◌≡◌, ℕ, ◌+◌, ◌*◌, ◌<◌, List, length, map, Some, refl, ap, ◌∙◌, subst, arith}
use Rattle.std.specs.List.{slice_get}
use Rattle.std.specs.Option.{option_map}
use Rattle.std.proofs.lemmas.List.{length-map}
use Rattle.std.proofs.lemmas.Option.{slice_get_read, slice_get-map}
use Rattle.std.proofs.lemmas.Option.{same_Some}
use Rattle.marks.specs.declared.set.MarkSet.{MarkSet}
use Rattle.marks.specs.MarkSets.{marks_of}
use Rattle.marks.specs.Sets.{◌∈◌}
use Rattle.lines.specs.Slots.{Linked, slot_at}
use Rattle.lines.specs.Passes.{View, conditions_of}
use Rattle.lines.proofs.Indexing.{slots_of, slots_at, list_there, is_index}
use Rattle.lines.proofs.Linking.{linked_none}
use Rattle.lines.proofs.index.Index.link_all.Goals as goal

pub loop-i-init : goal.loop-i-init
loop-i-init g c gate = linked_none _ 512 _

pub loop-i-preserved : goal.loop-i-preserved
loop-i-preserved g c gate =
    let view = g.L.Line.view gate in
    let xs = c.args.lines.now in
    let i = c.loop-i.i in
    let x = c.index-lines-i.result in
    let vs = map view xs in
    let lists = conditions_of vs in
    let item = slice_get_read xs (length xs) i x refl (omega arith) c.index-lines-i.is in
    let line : slice_get vs i ≡ Some (view x) = slice_get-map view xs i ∙ ap (option_map view) item in
    let list : slice_get lists i ≡ Some (view x).conditions = slice_get-map (λ (v : View). v.conditions) vs i ∙ ap (option_map (λ (v : View). v.conditions)) line in
    let at : (j : ℕ) → j < 8 → slots_of lists (8 * i + j) ≡ slot_at (view x).conditions j =
    λ j l. slots_at lists i j l ∙ ap (λ (ms : List ℕ). slot_at ms j) (list_there lists i (view x).conditions list) in
    subst (λ (n : ℕ). Linked (slots_of lists) n c.add.new.self.last c.add.new.self.before) (omega arith)
    (c.add.ensures gate (slots_of lists) at (c.loop-i.invariant gate))

pub returns : goal.returns
returns g c gate =
    let view = g.L.Line.view gate in
    let xs = c.args.lines.now in
    let vs = map view xs in
    let lists = conditions_of vs in
    let n : length lists ≡ length xs = length-map vs (λ (v : View). v.conditions) ∙ length-map xs view in
    is_index _ lists c.loop-i.i (c.loop-i.invariant gate)
    (λ m s e l some. let same = same_Some c.with_slots.result s e in subst (λ (x : MarkSet). m ∈ marks_of x) same (c.with_slots.ensures m (subst (λ (x : MarkSet). m < x.width) (sym same) l) some))
    (λ i r f l. omega arith)
