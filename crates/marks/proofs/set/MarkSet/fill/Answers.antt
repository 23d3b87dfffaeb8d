use Rattle.std.proofs.Common.{rules, ◌≤◌, length, get_or, inr, ap, ◌∙◌, take_all, arith}
use Rattle.std.proofs.lemmas.List.{get_or_default}
use Rattle.marks.specs.MarkSets.{marks_of, IsSet}
use Rattle.marks.specs.Sets.{among, with_mark}
use Rattle.marks.proofs.Sets.{among_more}
use Rattle.marks.proofs.set.MarkSet.fill.Goals as goal

pub loop-m-preserved : goal.loop-m-preserved
loop-m-preserved c =
    let ms = c.args.marks.now in
    let i = c.loop-m.m-index in
    let so_far = c.loop-m.invariant.is_set in
    let more : IsSet c.insert.new.self c.loop-m.self.width (with_mark (marks_of c.loop-m.self) (get_or ms i 0)) = search rules in
    record {
      is_set = record {
        width = more.width ∙ so_far.width;
        marks = more.marks ∙ ap (λ X. with_mark X (get_or ms i 0)) so_far.marks ∙ among_more ms i c.loop-m-test.true;
      };
      lie_below = search rules;
    }

pub returns : goal.returns
returns c =
    let ms = c.args.marks.now in
    let all_in = c.loop-m.invariant.is_set in
    let all : length ms ≤ c.loop-m.m-index = omega arith in
    inr (
      (λ (k, m, h, at, high). let e = get_or_default ms k m 0 h in let low = c.loop-m.invariant.lie_below k (omega arith) in omega arith),
      record { width = all_in.width; marks = all_in.marks ∙ ap among (take_all c.loop-m.m-index ms all) },
    )
