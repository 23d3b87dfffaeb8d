use Rattle.std.proofs.Common.{◌≡◌, ◌+◌, ◌/◌, ◌%◌, ◌^◌, ◌<◌, ◌≤◌, get_or, ⊎_elim, arith, ltb→lt}
use lib.Count.{count_trailing_zeros}
use Rattle.std.proofs.lemmas.Bool.{cases_lt}
use Rattle.marks.specs.Sets.{◌∈◌}
use Rattle.marks.specs.Words.{held}
use Rattle.marks.proofs.Sets.{holds, fails}
use Rattle.marks.proofs.Words.{none_left, lead_is, lead_first}
use Rattle.marks.proofs.set.MarkSet.next_mark.Goals as goal

pub returns-then-rest-ne0 : goal.returns-then-rest-ne0
returns-then-rest-ne0 c =
    let ws = c.args.self.now.words in
    let from = c.loop-from.from in
    let small : get_or ws (from / 64) 0 < 2 ^ 64 = omega arith in
    let some : 0 < get_or ws (from / 64) 0 / 2 ^ (from % 64) = omega arith in
    let t = count_trailing_zeros 64 (get_or ws (from / 64) 0 / 2 ^ (from % 64)) in
    let is : from + t ∈ held ws = holds (lead_is ws from small some) in
    record {
      next = record {
        after = omega arith;
        held = is;
        first = λ k h l. ⊎_elim (λ b. c.loop-from.invariant.1 k h b) (λ (g : from ≤ k). fails (lead_first ws from small some k g l)) (cases_lt k from);
      };
      within = ltb→lt (from + t) c.args.self.now.width (c.args.self.now.inside (from + t) is);
    }

pub loop-from-preserved : goal.loop-from-preserved
loop-from-preserved c =
    let ws = c.args.self.now.words in
    let from = c.loop-from.from in
    let z : get_or ws (from / 64) 0 / 2 ^ (from % 64) ≡ 0 = omega arith in
    ((omega arith), λ k h l. ⊎_elim (λ b. c.loop-from.invariant.1 k h b) (λ (g : from ≤ k). fails (none_left ws from k z g l)) (cases_lt k from))
