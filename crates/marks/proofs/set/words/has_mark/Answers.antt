use Rattle.std.proofs.Common.{ℕ, ◌/◌, ◌%◌, ◌^◌, eqb, get_or, sym, ap, ◌∙◌, arith}
use Rattle.std.proofs.lemmas.Bool.{le-ltb}
use lib.Bits.{and_mask}
use Rattle.marks.specs.Words.{bit}
use Rattle.marks.proofs.Words.{held_past}
use Rattle.marks.proofs.set.words.has_mark.Goals as goal

pub returns-then-i-lt8 : goal.returns-then-i-lt8
unfolding bit
returns-then-i-lt8 c =
    ap (λ (x : ℕ). eqb x 1) (and_mask (get_or c.args.words.now (c.args.m / 64) 0 / 2 ^ (c.args.m % 64)) 1)

pub returns-else-i-lt8 : goal.returns-else-i-lt8
returns-else-i-lt8 c = le-ltb (c.args.m / 64) 8 (omega arith) ∙ sym (held_past c.args.words.now c.args.m (omega arith))
