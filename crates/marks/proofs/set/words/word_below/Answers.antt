use Rattle.std.proofs.Common.{ℕ, ◌+◌, ◌-◌, ◌*◌, sym, ap, ◌∙◌, arith}
use Rattle.std.proofs.lemmas.Nat.{one_shl}
use Rattle.std.proofs.lemmas.Bool.{le-ltb, lt-ltb}
use Rattle.std.proofs.lemmas.Bool.Decides.{nat_tests}
use Rattle.marks.specs.Words.{bit}
use Rattle.marks.proofs.Bits.{bit_zero, bit_run}
use Rattle.marks.proofs.set.words.word_below.Goals as goal

pub returns-then-width-first : goal.returns-then-width-first
returns-then-width-first c = λ k h. bit_zero k ∙ sym (le-ltb (64 * c.args.i + k) c.args.width (omega arith))

pub returns-then-width-first-ge64 : goal.returns-then-width-first-ge64
returns-then-width-first-ge64 c = λ k h.
    bit_run 64 k ∙ lt-ltb k 64 h ∙ sym (lt-ltb (64 * c.args.i + k) c.args.width (omega arith))

pub returns-else-width-first-ge64 : goal.returns-else-width-first-ge64
returns-else-width-first-ge64 c = λ k h.
    let n = c.args.width - 64 * c.args.i in
    ap (λ (x : ℕ). bit (x - 1) k) (one_shl n 64 (omega arith)) ∙ bit_run n k ∙ grind (arith, nat_tests)
