-- The operations on words by which two sets are joined.
use Rattle.std.proofs.Common.{◌-◌, ◌^◌, Bool, not, ◌&&◌, ◌||◌, refl, ap, ◌∙◌}
use lib.Bits.{bit_and, bit_or}
use Rattle.marks.specs.Joins.{BitOp}
use Rattle.marks.specs.Words.{bit}
use Rattle.marks.proofs.Bits.{bit_of_and, bit_of_or, bit_not}

abbrev pub either : BitOp
either = record { word = bit_or; on = λ x y. x || y; bits = λ a b k _ _ _. bit_of_or a b k; none = refl }

abbrev pub both : BitOp
both = record { word = bit_and; on = λ x y. x && y; bits = λ a b k _ _ _. bit_of_and a b k; none = refl }

abbrev pub first_alone : BitOp
first_alone = record {
  word = λ a b. bit_and a (2 ^ 64 - 1 - b);
  on = λ x y. x && not y;
  bits = λ a b k _ h l. bit_of_and a (2 ^ 64 - 1 - b) k ∙ ap (λ (x : Bool). bit a k && x) (bit_not b k h l);
  none = refl;
}
