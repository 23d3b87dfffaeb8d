-- The example keeps the laws of books.
use Rattle.std.specs.Prelude.{ℕ}
use Rattle.marks.specs.Sets.{Marks, OfWidth, ◌∪◌}
use Rattle.marks.proofs.Sets.{both_inside, same_sets}
use Rattle.readings.specs.Books.{Lawful}
use Rattle.readings.proofs.Sets.{join_within, or_left, or_right}
use Rattle.example_book.specs.Always.{always}

pub always_lawful : (w : ℕ) (A : Marks) → OfWidth w A → Lawful (always w A)
always_lawful w A a =
    record {
      of_width = λ S s. both_inside w S A s a;
      extensive = λ S s m t. or_left (S m) (A m) t;
      monotone = λ S S' s s' i.
          join_within S A (S' ∪ A) (λ m t. or_left (S' m) (A m) (i m t)) (λ m t. or_right (S' m) (A m) t);
      idempotent = λ S s. same_sets (join_within (S ∪ A) A (S ∪ A) (λ m t. t) (λ m t. or_right (S m) (A m) t)) (λ m t. or_left ((S ∪ A) m) (A m) t);
      clash_grows = λ S S' s s' i c. c;
      clash_comes_back = λ S s c. c;
      clash_gives_all = λ S s c. absurd c;
    }
