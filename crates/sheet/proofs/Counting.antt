-- How many marks have an answer: there is one such number.
use Rattle.std.proofs.Common.{◌≡◌, ℕ, true, ◌↔◌, sym, refl, ◌∙◌}
use Rattle.marks.specs.Sets.{Marks, ◌∈◌, ◌∩◌, ◌∖◌, size}
use Rattle.marks.proofs.Sets.{same_test}
use Rattle.marks.proofs.Sizes.{size_same}
use Rattle.readings.specs.Says.{the_answer}
use Rattle.readings.specs.declared.answer.Answer.{Answer}
use Rattle.readings.specs.declared.answer.Answer.TheVariants.{Not, Holds, Open, Both}
use Rattle.readings.proofs.Sets.{both, meet_left, meet_right, less_in, less_left, less_out}
use Rattle.sheet.specs.Looks.{HowMany}
use Rattle.sheet.specs.Theorems.{CountsDecide}

every_mark : Marks
every_mark m = true

-- the marks that have the answer
answering : Answer → (X U : Marks) → Marks
answering Not X U = every_mark ∖ X ∖ U
answering Holds X U = X ∩ U
answering Open X U = U ∖ X
answering Both X U = X ∖ U

answering_says : (a : Answer) (X U : Marks) (m : ℕ) → m ∈ answering a X U ↔ (the_answer a).says X U m
unfolding answering every_mark
answering_says Not X U m = (
  (λ t. (less_out every_mark X m (less_left (every_mark ∖ X) U m t), less_out (every_mark ∖ X) U m t)),
  (λ p. less_in (every_mark ∖ X) U m (less_in every_mark X m tt p.0) p.1),
)
answering_says Holds X U m = ((λ t. (meet_left X U m t, meet_right X U m t)), (λ p. both (X m) (U m) p.0 p.1))
answering_says Open X U m = ((λ t. (less_out U X m t, less_left U X m t)), (λ p. less_in U X m p.1 p.0))
answering_says Both X U m = ((λ t. (less_left X U m t, less_out X U m t)), (λ p. less_in X U m p.0 p.1))

one_number : (w : ℕ) (X U : Marks) (a : Answer) (n n' : ℕ) → HowMany w X U a n → HowMany w X U a n' → n ≡ n'
one_number w X U a n n' p q =
    p.number
    ∙ size_same w p.those q.those
    (λ k l. same_test _ _ (λ t. (q.exactly k l).1 ((p.exactly k l).0 t)) (λ t. (p.exactly k l).1 ((q.exactly k l).0 t)))
    ∙ sym q.number

pub counts_decide : CountsDecide
counts_decide w X U a =
    let here : HowMany w X U a (size w (answering a X U)) =
    record { those = answering a X U; exactly = λ m _. answering_says a X U m; number = refl } in
    record { it = size w (answering a X U); holds = here; only = λ n p. one_number w X U a n _ p here }
