use Rattle.std.proofs.Common.{◌||◌, T, [], map, sym, ◌∙◌, subst, inl, inr}
use mathlib.Core.Bool.{or-false}
use Rattle.lines.specs.Records.{bar_conditions}
use Rattle.readings.proofs.Sets.{or_left, or_right, or_cases}
use Rattle.books.specs.Denials.{some_stands}
use Rattle.books.specs.Denying.{all_where_yes, all_where_not, denying_lawful, which, clashing, quiet}
use Rattle.books.proofs.Barring.{some_bar, bar_some}
use Rattle.books.proofs.theorems.barred_books_say.Goals as goal

pub returns : goal.returns
returns c =
    record {
      says = λ B bars S.
          let C = B.closure S in
          let barring = some_stands (map bar_conditions bars) C in
          record {
            clashes = (
              (λ t. elim (or_cases (B.clash S) barring t) [ inl h ↦ inl h | inr h ↦ inr (some_bar bars C h) ]),
              λ p. elim p [ inl h ↦ or_left (B.clash S) barring h | inr h ↦ or_right (B.clash S) barring (bar_some bars C h) ],
            );
            all = all_where_yes (B.clash S || barring) B.width C;
            below_else = all_where_not (B.clash S || barring) B.width C;
          };
      lawful = λ B bars law. denying_lawful B law (map bar_conditions bars);
      clash_unfilled = λ B S. (subst T (or-false (B.clash S)), subst T (sym (or-false (B.clash S))));
      closure_unfilled = λ B law S s.
          elim (which B law [] S) [
            | clashing t e ↦ e ∙ sym (law.clash_gives_all S s (subst T (or-false (B.clash S)) t))
            | quiet f e ↦ e
          ];
    }
