-- Worked sheets with the bare book: fare lines that go round in a loop.
use Rattle.std.specs.Prelude.{[], ◌∷◌}
use Rattle.readings.specs.WellFounded.{bare}
use Rattle.readings.specs.declared.answer.Answer.TheVariants.{Not, Open}
use Rattle.readings.specs.declared.verdict.Verdict.TheVariants.{Clear}
use Rattle.worked_sheets.specs.Sheets.{Sheet, fare}

-- each of two marks is so unless the other is: one of them, and not both
abbrev pub mutual_exceptions : Sheet
mutual_exceptions =
    record {
      book = bare 2;
      lines = fare 0 [] (1 ∷ []) ∷ fare 1 [] (0 ∷ []) ∷ [];
      facts = [];
      T = [];
      U = 0 ∷ 1 ∷ [];
      answers = Open ∷ Open ∷ [];
      verdict = Clear;
      rounds = 1;
      steps = ([], 0 ∷ 1 ∷ []) ∷ [];
      sound = (0 ∷ []) ∷ (1 ∷ []) ∷ [];
    }

-- each of two marks is so if the other is: neither is
abbrev pub positive_loop : Sheet
positive_loop =
    record {
      book = bare 2;
      lines = fare 0 (1 ∷ []) [] ∷ fare 1 (0 ∷ []) [] ∷ [];
      facts = [];
      T = [];
      U = [];
      answers = Not ∷ Not ∷ [];
      verdict = Clear;
      rounds = 2;
      steps = ([], []) ∷ ([], []) ∷ [];
      sound = [] ∷ [];
    }

-- a mark that is so unless it is: the sheet is clear and has no sound reading
abbrev pub odd_loop : Sheet
odd_loop =
    record {
      book = bare 1;
      lines = fare 0 [] (0 ∷ []) ∷ [];
      facts = [];
      T = [];
      U = 0 ∷ [];
      answers = Open ∷ [];
      verdict = Clear;
      rounds = 1;
      steps = ([], 0 ∷ []) ∷ [];
      sound = [];
    }
