-- Trips under the sample tariff. The marks: 0 the count is at 255, 1 the distance stands, 2 the count is clipped, 3 the count was
-- read, 4 the odometer is wanted.
use Rattle.std.specs.Prelude.{List, [], ◌∷◌}
use Rattle.lines.specs.declared.term.TermLine.{TermLine}
use Rattle.line_book.specs.Lines.{line_book}
use Rattle.readings.specs.Rules.{Rule}
use Rattle.readings.specs.declared.answer.Answer.TheVariants.{Not, Holds, Both}
use Rattle.readings.specs.declared.verdict.Verdict.TheVariants.{Clear, Broken}
use Rattle.worked_sheets.specs.Sheets.{Sheet, fare, gives, denied}

abbrev pub sample_terms : List TermLine
sample_terms = gives (0 ∷ []) 2 ∷ denied (1 ∷ 2 ∷ []) ∷ []

abbrev pub sample_lines : List Rule
sample_lines = fare 1 (3 ∷ []) (2 ∷ []) ∷ fare 4 (3 ∷ []) (1 ∷ []) ∷ []

-- nothing is known of the trip
abbrev pub no_facts : Sheet
no_facts =
    record {
      book = line_book 5 sample_terms;
      lines = sample_lines;
      facts = [];
      T = [];
      U = [];
      answers = Not ∷ Not ∷ Not ∷ Not ∷ Not ∷ [];
      verdict = Clear;
      rounds = 2;
      steps = ([], []) ∷ ([], []) ∷ [];
      sound = [] ∷ [];
    }

-- the count was read, and nothing says that it is clipped: the distance stands
abbrev pub plain_trip : Sheet
plain_trip =
    record {
      book = line_book 5 sample_terms;
      lines = sample_lines;
      facts = 3 ∷ [];
      T = 1 ∷ 3 ∷ [];
      U = 1 ∷ 3 ∷ [];
      answers = Not ∷ Holds ∷ Not ∷ Holds ∷ Not ∷ [];
      verdict = Clear;
      rounds = 3;
      steps = (3 ∷ [], 1 ∷ 3 ∷ 4 ∷ []) ∷ (1 ∷ 3 ∷ [], 1 ∷ 3 ∷ []) ∷ (1 ∷ 3 ∷ [], 1 ∷ 3 ∷ []) ∷ [];
      sound = (1 ∷ 3 ∷ []) ∷ [];
    }

-- the count was read and is at the end of its scale: the odometer is wanted
abbrev pub clipped_trip : Sheet
clipped_trip =
    record {
      book = line_book 5 sample_terms;
      lines = sample_lines;
      facts = 0 ∷ 3 ∷ [];
      T = 0 ∷ 2 ∷ 3 ∷ 4 ∷ [];
      U = 0 ∷ 2 ∷ 3 ∷ 4 ∷ [];
      answers = Holds ∷ Not ∷ Holds ∷ Holds ∷ Holds ∷ [];
      verdict = Clear;
      rounds = 3;
      steps = (0 ∷ 2 ∷ 3 ∷ [], 0 ∷ 2 ∷ 3 ∷ 4 ∷ []) ∷ (0 ∷ 2 ∷ 3 ∷ 4 ∷ [], 0 ∷ 2 ∷ 3 ∷ 4 ∷ []) ∷ (0 ∷ 2 ∷ 3 ∷ 4 ∷ [], 0 ∷ 2 ∷ 3 ∷ 4 ∷ []) ∷ [];
      sound = (0 ∷ 2 ∷ 3 ∷ 4 ∷ []) ∷ [];
    }

-- facts that the book excludes together
abbrev pub contradicting_facts : Sheet
contradicting_facts =
    record {
      book = line_book 5 sample_terms;
      lines = sample_lines;
      facts = 0 ∷ 1 ∷ [];
      T = 0 ∷ 1 ∷ 2 ∷ 3 ∷ 4 ∷ [];
      U = [];
      answers = Both ∷ Both ∷ Both ∷ Both ∷ Both ∷ [];
      verdict = Broken;
      rounds = 2;
      steps = (0 ∷ 1 ∷ 2 ∷ 3 ∷ 4 ∷ [], []) ∷ (0 ∷ 1 ∷ 2 ∷ 3 ∷ 4 ∷ [], []) ∷ [];
      sound = [];
    }
