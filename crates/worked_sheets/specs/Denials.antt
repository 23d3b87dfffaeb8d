-- Worked sheets with a line book: denials, and terms that feed fare lines.
use Rattle.std.specs.Prelude.{List, [], ◌∷◌}
use Rattle.lines.specs.declared.term.TermLine.{TermLine}
use Rattle.line_book.specs.Lines.{line_book}
use Rattle.readings.specs.declared.answer.Answer.TheVariants.{Not, Holds, Open, Both}
use Rattle.readings.specs.declared.verdict.Verdict.TheVariants.{Clear, Suspect, Broken}
use Rattle.worked_sheets.specs.Sheets.{Sheet, fare, gives, denied}

abbrev pub excluding_terms : List TermLine
excluding_terms = denied (0 ∷ 1 ∷ []) ∷ []

-- the sheet is suspect, and yet has a sound reading
abbrev pub suspect_with_a_sound_reading : Sheet
suspect_with_a_sound_reading =
    record {
      book = line_book 4 excluding_terms;
      lines = fare 1 [] (2 ∷ []) ∷ fare 2 [] (3 ∷ []) ∷ fare 3 [] (2 ∷ []) ∷ [];
      facts = 0 ∷ [];
      T = 0 ∷ [];
      U = 0 ∷ 2 ∷ 3 ∷ [];
      answers = Holds ∷ Not ∷ Open ∷ Open ∷ [];
      verdict = Suspect;
      rounds = 2;
      steps = (0 ∷ [], 0 ∷ 2 ∷ 3 ∷ []) ∷ (0 ∷ [], 0 ∷ 2 ∷ 3 ∷ []) ∷ [];
      sound = (0 ∷ 2 ∷ []) ∷ [];
    }

abbrev pub denying_terms : List TermLine
denying_terms = gives [] 0 ∷ denied (0 ∷ 1 ∷ []) ∷ []

-- a fare line for a mark that the book denies always
abbrev pub denied_by_the_terms : Sheet
denied_by_the_terms =
    record {
      book = line_book 2 denying_terms;
      lines = fare 1 [] (1 ∷ []) ∷ [];
      facts = [];
      T = 0 ∷ 1 ∷ [];
      U = 0 ∷ [];
      answers = Holds ∷ Both ∷ [];
      verdict = Broken;
      rounds = 3;
      steps = (0 ∷ [], 0 ∷ []) ∷ (0 ∷ 1 ∷ [], 0 ∷ []) ∷ (0 ∷ 1 ∷ [], 0 ∷ []) ∷ [];
      sound = [];
    }

abbrev pub open_terms : List TermLine
open_terms = gives (1 ∷ 3 ∷ []) 5 ∷ denied (0 ∷ 5 ∷ []) ∷ []

-- the book denies 5 at T; it is open all the same, since no fare line has it for its head
abbrev pub denied_but_open : Sheet
denied_but_open =
    record {
      book = line_book 6 open_terms;
      lines = fare 1 [] (2 ∷ []) ∷ fare 2 [] (1 ∷ []) ∷ fare 3 [] (4 ∷ []) ∷ fare 4 [] (3 ∷ []) ∷ [];
      facts = 0 ∷ [];
      T = 0 ∷ [];
      U = 0 ∷ 1 ∷ 2 ∷ 3 ∷ 4 ∷ 5 ∷ [];
      answers = Holds ∷ Open ∷ Open ∷ Open ∷ Open ∷ Open ∷ [];
      verdict = Clear;
      rounds = 2;
      steps = (0 ∷ [], 0 ∷ 1 ∷ 2 ∷ 3 ∷ 4 ∷ 5 ∷ []) ∷ (0 ∷ [], 0 ∷ 1 ∷ 2 ∷ 3 ∷ 4 ∷ 5 ∷ []) ∷ [];
      sound = (0 ∷ 1 ∷ 4 ∷ []) ∷ (0 ∷ 2 ∷ 3 ∷ []) ∷ (0 ∷ 2 ∷ 4 ∷ []) ∷ [];
    }

abbrev pub feeding_terms : List TermLine
feeding_terms = gives (0 ∷ []) 1 ∷ []

-- a fare line fires on a mark that only the book adds
abbrev pub book_feeds_a_line : Sheet
book_feeds_a_line =
    record {
      book = line_book 3 feeding_terms;
      lines = fare 2 (1 ∷ []) [] ∷ [];
      facts = 0 ∷ [];
      T = 0 ∷ 1 ∷ 2 ∷ [];
      U = 0 ∷ 1 ∷ 2 ∷ [];
      answers = Holds ∷ Holds ∷ Holds ∷ [];
      verdict = Clear;
      rounds = 2;
      steps = (0 ∷ 1 ∷ 2 ∷ [], 0 ∷ 1 ∷ 2 ∷ []) ∷ (0 ∷ 1 ∷ 2 ∷ [], 0 ∷ 1 ∷ 2 ∷ []) ∷ [];
      sound = (0 ∷ 1 ∷ 2 ∷ []) ∷ [];
    }

abbrev pub contradicting_terms : List TermLine
contradicting_terms = denied [] ∷ []

-- a book that clashes at the empty set
abbrev pub contradicting_book : Sheet
contradicting_book =
    record {
      book = line_book 3 contradicting_terms;
      lines = fare 1 [] (2 ∷ []) ∷ [];
      facts = 0 ∷ [];
      T = 0 ∷ 1 ∷ 2 ∷ [];
      U = 0 ∷ 1 ∷ 2 ∷ [];
      answers = Holds ∷ Holds ∷ Holds ∷ [];
      verdict = Broken;
      rounds = 2;
      steps = (0 ∷ 1 ∷ 2 ∷ [], 0 ∷ 1 ∷ 2 ∷ []) ∷ (0 ∷ 1 ∷ 2 ∷ [], 0 ∷ 1 ∷ 2 ∷ []) ∷ [];
      sound = [];
    }
