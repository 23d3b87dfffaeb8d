-- Worked sheets with the world book of the worlds {0, 1} and {0, 2}, without fare lines.
use Rattle.marks.specs.Sets.{among}
use Rattle.std.specs.Prelude.{[], ◌∷◌}
use Rattle.readings.specs.Books.{Book}
use Rattle.readings.specs.declared.answer.Answer.TheVariants.{Not, Holds, Both}
use Rattle.readings.specs.declared.verdict.Verdict.TheVariants.{Clear, Broken}
use Rattle.world_book.specs.Worlds.{world_book}
use Rattle.worked_sheets.specs.Sheets.{Sheet}

abbrev pub two_worlds : Book
two_worlds = world_book 3 (among (0 ∷ 1 ∷ []) ∷ among (0 ∷ 2 ∷ []) ∷ [])

-- both worlds have 0, and nothing else in common
abbrev pub two_worlds_no_facts : Sheet
two_worlds_no_facts =
    record {
      book = two_worlds;
      lines = [];
      facts = [];
      T = 0 ∷ [];
      U = 0 ∷ [];
      answers = Holds ∷ Not ∷ Not ∷ [];
      verdict = Clear;
      rounds = 2;
      steps = (0 ∷ [], 0 ∷ []) ∷ (0 ∷ [], 0 ∷ []) ∷ [];
      sound = (0 ∷ []) ∷ [];
    }

-- one world has the fact
abbrev pub two_worlds_one_fact : Sheet
two_worlds_one_fact =
    record {
      book = two_worlds;
      lines = [];
      facts = 1 ∷ [];
      T = 0 ∷ 1 ∷ [];
      U = 0 ∷ 1 ∷ [];
      answers = Holds ∷ Holds ∷ Not ∷ [];
      verdict = Clear;
      rounds = 2;
      steps = (0 ∷ 1 ∷ [], 0 ∷ 1 ∷ []) ∷ (0 ∷ 1 ∷ [], 0 ∷ 1 ∷ []) ∷ [];
      sound = (0 ∷ 1 ∷ []) ∷ [];
    }

-- no world has both facts
abbrev pub two_worlds_two_facts : Sheet
two_worlds_two_facts =
    record {
      book = two_worlds;
      lines = [];
      facts = 1 ∷ 2 ∷ [];
      T = 0 ∷ 1 ∷ 2 ∷ [];
      U = 0 ∷ [];
      answers = Holds ∷ Both ∷ Both ∷ [];
      verdict = Broken;
      rounds = 2;
      steps = (0 ∷ 1 ∷ 2 ∷ [], 0 ∷ []) ∷ (0 ∷ 1 ∷ 2 ∷ [], 0 ∷ []) ∷ [];
      sound = [];
    }
