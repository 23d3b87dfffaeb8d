use Rattle.std.proofs.Common.{ap₂}
use Rattle.books.specs.Denials.{some_stands}
use Rattle.books.specs.Denying.{all_where_yes, all_where_not}
use Rattle.line_book.specs.Lines.{grown, denials, line_book}
use Rattle.line_book.specs.Giving.{denial_stands, stands_denial}
use Rattle.line_book.specs.Growing.{grown_is, grown_once, grown_none, line_lawful}
use Rattle.line_book.specs.Seeing.{heads_below}
use Rattle.line_book.proofs.theorems.line_books_say.Goals as goal

pub returns : goal.returns
returns c =
    record {
      says = λ w lines law S s.
          let low = heads_below w lines law in
          let X = grown w lines S in
          record {
            grows = grown_is w lines low S s;
            once = grown_once w lines low S s;
            clashes = (denial_stands lines X, stands_denial lines X);
            all = all_where_yes (some_stands (denials lines) X) w X;
            grown_else = all_where_not (some_stands (denials lines) X) w X;
          };
      lawful = λ w lines law. line_lawful w lines (heads_below w lines law);
      quiet_unfilled = λ w S t. t;
      closure_unfilled = grown_none;
      means = λ b w lines is. ap₂ line_book is.width is.lines_are;
    }
