use Rattle.std.proofs.Common.{refl, ap₂}
use Rattle.world_book.specs.Worlds.{world_book}
use Rattle.world_book.specs.Common.{world_says, world_lawful}
use Rattle.world_book.proofs.theorems.world_books_say.Goals as goal

pub returns : goal.returns
returns c =
    record {
      says = world_says;
      lawful = world_lawful;
      clashes_unfilled = λ w S. tt;
      all_unfilled = λ w S. refl;
      means = λ b w worlds is. ap₂ world_book is.width is.worlds;
    }
