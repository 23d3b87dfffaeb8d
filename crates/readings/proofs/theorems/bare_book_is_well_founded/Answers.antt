use Rattle.readings.proofs.WellFounded.{bare_lawful, reading_model, one_model}
use Rattle.readings.proofs.theorems.bare_book_is_well_founded.Goals as goal

pub returns : goal.returns
returns c = record { lawful = bare_lawful; model = λ w lines facts fit T U. reading_model fit; once = λ w lines facts. one_model }
