-- The tariff that a width and lines in the caller's memory are, held together.
use Rattle.tariff_format.specs.Encoding.{Tariff}
use Rattle.tariff_writer.specs.declared.lent.Tariff as lent
use Rattle.tariff_format.specs.Tariffs.{tariff_of}

abbrev pub the_tariff : lent.Tariff → Tariff
the_tariff t = tariff_of t.width t.fares.now t.terms.now
