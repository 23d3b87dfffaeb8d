-- A tariff is lawful in one way at most, so a struct may hold that it is.
use Rattle.std.specs.List.{AllByRecursion-prop}
use Rattle.std.proofs.Props.{props}
use Rattle.lines.specs.Props.{Ascends-prop}
use Rattle.tariff_format.specs.Encoding.{Tariff, LawfulTariff}

pub lawful-prop : (t : Tariff) → IsProp (LawfulTariff t)
lawful-prop t = hlevel (props, AllByRecursion-prop, Ascends-prop)
