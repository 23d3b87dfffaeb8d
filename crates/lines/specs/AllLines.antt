-- The lines that are left of all lines of a slice.
use Rattle.std.specs.Prelude.{ℕ, ◌-◌, List}
use Rattle.lines.specs.Agendas.{counting}
use Rattle.lines.specs.declared.agenda.AllLines.{AllLines}

abbrev pub left_in : AllLines → List ℕ
left_in a = counting a.from (a.end - a.from)
