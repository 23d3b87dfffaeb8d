-- The number of each reason to refuse a host call.
use Rattle.std.specs.Prelude.{ℕ}
use Rattle.marks.specs.Refusals.{number}
use Rattle.marks.specs.declared.refusal.Refusal.TheVariants.{OutputShort}
use Rattle.tariff_format.specs.Faults.{the_file_fault}
use Rattle.host.specs.declared.refused.Refused.{Refused}
use Rattle.host.specs.declared.refused.Refused.TheVariants.{File, Facts, Output}

abbrev pub refused_number : Refused → ℕ
refused_number (File f) = (the_file_fault f).number
refused_number (Facts f) = number f.refusal
refused_number Output = number OutputShort
