-- A refused test is an outcome of the host call.
use Rattle.std.proofs.Common.{ℕ, ◌+◌, List, length, Err, refl}
use Rattle.host.specs.declared.refused.Refused.{Refused}
use Rattle.host.specs.declared.refused.Refused.TheVariants.{File, Facts, Output}
use Rattle.tariff_format.specs.Encoding.{Tariff}
use Rattle.host.specs.Host.{HostAnswer, file_refused, facts_refused, output_short}
use Rattle.host.specs.Refused.{refused_number}
use Rattle.host.specs.Steps.{Tested}

pub refused_outcome : (file facts before : List ℕ) (t : Tariff) (f : Refused) → Tested file facts (length before) t (Err f)
    → HostAnswer file facts before before (100 + refused_number f)
refused_outcome file facts before t (File f) x = file_refused f x (record { number = refl; unchanged = refl })
refused_outcome file facts before t (Facts f) x = facts_refused t f x.0 x.1 (record { number = refl; unchanged = refl })
refused_outcome file facts before t Output x = output_short t x.1.marks x.0 x.1.are x.2 (record { number = refl; unchanged = refl })
