-- The sets of a sheet have one width: those of a reading have one already.
use Rattle.std.specs.Prelude.{Bool, true, ◌==◌}
use Rattle.marks.specs.declared.set.MarkSet.{MarkSet}
use Rattle.sheet.specs.declared.sheet.State.{State}
use Rattle.sheet.specs.declared.sheet.State.TheVariants.{Unsettled, Settled}

abbrev pub one_width : MarkSet → State → Bool
one_width facts Unsettled = true
one_width facts (Settled R) = R.lower.width == facts.width
