use Rattle.tariff_writer.proofs.Limits.{file_most, largest_proper, largest_reached}
use Rattle.tariff_writer.proofs.theorems.largest_file.Goals as goal

pub returns : goal.returns
returns c = record { most = file_most; proper = largest_proper; reached = largest_reached }
