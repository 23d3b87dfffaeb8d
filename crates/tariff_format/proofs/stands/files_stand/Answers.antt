use Rattle.std.proofs.Common.{subst}
use Rattle.tariff_format.specs.Answers.{FileAnswer}
use Rattle.tariff_format.proofs.Answering.{right_file, only_file}
use Rattle.tariff_format.proofs.Backs.{file_taken, tidy_same, file_one, written_read, read_written}
use Rattle.tariff_format.proofs.stands.files_stand.Goals as goal

pub returns : goal.returns
returns c = record {
  answer = λ m n bs r bytes. (λ e. subst (FileAnswer m n bs) e (right_file m n bs bytes), only_file m n bs bytes r);
  takes = file_taken;
  tidy = tidy_same;
  back = written_read;
  same = read_written;
  one = file_one;
}
