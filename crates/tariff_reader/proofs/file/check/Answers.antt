use Rattle.std.proofs.Common.{◌≡◌, ℕ, List, length, Ok, sym, subst}
use Rattle.tariff.proofs.Decoding.{bytes_fit}
use Rattle.tariff.specs.Numbers.{Bytes}
use Rattle.tariff_format.specs.Answers.{FileAnswer}
use Rattle.tariff_format.specs.Files.{file_at}
use Rattle.tariff_format.specs.Tidy.{tidy_tariff}
use Rattle.tariff_format.proofs.Answering.{right_file, only_file}
use Rattle.tariff_format.proofs.Backs.{file_taken, tidy_same, read_written}
use Rattle.tariff_reader.specs.Answers.{RightReading}
use Rattle.tariff_reader.proofs.file.check.Goals as goal

right : (m n : ℕ) (bs : List ℕ) → Bytes bs → RightReading m n bs
right m n bs bytes = record {
  answer = λ x. (λ e. subst (FileAnswer m n bs) e (right_file m n bs bytes), only_file m n bs bytes x);
  back = λ t proper fares terms e. (subst (λ l. file_at m n l ≡ Ok (tidy_tariff t, length l)) (sym e) (file_taken m n t proper fares terms), tidy_same t proper);
  same = λ t q out after k e w. read_written m n bs t q out after k bytes e w;
}

pub returns-clause-says : goal.returns-clause-says
returns-clause-says c = right c.args.fares c.args.terms c.args.bytes.now (bytes_fit c.args.bytes.now c.type_inv.bytes)
