use Rattle.std.proofs.Common.{subst}
use Rattle.tariff.specs.Faults.{NumberAnswer}
use Rattle.tariff.proofs.Answering.{right_answer, only_answer}
use Rattle.tariff.proofs.Decoding.{decode_encode, encode_decode}
use Rattle.tariff.proofs.Spelling.{encode_spells, spells_encode}
use Rattle.tariff.proofs.stands.numbers_stand.Goals as goal

pub returns : goal.returns
returns c = record {
  spells = encode_spells;
  only = λ n ds small bytes s. spells_encode n small ds bytes s;
  back = decode_encode;
  was = encode_decode;
  answer = λ low high least bs p r bytes. (
    λ e. subst (NumberAnswer low high least bs p) e (right_answer low high least bs p bytes),
    only_answer low high least bs p r,
  );
}
