use Rattle.marks.proofs.Sets.{equal_within}
use Rattle.marks.proofs.Words.{held_zeros}
use Rattle.marks.proofs.set.words.no_words.Goals as goal

pub returns : goal.returns
returns c = record { marks = held_zeros 8; inside = λ w m t. absurd (equal_within (held_zeros 8) m t) }
