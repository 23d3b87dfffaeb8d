use Rattle.marks.proofs.Joins.{both}
use Rattle.marks.proofs.set.words.words_shared.Given as goal

abbrev pub ghost-join_words : goal.ghost-join_words
ghost-join_words a = both
