use Rattle.marks.proofs.Joins.{first_alone}
use Rattle.marks.proofs.set.words.words_apart.Given as goal

abbrev pub ghost-join_words : goal.ghost-join_words
ghost-join_words a = first_alone
