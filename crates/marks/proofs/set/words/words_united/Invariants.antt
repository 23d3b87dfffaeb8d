use Rattle.marks.proofs.Joins.{either}
use Rattle.marks.proofs.set.words.words_united.Given as goal

abbrev pub ghost-join_words : goal.ghost-join_words
ghost-join_words a = either
