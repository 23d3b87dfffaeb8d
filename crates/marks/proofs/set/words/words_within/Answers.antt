use Rattle.std.proofs.Common.{rules, ◌≡◌, ℕ, ◌+◌, ◌*◌, ◌-◌, ◌^◌, ◌/◌, ◌%◌, ◌<◌, ◌≤◌, true, T, ⊎_elim, get_or, sym, subst, arith}
use lib.Bits.{bit_and}
use Rattle.std.proofs.lemmas.Bool.{cases_lt}
use Rattle.marks.proofs.Sets.{fails}
use Rattle.marks.proofs.Words.{held_past, held_word, word_within, word_no_more}
use Rattle.marks.proofs.set.words.words_within.Goals as goal

pub returns : goal.returns
returns c =
    let a = c.args.a.now in
    let b = c.args.b.now in
    let none : c.all.result ≡ true → (i : ℕ) → i < 8 → bit_and (get_or a i 0) (2 ^ 64 - 1 - get_or b i 0) ≡ 0 = search rules in
    let all : ((i : ℕ) → i < 8 → bit_and (get_or a i 0) (2 ^ 64 - 1 - get_or b i 0) ≡ 0) → c.all.result ≡ true = search rules in (
      (λ e m t.
          ⊎_elim (λ (l : m / 64 < 8). word_within (get_or a (m / 64) 0) (get_or b (m / 64) 0) (m % 64) (c.fits-b (m / 64)) (omega arith) (none e (m / 64) l) t)
          (λ (h : 8 ≤ m / 64). absurd (fails (held_past a m (omega arith)) t))
          (cases_lt (m / 64) 8)),
      λ within. all (λ i _. word_no_more (get_or a i 0) (get_or b i 0) (c.fits-a i) (c.fits-b i)
          (λ k l t. subst T (held_word b i k l) (within (64 * i + k) (subst T (sym (held_word a i k l)) t)))),
    )
