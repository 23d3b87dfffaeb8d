-- Each worked sheet, by computing it.
use Rattle.std.proofs.Common.{true, [], ◌∷◌, sym, refl, subst, inl, inr}
use mathlib.Core.List.Memᴰ
use Rattle.line_book.specs.Lines.{line_book}
use Rattle.marks.specs.Sets.{no_marks, ◌∪◌, among}
use Rattle.readings.specs.Books.{Lawful}
use Rattle.readings.specs.Rules.{Rule, line, stands, SomeIn}
use Rattle.readings.specs.WellFounded.{Unfounded}
use Rattle.readings.proofs.WellFounded.{bare_lawful}
use Rattle.world_book.specs.Common.{world_lawful}
use Rattle.worked_sheets.specs.Outcomes.{Worked, BookSays, YieldsAre}
use Rattle.worked_sheets.specs.Denials as denials
use Rattle.worked_sheets.specs.Loops as loops
use Rattle.worked_sheets.specs.Trips as trips
use Rattle.worked_sheets.specs.Worlds as worlds
use Rattle.worked_sheets.proofs.Fitting.{lines_lawful}
use Rattle.worked_sheets.proofs.Stepping.{yields_are}
use Rattle.worked_sheets.proofs.Working.{worked, says}

sample : Lawful (line_book 5 trips.sample_terms)
sample = lines_lawful 5 trips.sample_terms tt

pub worlds_lawful : Lawful worlds.two_worlds
worlds_lawful = world_lawful 3 (among (0 ∷ 1 ∷ []) ∷ among (0 ∷ 2 ∷ []) ∷ [])

pub no_facts : Worked trips.no_facts
no_facts = worked trips.no_facts sample (record { within = tt; sets = tt; settled = refl; verdict = refl; answers = tt; all_answers = refl; steps = tt; all_steps = refl; sound = tt; others = tt })

pub plain_trip : Worked trips.plain_trip
plain_trip = worked trips.plain_trip sample (record { within = tt; sets = tt; settled = refl; verdict = refl; answers = tt; all_answers = refl; steps = tt; all_steps = refl; sound = tt; others = tt })

pub clipped_trip : Worked trips.clipped_trip
clipped_trip = worked trips.clipped_trip sample (record { within = tt; sets = tt; settled = refl; verdict = refl; answers = tt; all_answers = refl; steps = tt; all_steps = refl; sound = tt; others = tt })

pub contradicting_facts : Worked trips.contradicting_facts
contradicting_facts = worked trips.contradicting_facts sample (record { within = tt; sets = tt; settled = refl; verdict = refl; answers = tt; all_answers = refl; steps = tt; all_steps = refl; sound = tt; others = tt })

pub mutual_exceptions : Worked loops.mutual_exceptions
mutual_exceptions = worked loops.mutual_exceptions (bare_lawful 2) (record { within = tt; sets = tt; settled = refl; verdict = refl; answers = tt; all_answers = refl; steps = tt; all_steps = refl; sound = tt; others = tt })

pub positive_loop : Worked loops.positive_loop
positive_loop = worked loops.positive_loop (bare_lawful 2) (record { within = tt; sets = tt; settled = refl; verdict = refl; answers = tt; all_answers = refl; steps = tt; all_steps = refl; sound = tt; others = tt })

pub odd_loop : Worked loops.odd_loop
odd_loop = worked loops.odd_loop (bare_lawful 1) (record { within = tt; sets = tt; settled = refl; verdict = refl; answers = tt; all_answers = refl; steps = tt; all_steps = refl; sound = tt; others = tt })

pub suspect_with_a_sound_reading : Worked denials.suspect_with_a_sound_reading
suspect_with_a_sound_reading = worked denials.suspect_with_a_sound_reading (lines_lawful 4 denials.excluding_terms tt) (record { within = tt; sets = tt; settled = refl; verdict = refl; answers = tt; all_answers = refl; steps = tt; all_steps = refl; sound = tt; others = tt })

pub denied_by_the_terms : Worked denials.denied_by_the_terms
denied_by_the_terms = worked denials.denied_by_the_terms (lines_lawful 2 denials.denying_terms tt) (record { within = tt; sets = tt; settled = refl; verdict = refl; answers = tt; all_answers = refl; steps = tt; all_steps = refl; sound = tt; others = tt })

pub denied_but_open : Worked denials.denied_but_open
denied_but_open = worked denials.denied_but_open (lines_lawful 6 denials.open_terms tt) (record { within = tt; sets = tt; settled = refl; verdict = refl; answers = tt; all_answers = refl; steps = tt; all_steps = refl; sound = tt; others = tt })

pub book_feeds_a_line : Worked denials.book_feeds_a_line
book_feeds_a_line = worked denials.book_feeds_a_line (lines_lawful 3 denials.feeding_terms tt) (record { within = tt; sets = tt; settled = refl; verdict = refl; answers = tt; all_answers = refl; steps = tt; all_steps = refl; sound = tt; others = tt })

pub contradicting_book : Worked denials.contradicting_book
contradicting_book = worked denials.contradicting_book (lines_lawful 3 denials.contradicting_terms tt) (record { within = tt; sets = tt; settled = refl; verdict = refl; answers = tt; all_answers = refl; steps = tt; all_steps = refl; sound = tt; others = tt })

pub two_worlds_no_facts : Worked worlds.two_worlds_no_facts
two_worlds_no_facts = worked worlds.two_worlds_no_facts worlds_lawful (record { within = tt; sets = tt; settled = refl; verdict = refl; answers = tt; all_answers = refl; steps = tt; all_steps = refl; sound = tt; others = tt })

pub two_worlds_one_fact : Worked worlds.two_worlds_one_fact
two_worlds_one_fact = worked worlds.two_worlds_one_fact worlds_lawful (record { within = tt; sets = tt; settled = refl; verdict = refl; answers = tt; all_answers = refl; steps = tt; all_steps = refl; sound = tt; others = tt })

pub two_worlds_two_facts : Worked worlds.two_worlds_two_facts
two_worlds_two_facts = worked worlds.two_worlds_two_facts worlds_lawful (record { within = tt; sets = tt; settled = refl; verdict = refl; answers = tt; all_answers = refl; steps = tt; all_steps = refl; sound = tt; others = tt })

-- what is said of some of them besides

pub facts_clash : BookSays (trips.contradicting_facts).book (0 ∷ 1 ∷ 2 ∷ 3 ∷ 4 ∷ []) (0 ∷ 1 ∷ 2 ∷ 3 ∷ 4 ∷ []) true
facts_clash = says (trips.contradicting_facts).book sample (0 ∷ 1 ∷ 2 ∷ 3 ∷ 4 ∷ []) (0 ∷ 1 ∷ 2 ∷ 3 ∷ 4 ∷ []) true tt tt refl

pub loop_unfounded : Unfounded 2 (loops.positive_loop).lines no_marks no_marks no_marks (among (0 ∷ 1 ∷ []))
loop_unfounded r (line i) h =
    elim (Memᴰ.cases_cons i) [
      | inl e ↦ inl (subst (λ (q : Rule). SomeIn q.conditions (no_marks ∪ among (0 ∷ 1 ∷ []))) (sym e) (1, Memᴰ.head refl, tt))
      | inr j ↦ inl (subst (λ (q : Rule). SomeIn q.conditions (no_marks ∪ among (0 ∷ 1 ∷ []))) (sym (Memᴰ.eq_of_singleton j)) (0, Memᴰ.head refl, tt))
    ]
loop_unfounded r (stands t) h = absurd t

pub suspect_yields : YieldsAre denials.suspect_with_a_sound_reading (0 ∷ []) (0 ∷ 1 ∷ 2 ∷ 3 ∷ []) (0 ∷ 2 ∷ 3 ∷ [])
suspect_yields =
    yields_are denials.suspect_with_a_sound_reading suspect_with_a_sound_reading.fit (0 ∷ []) (0 ∷ 1 ∷ 2 ∷ 3 ∷ []) (0 ∷ 2 ∷ 3 ∷ []) tt tt

pub open_clash : BookSays (denials.denied_but_open).book (0 ∷ 1 ∷ 2 ∷ 3 ∷ 4 ∷ 5 ∷ []) (0 ∷ 1 ∷ 2 ∷ 3 ∷ 4 ∷ 5 ∷ []) true
open_clash =
    says (denials.denied_but_open).book denied_but_open.fit.lawful (0 ∷ 1 ∷ 2 ∷ 3 ∷ 4 ∷ 5 ∷ []) (0 ∷ 1 ∷ 2 ∷ 3 ∷ 4 ∷ 5 ∷ []) true tt tt refl

pub book_clash : BookSays (denials.contradicting_book).book [] (0 ∷ 1 ∷ 2 ∷ []) true
book_clash = says (denials.contradicting_book).book contradicting_book.fit.lawful [] (0 ∷ 1 ∷ 2 ∷ []) true tt tt refl
