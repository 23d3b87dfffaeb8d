-- What is proved of the worked sheets of docs/EXAMPLES.md, by the definitions of readings and of books. The statement stands in
-- the contract of a function, so that its proof is asked for.
use Rattle.std.specs.Prelude.{true, false, [], ◌∷◌}
use Rattle.marks.specs.Sets.{no_marks, among}
use Rattle.readings.specs.Books.{Denied}
use Rattle.readings.specs.WellFounded.{Unfounded}
use Rattle.worked_sheets.specs.Outcomes.{Worked, BookSays, YieldsAre}
use Rattle.worked_sheets.specs.Denials as denials
use Rattle.worked_sheets.specs.Loops as loops
use Rattle.worked_sheets.specs.Trips as trips
use Rattle.worked_sheets.specs.Worlds as worlds

pub record WorkedSheets : Type 0 where
  -- trips under the sample tariff
  pub no_facts : Worked trips.no_facts
  pub plain_trip : Worked trips.plain_trip
  pub clipped_trip : Worked trips.clipped_trip
  pub contradicting_facts : Worked trips.contradicting_facts
  -- with contradicting facts the book clashes at T
  pub facts_clash : BookSays (trips.contradicting_facts).book (0 ∷ 1 ∷ 2 ∷ 3 ∷ 4 ∷ []) (0 ∷ 1 ∷ 2 ∷ 3 ∷ 4 ∷ []) true
  -- sheets with the bare book
  pub mutual_exceptions : Worked loops.mutual_exceptions
  pub positive_loop : Worked loops.positive_loop
  -- the two marks of the loop are an unfounded set from the start
  pub loop_unfounded : Unfounded 2 (loops.positive_loop).lines no_marks no_marks no_marks (among (0 ∷ 1 ∷ []))
  pub odd_loop : Worked loops.odd_loop
  -- sheets with a line book
  pub suspect_with_a_sound_reading : Worked denials.suspect_with_a_sound_reading
  -- its T has the full yield {0, 1, 2, 3} and the guarded yield {0, 2, 3}
  pub suspect_yields : YieldsAre denials.suspect_with_a_sound_reading (0 ∷ []) (0 ∷ 1 ∷ 2 ∷ 3 ∷ []) (0 ∷ 2 ∷ 3 ∷ [])
  pub denied_by_the_terms : Worked denials.denied_by_the_terms
  pub denied_but_open : Worked denials.denied_but_open
  -- the book denies the open mark 5 at T, and clashes at U
  pub open_denied : Denied (denials.denied_but_open).book (among (0 ∷ [])) 5
  pub open_clash : BookSays (denials.denied_but_open).book (0 ∷ 1 ∷ 2 ∷ 3 ∷ 4 ∷ 5 ∷ []) (0 ∷ 1 ∷ 2 ∷ 3 ∷ 4 ∷ 5 ∷ []) true
  pub book_feeds_a_line : Worked denials.book_feeds_a_line
  pub contradicting_book : Worked denials.contradicting_book
  -- it clashes at the empty set
  pub book_clash : BookSays (denials.contradicting_book).book [] (0 ∷ 1 ∷ 2 ∷ []) true
  -- what the worlds {0, 1} and {0, 2} give at each set: the closure, and whether the book clashes
  pub worlds_at_none : BookSays worlds.two_worlds [] (0 ∷ []) false
  pub worlds_at_0 : BookSays worlds.two_worlds (0 ∷ []) (0 ∷ []) false
  pub worlds_at_1 : BookSays worlds.two_worlds (1 ∷ []) (0 ∷ 1 ∷ []) false
  pub worlds_at_2 : BookSays worlds.two_worlds (2 ∷ []) (0 ∷ 2 ∷ []) false
  pub worlds_at_0_1 : BookSays worlds.two_worlds (0 ∷ 1 ∷ []) (0 ∷ 1 ∷ []) false
  pub worlds_at_0_2 : BookSays worlds.two_worlds (0 ∷ 2 ∷ []) (0 ∷ 2 ∷ []) false
  pub worlds_at_1_2 : BookSays worlds.two_worlds (1 ∷ 2 ∷ []) (0 ∷ 1 ∷ 2 ∷ []) true
  pub worlds_at_all : BookSays worlds.two_worlds (0 ∷ 1 ∷ 2 ∷ []) (0 ∷ 1 ∷ 2 ∷ []) true
  -- sheets with these worlds and no fare lines
  pub two_worlds_no_facts : Worked worlds.two_worlds_no_facts
  pub two_worlds_one_fact : Worked worlds.two_worlds_one_fact
  pub two_worlds_two_facts : Worked worlds.two_worlds_two_facts
