use Rattle.std.proofs.Common.{refl}
use Rattle.worked_sheets.specs.Worlds.{two_worlds}
use Rattle.worked_sheets.proofs.Results as result
use Rattle.worked_sheets.proofs.Working.{says}
use Rattle.worked_sheets.proofs.worked_sheets.Goals as goal

pub returns : goal.returns
returns c =
    record {
      no_facts = result.no_facts;
      plain_trip = result.plain_trip;
      clipped_trip = result.clipped_trip;
      contradicting_facts = result.contradicting_facts;
      facts_clash = result.facts_clash;
      mutual_exceptions = result.mutual_exceptions;
      positive_loop = result.positive_loop;
      loop_unfounded = result.loop_unfounded;
      odd_loop = result.odd_loop;
      suspect_with_a_sound_reading = result.suspect_with_a_sound_reading;
      suspect_yields = result.suspect_yields;
      denied_by_the_terms = result.denied_by_the_terms;
      denied_but_open = result.denied_but_open;
      open_denied = tt;
      open_clash = result.open_clash;
      book_feeds_a_line = result.book_feeds_a_line;
      contradicting_book = result.contradicting_book;
      book_clash = result.book_clash;
      worlds_at_none = says two_worlds result.worlds_lawful _ _ _ tt tt refl;
      worlds_at_0 = says two_worlds result.worlds_lawful _ _ _ tt tt refl;
      worlds_at_1 = says two_worlds result.worlds_lawful _ _ _ tt tt refl;
      worlds_at_2 = says two_worlds result.worlds_lawful _ _ _ tt tt refl;
      worlds_at_0_1 = says two_worlds result.worlds_lawful _ _ _ tt tt refl;
      worlds_at_0_2 = says two_worlds result.worlds_lawful _ _ _ tt tt refl;
      worlds_at_1_2 = says two_worlds result.worlds_lawful _ _ _ tt tt refl;
      worlds_at_all = says two_worlds result.worlds_lawful _ _ _ tt tt refl;
      two_worlds_no_facts = result.two_worlds_no_facts;
      two_worlds_one_fact = result.two_worlds_one_fact;
      two_worlds_two_facts = result.two_worlds_two_facts;
    }
