-- The theorems that have several parts, put together from the lemmas.
use mathlib.Core.List.{List}
use mathlib.Core.Path.{subst₂, sym}
use Rattle.marks.specs.Sets.{Marks, outside, among}
use Rattle.readings.specs.Books.{Book}
use Rattle.readings.specs.Rules.{Rule, Fit}
use Rattle.readings.specs.Says.{the_verdict}
use Rattle.readings.specs.Computed.{full_of, guarded_of}
use Rattle.readings.specs.Theorems.{YieldsExistOnce, YieldsFall, FirstMethodFindsIt, MethodsStop, MethodsAgree, AnswersAreSound, SaysOneThing, RelationsDecide, ComputedRight}
use Rattle.marks.proofs.Sets.{equal_within}
use Rattle.readings.proofs.Sets.{or_left}
use Rattle.readings.proofs.Closing.{least_unique}
use Rattle.readings.proofs.Yields.{full_falls, guarded_falls, guarded_within_full}
use Rattle.readings.proofs.FirstRounds.{moves, rests_at_least}
use Rattle.readings.proofs.SecondRounds as two
use Rattle.readings.proofs.Computing.{full_right, guarded_right, settled_right}
use Rattle.readings.proofs.Stopping as ends
use Rattle.readings.proofs.SoundReadings.{sound_reads, sound_between, broken_unsound}
use Rattle.readings.proofs.Verdicts.{answer_once, one_verdict, verdict_right, verdict_once}

module _ {B : Book} {lines : List Rule} {facts : Marks} (fit : Fit B lines facts) where
  pub yields_exist_once : YieldsExistOnce B lines facts
  yields_exist_once =
      record {
        full = λ S. record { it = among (full_of B lines facts S); holds = full_right fit S; only = λ X p. least_unique p (full_right fit S) };
        guarded = λ S. record { it = among (guarded_of B lines facts S); holds = guarded_right fit S; only = λ X p. least_unique p (guarded_right fit S) };
      }

  pub yields_fall : YieldsFall B lines facts
  yields_fall =
      record {
        full = λ S S' X X'. full_falls fit S S';
        guarded = λ S S' X X'. guarded_falls fit S S';
        within = λ S X Y. guarded_within_full fit;
      }

  pub first_method_finds_it : FirstMethodFindsIt B lines facts
  first_method_finds_it =
      record {
        grows = λ k T U T' U' run r. (moves fit run r).0;
        shrinks = λ k T U T' U' run r. (moves fit run r).1;
        rests = λ k T U. rests_at_least fit;
      }

  pub methods_stop : MethodsStop B lines facts
  methods_stop =
      record {
        once = ends.one_end fit;
        reading = λ k n T U. ends.ends_at_least fit k;
        bound = λ k n T U. ends.stops_bound fit k;
      }

  pub methods_agree : MethodsAgree B lines facts
  methods_agree =
      record {
        grows = λ T F T' F' s. (s.grown.around, λ m t. equal_within (sym s.joined) m (or_left (F m) (outside B.width s.Y m) t));
        second_as_first = λ k T F. two.second_first fit;
        first_as_second = λ k T U. two.first_second fit;
        stop = λ j k n T U. ends.stop fit j k;
        end = λ j k n n' T U T' U'. ends.stops_once fit j k;
        verdict = λ j k n n' T U T' U' v v' s s' a b.
            let e = ends.stops_once fit j k s s' in
            one_verdict B lines facts T U v v' a (subst₂ (λ (X Y : Marks). (the_verdict v').says B lines facts X Y) (sym e.1) (sym e.2) b);
      }

  pub answers_are_sound : AnswersAreSound B lines facts
  answers_are_sound =
      record {
        reading = λ M. sound_reads fit;
        holds = λ T U m p h M s. (sound_between fit p s).0 m h.0;
        not = λ T U m p h M s t. h.1 ((sound_between fit p s).1 m t);
        broken = λ T U p b M. broken_unsound fit p b;
      }

  pub says_one_thing : SaysOneThing B lines facts
  says_one_thing = record { answer = answer_once; verdict = verdict_once fit }

  pub relations_decide : RelationsDecide B lines facts
  relations_decide = record { yields = yields_exist_once; reading = ends.one_least_reading fit; rounds = methods_stop; says = says_one_thing }

  pub computed_right : ComputedRight B lines facts
  computed_right = record { full = full_right fit; guarded = guarded_right fit; settled = (settled_right fit).stops; verdict = λ T U. verdict_right fit }
