-- One more call on a sheet that fits the run so far: its reply is right, and the sheet fits the run with it.
use Rattle.std.proofs.Common.{◌≡◌, ℕ, ◌⊎◌, List, [], ◌∷◌, Ok, Err, Result, sym, refl, ap, ◌∙◌, subst, inl, inr}
use Rattle.marks.specs.declared.refusal.Refusal.{Refusal}
use Rattle.marks.specs.declared.set.MarkSet.{MarkSet}
use Rattle.marks.specs.MarkSets.{marks_of}
use Rattle.marks.specs.Refusals.{Refuses, Gives, Test}
use Rattle.marks.specs.Sets.{Marks, ◌∈◌, OfWidth}
use Rattle.readings.specs.Books.{Book, Lawful}
use Rattle.readings.specs.Readings.{LeastReading}
use Rattle.readings.specs.Rules.{Rule, Fit}
use Rattle.readings.specs.Says.{the_answer, the_verdict, IsBroken}
use Rattle.readings.specs.declared.answer.Answer.{Answer}
use Rattle.readings.specs.declared.answer.Answer.TheVariants.{Not, Holds}
use Rattle.readings.specs.declared.method.Method.{Method}
use Rattle.readings.specs.declared.verdict.Verdict.{Verdict}
use Rattle.readings.specs.declared.verdict.Verdict.TheVariants.{Broken}
use Rattle.readings.proofs.SoundReadings.{sound_between, broken_unsound}
use Rattle.readings.proofs.Stopping.{stop}
use Rattle.lines.specs.declared.fare.FareLine.{FareLine}
use Rattle.lines.proofs.Meaning.{lawful_lines_fit}
use Rattle.settling.specs.Calls.{LawfulFares}
use Rattle.settling.specs.Growth.{rules_of}
use Rattle.sheet.specs.Cases.{the_reply, the_state}
use Rattle.sheet.specs.Steps.{NewSheet, SameSheet, FactsBecome, Tells, OtherWidth, Unlawful, Found, SettledBy, Step}
use Rattle.sheet.specs.declared.call.Call.{Call}
use Rattle.sheet.specs.declared.call.Call.TheVariants.{Enter, Strike, Settle, Ask}
use Rattle.sheet.specs.declared.reply.Reply.{Reply}
use Rattle.sheet.specs.declared.reply.Reply.TheVariants.{Done, Settled as Answered, Told}
use Rattle.sheet.specs.declared.sheet.Sheet.{Sheet}
use Rattle.sheet.specs.declared.sheet.State.{State}
use Rattle.sheet.specs.declared.sheet.State.TheVariants.{Unsettled, Settled}
use Rattle.sheet.proofs.Answering.{stable_equal}
use Rattle.runs.specs.Histories.{Event, History, Enters, Strikes, Settles, latest, earlier, Alters, IsSettled, Standing}
use Rattle.runs.specs.Runs.{SettleRight, AskRight, ReplyRight, RightRun, begun, more}
use Rattle.runs.specs.Theorems.{Chain, new, call, ChainsAreRight}
use Rattle.runs.proofs.Stable.{lawful_stable}
use Rattle.runs.proofs.Turning.{event, past_it, at_it, nothing_stands, refused_not, standing_kept, entered, struck}

-- what an answer or a verdict says, where it is known which it is
holds_says : (a : Answer) (T U : Marks) (m : ℕ) → a ≡ Holds → (the_answer a).says T U m → m ∈ T
holds_says a T U m e p = (subst (λ (b : Answer). (the_answer b).says T U m) e p).0

not_says : (a : Answer) (T U : Marks) (m : ℕ) → a ≡ Not → (the_answer a).says T U m → m ∈ U → ⊥
not_says a T U m e p = (subst (λ (b : Answer). (the_answer b).says T U m) e p).1

broken_says : (v : Verdict) (B : Book) (rules : List Rule) (F T U : Marks) → v ≡ Broken → (the_verdict v).says B rules F T U → IsBroken B T U
broken_says v B rules F T U e p = subst (λ (x : Verdict). (the_verdict x).says B rules F T U) e p

module _ (B : Book) (lines : List FareLine) where
  -- a state fits the history where it is settled exactly when the history is, and then with the least reading of the facts
  abbrev StateFits : History → Marks → State → Type 0
  StateFits h F Unsettled = IsSettled h → ⊥
  StateFits h F (Settled R) = IsSettled h × LeastReading B (rules_of lines) F (marks_of R.lower) (marks_of R.upper) × Fit B (rules_of lines) F

  record Fits (h : History) (s : Sheet) : Type 0 where
    facts : Standing h (marks_of s.facts)
    state : StateFits h (marks_of s.facts) s.state

  unsettled_so : (h : History) (F : Marks) (st : State) → StateFits h F st → (the_state st).unsettled → IsSettled h → ⊥
  unsettled_so h F Unsettled f x = f
  unsettled_so h F (Settled R) f x = absurd x

  so_unsettled : (h : History) (F : Marks) (st : State) → StateFits h F st → (IsSettled h → ⊥) → (the_state st).unsettled
  so_unsettled h F Unsettled f x = tt
  so_unsettled h F (Settled R) f x = x f.0

  unsettled_fits : (h : History) (F : Marks) (st : State) → (the_state st).unsettled → (IsSettled h → ⊥) → StateFits h F st
  unsettled_fits h F Unsettled x f = f
  unsettled_fits h F (Settled R) x f = absurd x

  -- an event that alters nothing leaves the state
  state_kept : (h : History) (F : Marks) (e : Event) → (Alters e → ⊥) → (st : State) → StateFits h F st → StateFits (e ∷ h) F st
  state_kept h F e none Unsettled f = λ l. f (past_it _ _ none l)
  state_kept h F e none (Settled R) f = (earlier none f.0, f.1, f.2)

  new_fits : (w : ℕ) (s : Sheet) → NewSheet w s → Fits [] s
  new_fits w s n =
      record {
        facts = subst (Standing []) (sym n.facts.marks) nothing_stands;
        state = unsettled_fits [] (marks_of s.facts) s.state n.unsettled (λ l. elim l [ ]);
      }

  module _ (law : Lawful B) (h : History) (s : Sheet) (f : Fits h s) (s' : Sheet) where
    -- an event that alters nothing, with the sheet as it was
    kept_fits : (c : Call) (r : Result Reply Refusal) → (Alters (event c r) → ⊥) → SameSheet s s' → Fits (event c r ∷ h) s'
    kept_fits c r none e =
        record {
          facts = subst (λ (t : MarkSet). Standing (event c r ∷ h) (marks_of t)) (sym e.facts) (standing_kept (event c r) (λ m a. none (a.0, inl (m, a.1))) f.facts);
          state =
              subst (λ (t : MarkSet). StateFits (event c r ∷ h) (marks_of t) s'.state) (sym e.facts)
              (subst (StateFits (event c r ∷ h) (marks_of s.facts)) (sym e.state) (state_kept h (marks_of s.facts) (event c r) none s.state f.state));
        }

    refused_fits : (c : Call) (r : Result Reply Refusal) (n : ℕ) → Refuses r n × SameSheet s s' → Fits (event c r ∷ h) s'
    refused_fits c r n p = kept_fits c r (λ a. refused_not r n p.0 a.0) p.1

    -- what an accepted call owes
    record After (c : Call) (y : Reply) (given : Type 0) : Type 0 where
      width : s'.facts.width ≡ s.facts.width
      right : given
      fits : Fits (event c (Ok y) ∷ h) s'

    -- every call makes two tests; what the second asks of the sheet it asks of the history
    by_tests : (c : Call) (r : Result Reply Refusal) (n n' : ℕ) {A A' A'' : Type 0} (given given' : Reply → Type 0) → (A' → A'') → (A'' → A')
        → ((y : Reply) → (A → ⊥) → (A' → ⊥) → given y → After c y (given' y))
        → Test A (Refuses r n × SameSheet s s') (Test A' (Refuses r n' × SameSheet s s') (Gives r given))
        → (s'.facts.width ≡ s.facts.width) × Test A (Refuses r n) (Test A'' (Refuses r n') (Gives r given')) × Fits (event c r ∷ h) s'
    by_tests c r n n' given given' to from done (inl p) =
        (ap (λ (t : MarkSet). t.width) p.1.1.facts, inl (p.0, p.1.0), refused_fits c r n p.1)
    by_tests c r n n' given given' to from done (inr (a, inl q)) =
        (ap (λ (t : MarkSet). t.width) q.1.1.facts, inr (a, inl (to q.0, q.1.0)), refused_fits c r n' q.1)
    by_tests c (Ok y) n n' given given' to from done (inr (a, inr (b, g))) =
        let d = done y a b g in (d.width, inr (a, inr ((λ x. b (from x)), d.right)), d.fits)
    by_tests c (Err x) n n' given given' to from done (inr (a, inr (b, g))) = absurd g

    -- an accepted enter or strike
    turned : (c : Call) (m : ℕ) (M : Marks) (y : Reply) → Enters m (event c (Ok y)) ⊎ Strikes m (event c (Ok y)) → (Settles (event c (Ok y)) → ⊥)
        → Standing (event c (Ok y) ∷ h) M → (the_reply y).done × FactsBecome s s' M → After c y (the_reply y).done
    turned c m M y of-m no-settle g p =
        record {
          width = p.1.facts.width;
          right = p.0;
          fits =
              record {
                facts = subst (Standing (event c (Ok y) ∷ h)) (sym p.1.facts.marks) g;
                state = unsettled_fits _ _ s'.state p.1.unsettled (λ l. no-settle (at_it _ _ (tt, inl (m, of-m)) l));
              };
        }

    -- an accepted settle
    fit : (s.facts.width ≡ B.width) → LawfulFares B.width lines → Fit B (rules_of lines) (marks_of s.facts)
    fit width lawful =
        record {
          lawful = law;
          within = lawful_lines_fit B.width lines lawful.each;
          of_width = subst (λ (w : ℕ). OfWidth w (marks_of s.facts)) width s.facts.inside;
        }

    found : (k : Method) → Fit B (rules_of lines) (marks_of s.facts) → (v : Verdict) (n : ℕ) (y : Reply) (st : State)
        → (the_state st).settled (Found B lines (marks_of s.facts) k v n)
        → SettleRight B lines h k v n × StateFits (event (Settle k) (Ok y) ∷ h) (marks_of s.facts) st
    unfolding Found
    found k fit v n y Unsettled p = absurd p
    found k fit v n y (Settled R) p = (
      record {
        facts = marks_of s.facts;
        standing = f.facts;
        T = marks_of R.lower;
        U = marks_of R.upper;
        reading = p.reading;
        verdict = p.verdict;
        rounds = p.rounds;
        either = λ other. stop fit k other p.rounds;
        broken = λ e M sound. broken_unsound fit p.reading (broken_says v B (rules_of lines) (marks_of s.facts) (marks_of R.lower) (marks_of R.upper) e p.verdict) sound;
      },
      (latest (tt, inr (k, refl)) (k, refl), p.reading, fit),
    )

    settled : (k : Method) (y : Reply) → (OtherWidth B s.facts → ⊥) → (Unlawful B.width lines → ⊥)
        → (the_reply y).settled (SettledBy B lines s s' k) → After (Settle k) y ((the_reply y).settled (SettleRight B lines h k))
    unfolding OtherWidth Unlawful
    settled k Done same lawful p = absurd p
    settled k (Told a) same lawful p = absurd p
    settled k (Answered x) same lawful p =
        let q = found k (fit (stable_equal _ _ same) (lawful_stable B.width lines lawful)) x.verdict x.rounds (Answered x) s'.state p.found in
        record {
          width = ap (λ (t : MarkSet). t.width) p.facts;
          right = q.0;
          fits =
              record {
                facts =
                    subst (λ (t : MarkSet). Standing (event (Settle k) (Ok (Answered x)) ∷ h) (marks_of t)) (sym p.facts)
                    (standing_kept (event (Settle k) (Ok (Answered x))) (λ m a. elim a.1 [ inl z ↦ z | inr z ↦ z ]) f.facts);
                state = subst (λ (t : MarkSet). StateFits (event (Settle k) (Ok (Answered x)) ∷ h) (marks_of t) s'.state) (sym p.facts) q.1;
              };
        }

    -- an accepted ask
    told : (m : ℕ) (a : Answer) (st : State) → StateFits h (marks_of s.facts) st → (the_state st).settled (λ T U. (the_answer a).says T U m) → AskRight B lines h m a
    told m a Unsettled g p = absurd p
    told m a (Settled R) g p =
        record {
          facts = marks_of s.facts;
          standing = f.facts;
          T = marks_of R.lower;
          U = marks_of R.upper;
          reading = g.1;
          says = p;
          holds = λ e M sound. (sound_between g.2 g.1 sound).0 m (holds_says a (marks_of R.lower) (marks_of R.upper) m e p);
          not = λ e M sound t. not_says a (marks_of R.lower) (marks_of R.upper) m e p ((sound_between g.2 g.1 sound).1 m t);
        }

    tells : (m : ℕ) (y : Reply) → (the_reply y).told (Tells s m) → (the_reply y).told (AskRight B lines h m)
    tells m Done p = p
    tells m (Answered x) p = p
    tells m (Told a) p = told m a s.state f.state p

    asked : (m : ℕ) (y : Reply) → (the_reply y).told (Tells s m) × SameSheet s s' → After (Ask m) y ((the_reply y).told (AskRight B lines h m))
    asked m y p =
        record {
          width = ap (λ (t : MarkSet). t.width) p.1.facts;
          right = tells m y p.0;
          fits = kept_fits (Ask m) (Ok y) (λ a. elim a.1 [ inl x ↦ elim x.1 [ inl z ↦ z | inr z ↦ z ] | inr x ↦ x.1 ]) p.1;
        }

    step_with : (c : Call) (r : Result Reply Refusal) → Step B lines s c r s'
        → (s'.facts.width ≡ s.facts.width) × ReplyRight B lines s.facts.width h c r × Fits (event c r ∷ h) s'
    unfolding OtherWidth Unlawful
    step_with (Enter m) r =
        by_tests (Enter m) r 9 10 _ _ (f.facts.stands m) (f.facts.all m)
        (λ y _ _. turned (Enter m) m _ y (inl refl) (λ x. x.1) (entered m y f.facts))
    step_with (Strike m) r =
        by_tests (Strike m) r 9 11 _ _ (λ x l. x (f.facts.all m l)) (λ x t. x (f.facts.stands m t))
        (λ y _ _. turned (Strike m) m _ y (inr refl) (λ x. x.1) (struck m y f.facts))
    step_with (Settle k) r = by_tests (Settle k) r 7 8 _ _ (λ x. x) (λ x. x) (settled k)
    step_with (Ask m) r =
        by_tests (Ask m) r 9 12 _ _ (unsettled_so h (marks_of s.facts) s.state f.state)
        (so_unsettled h (marks_of s.facts) s.state f.state) (λ y _ _. asked m y)

  -- a chain of steps fits its history, and its history is a right run
  record Chained (w : ℕ) (h : History) (s : Sheet) : Type 0 where
    width : s.facts.width ≡ w
    fits : Fits h s
    run : RightRun B lines w h

  chained : Lawful B → {w : ℕ} {h : History} {s : Sheet} → Chain B lines w h s → Chained w h s
  chained law {w} {h} {s} (new n) = record { width = n.facts.width; fits = new_fits w s n; run = begun }
  chained law {w} (call {h} {s} {s'} {e} before step) =
      let c = chained law before in
      let d = step_with law h s c.fits s' e.call e.reply step in
      record {
        width = d.0 ∙ c.width;
        fits = d.2;
        run = more c.run (subst (λ (v : ℕ). ReplyRight B lines v h e.call e.reply) c.width d.1);
      }

pub chains_are_right : ChainsAreRight
chains_are_right B lines law w h s c = (chained B lines law c).run
