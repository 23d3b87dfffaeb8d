-- A sheet comes out as its computed end says.
use Rattle.std.proofs.Common.{◌≡◌, ℕ, suc, Bool, true, not, ◌&&◌, ◌||◌, T, List, [], ◌∷◌, length, subst, subst₂, T_not}
use Rattle.marks.specs.Sets.{Marks, below, among}
use Rattle.readings.specs.Books.{Book, Lawful}
use Rattle.readings.specs.Computed.{listed, agree, has_all, settled_of, verdict_of}
use Rattle.readings.specs.Readings.{LeastReading}
use Rattle.readings.specs.Rules.{Fit}
use Rattle.readings.specs.Says.{the_answer, the_verdict, Rounds}
use Rattle.readings.specs.declared.answer.Answer.{Answer}
use Rattle.readings.specs.declared.answer.Answer.TheVariants.{Not, Holds, Open, Both}
use Rattle.readings.specs.declared.method.Method.TheVariants.{First}
use Rattle.readings.specs.declared.verdict.Verdict.{Verdict}
use Rattle.readings.proofs.Computing.{settled_right}
use Rattle.readings.proofs.Listing.{among_listed, agree_same}
use Rattle.readings.proofs.Sets.{left, right}
use Rattle.readings.proofs.Stopping.{stop, ends_at_least}
use Rattle.readings.proofs.Verdicts.{verdict_right}
use Rattle.worked_sheets.specs.Outcomes.{Answered, Worked, BookSays}
use Rattle.worked_sheets.specs.Sheets.{Sheet}
use Rattle.worked_sheets.proofs.Exhausting.{between, sound_test, all_sound, one_of, each_sound, no_other_sound}
use Rattle.worked_sheets.proofs.Fitting.{among_width, fit_test, fits}
use Rattle.worked_sheets.proofs.Stepping.{steps_test, goes}

-- answers, by whether T and U have the mark

abbrev pub is_answer : Answer → (t u : Bool) → Bool
is_answer Not t u = not t && not u
is_answer Holds t u = t && u
is_answer Open t u = not t && u
is_answer Both t u = t && not u

answer_says : (X U : Marks) (m : ℕ) (a : Answer) → T (is_answer a (X m) (U m)) → (the_answer a).says X U m
answer_says X U m Not t = (T_not (X m) (left (not (X m)) (not (U m)) t), T_not (U m) (right (not (X m)) (not (U m)) t))
answer_says X U m Holds t = (left (X m) (U m) t, right (X m) (U m) t)
answer_says X U m Open t = (T_not (X m) (left (not (X m)) (U m) t), right (not (X m)) (U m) t)
answer_says X U m Both t = (left (X m) (not (U m)) t, T_not (U m) (right (X m) (not (U m)) t))

abbrev pub answers_test : (X U : Marks) (m : ℕ) → List Answer → Bool
answers_test X U m [] = true
answers_test X U m (a ∷ rest) = is_answer a (X m) (U m) && answers_test X U (suc m) rest

answered : (X U : Marks) (m : ℕ) (answers : List Answer) → T (answers_test X U m answers) → Answered X U m answers
answered X U m [] t = tt
answered X U m (a ∷ rest) t =
    let b = is_answer a (X m) (U m) in
    let r = answers_test X U (suc m) rest in
    (answer_says X U m a (left b r t), answered X U (suc m) rest (right b r t))

module _ (s : Sheet) where
  abbrev B : Book
  B = s.book

  abbrev facts : Marks
  facts = among s.facts

  -- what is computed of the sheet, each by its test
  pub record Computes : Type 0 where
    pub within : T (fit_test s)
    pub sets : T (has_all s.T (below s.book.width) && has_all s.U (below s.book.width))
    pub settled : settled_of s.book s.lines (among s.facts) ≡ (s.rounds, listed s.book.width (among s.T), listed s.book.width (among s.U))
    pub verdict : verdict_of s.book s.lines (among s.facts) (among s.T) ≡ s.verdict
    pub answers : T (answers_test (among s.T) (among s.U) 0 s.answers)
    pub all_answers : length s.answers ≡ s.book.width
    pub steps : T (steps_test s (below s.book.width) s.steps)
    pub all_steps : length s.steps ≡ s.rounds
    pub sound : T (all_sound s.book s.lines (among s.facts) s.sound)
    pub others :
        T
        (between (among s.T) (among s.U) s.book.width
        (λ ms. one_of s.book.width s.sound ms || not (sound_test s.book s.lines (among s.facts) ms)))

  pub worked : Lawful s.book → Computes → Worked s
  worked law c =
      record {
        fit = fit;
        reading = reading;
        answers = answered (among s.T) (among s.U) 0 s.answers c.answers;
        verdict = subst (λ (v : Verdict). (the_verdict v).says B s.lines facts (among s.T) (among s.U)) c.verdict (verdict_right fit reading);
        rounds = λ k. stop fit First k first;
        all_answers = c.all_answers;
        steps = goes s fit c.steps;
        all_steps = c.all_steps;
        sound = each_sound fit s.sound c.sound;
        no_other = no_other_sound fit s.sound c.sound c.others reading;
      }
    where
      fit : Fit B s.lines facts
      fit = fits s law c.within

      first : Rounds B s.lines facts First s.rounds (among s.T) (among s.U)
      first =
          let a = has_all s.T (below B.width) in
          let b = has_all s.U (below B.width) in
          let ended =
          subst (λ (e : ℕ × List ℕ × List ℕ). Rounds B s.lines facts First e.0 (among e.1) (among e.2)) c.settled (settled_right fit).stops in
          subst₂ (Rounds B s.lines facts First s.rounds)
          (among_listed B.width (among s.T) (among_width B.width s.T (left a b c.sets)))
          (among_listed B.width (among s.U) (among_width B.width s.U (right a b c.sets)))
          ended

      reading : LeastReading B s.lines facts (among s.T) (among s.U)
      reading = ends_at_least fit First first

-- a lawful book says of a set what is computed of it
pub says : (B : Book) → Lawful B → (S closure : List ℕ) (clash : Bool)
    → T (has_all S (below B.width) && has_all closure (below B.width))
    → T (agree B.width (B.closure (among S)) (among closure)) → B.clash (among S) ≡ clash → BookSays B S closure clash
says B law S closure clash h t e =
    let a = has_all S (below B.width) in
    let b = has_all closure (below B.width) in
    record {
      closes =
          agree_same B.width (B.closure (among S)) (among closure)
          (law.of_width (among S) (among_width B.width S (left a b h)))
          (among_width B.width closure (right a b h))
          t;
      clashes = e;
    }
