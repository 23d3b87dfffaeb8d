-- The least reading gives exactly one answer of each mark and exactly one verdict.
use mathlib.Core.Bool.{Bool, true, false}
use mathlib.Core.List.{List}
use mathlib.Core.Logic.{◌⊎◌, inl, inr}
use mathlib.Core.Path.{◌≡◌, refl, subst, sym, ◌∙◌}
use Prim.Native.Nat.{ℕ}
use lib.Dec.{T}
use Rattle.marks.specs.Sets.{Marks, ◌∈◌, among}
use Rattle.readings.specs.Books.{Book, Clashes}
use Rattle.readings.specs.Rules.{Rule, Fit}
use Rattle.readings.specs.Yields.{Guarded}
use Rattle.readings.specs.Readings.{LeastReading}
use Rattle.readings.specs.Says.{the_answer, the_verdict, YieldsAgree, YieldsDiffer}
use Rattle.readings.specs.Computed.{agree, full_of, guarded_of, verdict_by, verdict_of}
use Rattle.readings.specs.ExactlyOne.{ExactlyOne}
use Rattle.readings.specs.declared.answer.Answer.{Answer}
use Rattle.readings.specs.declared.answer.Answer.TheVariants.{Not, Holds, Open, Both}
use Rattle.readings.specs.declared.verdict.Verdict.{Verdict}
use Rattle.readings.specs.declared.verdict.Verdict.TheVariants.{Clear, Suspect, Broken}
use Rattle.readings.proofs.Sets.{decide}
use Rattle.readings.proofs.Closing.{least_unique}
use Rattle.readings.proofs.Listing.{agree_same, same_agree}
use Rattle.readings.proofs.Computing.{full_right, guarded_right}
use Rattle.readings.proofs.BrokenSheets.{broken_is_clash}

one_answer : (X U : Marks) (m : ℕ) (a b : Answer) → (the_answer a).says X U m → (the_answer b).says X U m → a ≡ b
one_answer X U m Not Not p q = refl
one_answer X U m Not Holds p q = absurd (p.0 q.0)
one_answer X U m Not Open p q = absurd (p.1 q.1)
one_answer X U m Not Both p q = absurd (p.0 q.0)
one_answer X U m Holds Not p q = absurd (q.0 p.0)
one_answer X U m Holds Holds p q = refl
one_answer X U m Holds Open p q = absurd (q.0 p.0)
one_answer X U m Holds Both p q = absurd (q.1 p.1)
one_answer X U m Open Not p q = absurd (q.1 p.1)
one_answer X U m Open Holds p q = absurd (p.0 q.0)
one_answer X U m Open Open p q = refl
one_answer X U m Open Both p q = absurd (q.1 p.1)
one_answer X U m Both Not p q = absurd (q.0 p.0)
one_answer X U m Both Holds p q = absurd (p.1 q.1)
one_answer X U m Both Open p q = absurd (p.1 q.1)
one_answer X U m Both Both p q = refl

pub answer_once : (X U : Marks) (m : ℕ) → ExactlyOne (λ (a : Answer). (the_answer a).says X U m)
answer_once X U m = go (decide (X m)) (decide (U m))
  where
    one : (b : Answer) → (the_answer b).says X U m → ExactlyOne (λ (a : Answer). (the_answer a).says X U m)
    one b h = record { it = b; holds = h; only = λ a p. one_answer X U m a b p h }

    go : (m ∈ X) ⊎ (m ∈ X → ⊥) → (m ∈ U) ⊎ (m ∈ U → ⊥) → ExactlyOne (λ (a : Answer). (the_answer a).says X U m)
    go (inl x) (inl u) = one Holds (x, u)
    go (inl x) (inr u) = one Both (x, u)
    go (inr x) (inl u) = one Open (x, u)
    go (inr x) (inr u) = one Not (x, u)

module _ {B : Book} {lines : List Rule} {facts : Marks} where
  yields_same_or_not : {S : Marks} → YieldsAgree B lines facts S → YieldsDiffer B lines facts S → ⊥
  yields_same_or_not a d = d.differ (least_unique d.full a.full ∙ least_unique a.guarded d.guarded)

module _ (B : Book) (lines : List Rule) (facts X U : Marks) where
  pub one_verdict : (v v' : Verdict) → (the_verdict v).says B lines facts X U → (the_verdict v').says B lines facts X U → v ≡ v'
  one_verdict Clear Clear p q = refl
  one_verdict Clear Suspect p q = absurd (yields_same_or_not p.1 q.1)
  one_verdict Clear Broken p q = absurd (p.0 q)
  one_verdict Suspect Clear p q = absurd (yields_same_or_not q.1 p.1)
  one_verdict Suspect Suspect p q = refl
  one_verdict Suspect Broken p q = absurd (p.0 q)
  one_verdict Broken Clear p q = absurd (q.0 p)
  one_verdict Broken Suspect p q = absurd (q.0 p)
  one_verdict Broken Broken p q = refl

module _ {B : Book} {lines : List Rule} {facts : Marks} (fit : Fit B lines facts) where
  pub verdict_right : {X U : Marks} → LeastReading B lines facts X U
      → (the_verdict (verdict_of B lines facts X)).says B lines facts X U
  verdict_right {X} {U} p = go (B.clash X) (agree B.width full guarded) (λ t. t) (λ t. t) (λ t. t) (λ t. t)
    where
      full : Marks
      full = among (full_of B lines facts X)

      guarded : Marks
      guarded = among (guarded_of B lines facts X)

      go : (b s : Bool) → (T b → Clashes B X) → (Clashes B X → T b) → (T s → T (agree B.width full guarded))
          → (T (agree B.width full guarded) → T s)
          → (the_verdict (verdict_by b s)).says B lines facts X U
      go true s b _ i j = (broken_is_clash fit p).1 (b tt)
      go false true _ c i j = (
        λ b. c ((broken_is_clash fit p).0 b),
        record {
          yield = full;
          full = full_right fit X;
          guarded = subst (Guarded B lines facts X) (sym (agree_same B.width full guarded (full_right fit X).of_width (guarded_right fit X).of_width (i tt))) (guarded_right fit X);
        },
      )
      go false false _ c i j = (
        λ b. c ((broken_is_clash fit p).0 b),
        record {
          full_yield = full;
          guarded_yield = guarded;
          full = full_right fit X;
          guarded = guarded_right fit X;
          differ = λ e. j (same_agree B.width full guarded e);
        },
      )

  pub verdict_once : (X U : Marks) → LeastReading B lines facts X U
      → ExactlyOne (λ (v : Verdict). (the_verdict v).says B lines facts X U)
  verdict_once X U p =
      record { it = verdict_of B lines facts X; holds = verdict_right p; only = λ v h. one_verdict B lines facts X U v (verdict_of B lines facts X) h (verdict_right p) }
