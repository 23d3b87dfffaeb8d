-- One event more: which facts then stand.
use Rattle.std.proofs.Common.{◌≡◌, ℕ, [], ◌∷◌, Ok, Err, Result, inl, inr, eq-eqb, ne_eqb}
use Rattle.std.proofs.lemmas.Bool.{cases_eq}
use Rattle.marks.specs.declared.refusal.Refusal.{Refusal}
use Rattle.marks.specs.Refusals.{Refuses, Gives}
use Rattle.marks.specs.Sets.{Marks, no_marks, with_mark, without_mark}
use Rattle.marks.proofs.Sets.{same_sets}
use Rattle.sheet.specs.declared.call.Call.{Call}
use Rattle.sheet.specs.declared.call.Call.TheVariants.{Enter, Strike}
use Rattle.sheet.specs.declared.reply.Reply.{Reply}
use Rattle.runs.specs.Histories.{Event, History, LastIs, latest, earlier, Turns, Standing}

abbrev pub event : Call → Result Reply Refusal → Event
event c r = record { call = c; reply = r }

-- the last event, over one event more
module _ (P Q : Event → Type 0) {e : Event} {h : History} where
  pub past_it : (P e → ⊥) → LastIs P Q (e ∷ h) → LastIs P Q h
  past_it none (latest p q) = absurd (none p)
  past_it none (earlier _ l) = l

  pub at_it : P e → LastIs P Q (e ∷ h) → Q e
  at_it p (latest _ q) = q
  at_it p (earlier none _) = absurd (none p)

pub nothing_stands : Standing [] no_marks
nothing_stands = record { stands = λ m t. absurd t; all = λ m l. elim l [ ] }

pub one_standing : {h : History} {F F' : Marks} → Standing h F → Standing h F' → F ≡ F'
one_standing f g = same_sets (λ m t. g.all m (f.stands m t)) (λ m t. f.all m (g.stands m t))

pub refused_not : (r : Result Reply Refusal) (n : ℕ) → Refuses r n → Gives r (λ _. Unit {0}) → ⊥
refused_not (Ok y) n x _ = x
refused_not (Err x) n _ a = a

-- an event that turns no fact leaves what stands
pub standing_kept : {h : History} {F : Marks} (e : Event) → ((m : ℕ) → Turns m e → ⊥) → Standing h F → Standing (e ∷ h) F
standing_kept e none f =
    record {
      stands = λ m t. earlier (none m) (f.stands m t);
      all = λ m l. f.all m (past_it _ _ (none m) l);
    }

module _ {h : History} {F : Marks} (k : ℕ) (y : Reply) (f : Standing h F) where
  pub entered : Standing (event (Enter k) (Ok y) ∷ h) (with_mark F k)
  entered =
      record {
        stands = λ m t.
            elim (cases_eq m k) [
              | inl e ↦ latest (tt, inl e) e
              | inr ne ↦ earlier (λ q. elim q.1 [ inl e ↦ ne e | inr x ↦ x ]) (f.stands m (rw (ne_eqb m k ne) at t))
            ];
        all = λ m l.
            elim (cases_eq m k) [
              | inl e ↦ rw (eq-eqb m k e) tt
              | inr ne ↦ rw (ne_eqb m k ne) (f.all m (past_it _ _ (λ q. elim q.1 [ inl e ↦ ne e | inr x ↦ x ]) l))
            ];
      }

  pub struck : Standing (event (Strike k) (Ok y) ∷ h) (without_mark F k)
  struck =
      record {
        stands = λ m t.
            elim (cases_eq m k) [
              | inl e ↦ absurd (rw (eq-eqb m k e) at t)
              | inr ne ↦ earlier (λ q. elim q.1 [ inl x ↦ x | inr e ↦ ne e ]) (f.stands m (rw (ne_eqb m k ne) at t))
            ];
        all = λ m l.
            elim (cases_eq m k) [
              | inl e ↦ absurd (at_it _ _ (tt, inr e) l)
              | inr ne ↦ rw (ne_eqb m k ne) (f.all m (past_it _ _ (λ q. elim q.1 [ inl x ↦ x | inr e ↦ ne e ]) l))
            ];
      }
