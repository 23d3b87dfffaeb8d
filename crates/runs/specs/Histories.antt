-- What was called on a sheet and answered, and what then stands: which facts, and whether the sheet is settled.
use Rattle.std.specs.Prelude.{ℕ, ◌⊎◌, List, ◌∷◌, Result}
use Rattle.marks.specs.declared.refusal.Refusal.{Refusal}
use Rattle.marks.specs.Refusals.{Gives}
use Rattle.marks.specs.Sets.{Marks, ◌∈◌}
use Rattle.readings.specs.declared.method.Method.{Method}
use Rattle.sheet.specs.Cases.{the_call}
use Rattle.sheet.specs.declared.call.Call.{Call}
use Rattle.sheet.specs.declared.reply.Reply.{Reply}

-- a call, and the reply to it
pub record Event : Type 0 where
  pub call : Call
  pub reply : Result Reply Refusal

-- A history is all that was called and answered so far, the latest first.
abbrev pub History : Type 0
History = List Event

abbrev pub Accepted : Event → Type 0
Accepted e = Gives e.reply (λ _. Unit {0})

abbrev pub Enters : ℕ → Event → Type 0
Enters m e = (the_call e.call).enters m

abbrev pub Strikes : ℕ → Event → Type 0
Strikes m e = (the_call e.call).strikes m

abbrev pub Settles : Event → Type 0
Settles e = (k : Method) × (the_call e.call).settles k

-- the last event of which P holds is one of which Q holds
pub data LastIs (P Q : Event → Type 0) : History → Type 0 where
  latest : {e : Event} {h : History} → P e → Q e → LastIs P Q (e ∷ h)
  earlier : {e : Event} {h : History} → (P e → ⊥) → LastIs P Q h → LastIs P Q (e ∷ h)

-- an accepted enter or strike of the mark
abbrev pub Turns : ℕ → Event → Type 0
Turns m e = Accepted e × (Enters m e ⊎ Strikes m e)

-- an accepted enter, strike or settle
abbrev pub Alters : Event → Type 0
Alters e = Accepted e × (((m : ℕ) × (Enters m e ⊎ Strikes m e)) ⊎ Settles e)

-- A fact stands when its last accepted enter or strike was an enter.
abbrev pub Stands : History → ℕ → Type 0
Stands h m = LastIs (Turns m) (Enters m) h

-- The sheet is settled when the last accepted enter, strike or settle was a settle.
abbrev pub IsSettled : History → Type 0
IsSettled h = LastIs Alters Settles h

-- F is the set of the facts that stand
pub record Standing (h : History) (F : Marks) : Type 0 where
  pub stands : (m : ℕ) → m ∈ F → Stands h m
  pub all : (m : ℕ) → Stands h m → m ∈ F
