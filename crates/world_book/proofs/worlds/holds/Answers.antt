use Rattle.std.proofs.Common.{◌≡◌, Bool, false, Ok, Err, Result, Decides, ◌≢◌, ℕ, ◌∙◌, sym, inl, inr}
use Rattle.std.specs.Result.{result_unwrap_or}
use Rattle.marks.specs.declared.refusal.Refusal.{Refusal}
use Rattle.marks.specs.MarkSets.{marks_of}
use Rattle.marks.specs.Refusals.{Refuses, Gives, Test}
use Rattle.marks.specs.Sets.{Marks, ◌⊆◌}
use Rattle.world_book.specs.Holding.{decides_lies}
use Rattle.world_book.proofs.worlds.holds.Goals as goal

-- between sets of one width the answer is given
within : (S W : Marks) {v w : ℕ} (r : Result Bool Refusal) → Test (v ≢ w) (Refuses r 7) (Gives r (λ b. Decides b (S ⊆ W))) → v ≡ w → Decides (result_unwrap_or r false) (S ⊆ W)
within S W (Ok b) t same = elim t [ inl p ↦ absurd p.1 | inr p ↦ p.1 ]
within S W (Err e) t same = elim t [ inl p ↦ absurd (p.0 same) | inr p ↦ absurd p.1 ]

pub returns : goal.returns
returns c =
    let s = c.args.set.now in
    let S = marks_of s in
    let W = marks_of c.args.world.now in
    let r = c.is_subset.result in
    c.unwrap_or.ensures ∙ decides_lies s.width S W (result_unwrap_or r false) s.inside (within S W r c.is_subset.ensures (sym c.requires))
