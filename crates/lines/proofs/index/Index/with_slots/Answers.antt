use Rattle.std.proofs.Common.{◌≡◌, ℕ, ◌+◌, ◌<◌, get_or, Some, sym, ◌∙◌, subst, inl, inr, arith}
use Rattle.std.proofs.lemmas.Bool.{cases_eq}
use Rattle.marks.specs.declared.set.MarkSet.{MarkSet}
use Rattle.marks.specs.MarkSets.{marks_of}
use Rattle.marks.specs.Sets.{◌∈◌}
use Rattle.marks.proofs.Sets.{equal_within}
use Rattle.lines.specs.Passes.{with_head}
use Rattle.lines.proofs.Growths.{inserted}
use Rattle.lines.proofs.Turns.{head_grows, head_new}
use Rattle.lines.proofs.index.Index.with_slots.Goals.{then-self-m-gt0, else-self-m-gt0}
use Rattle.lines.proofs.index.Index.with_slots.Goals as goal

pub loop-m-preserved : goal.loop-m-preserved
loop-m-preserved g c =
    let m = c.loop-m.m in
    let old = c.loop-m.marked in
    let before = c.loop-m.invariant in
    elim c.if-self-m-gt0.branch [
      | then-self-m-gt0 w ↦
          let is = inserted m w.insert.result w.insert.ensures in
          subst (λ (s : MarkSet). (s.width ≡ c.args.first.width) × ((k : ℕ) → k < m + 1 → 0 < get_or c.args.self.now.last k 0 → k ∈ marks_of s)) (sym w.marked-is) (
            is.width ∙ before.0,
            λ k l some.
                equal_within (sym is.marks) k
                (elim (cases_eq k m) [
                  | inl e ↦
                      let a = c.loop-m-test.true in
                      let b = before.0 in
                      let end = c.width-m-end.ensures in
                      subst (λ (x : ℕ). x ∈ with_head old.width (Some m) (marks_of old)) (sym e) (head_new old.width m (marks_of old) (omega arith))
                  | inr ne ↦ head_grows old.width (Some m) (marks_of old) k (before.1 k (omega arith) some)
                ]),
          )
      | else-self-m-gt0 w ↦
          subst (λ (s : MarkSet). (s.width ≡ c.args.first.width) × ((k : ℕ) → k < m + 1 → 0 < get_or c.args.self.now.last k 0 → k ∈ marks_of s)) (sym w.marked-is) (
            before.0,
            λ k l some.
                elim (cases_eq k m) [
                  | inl e ↦ let z = w.if-self-m-gt0.false in absurd (let t = subst (λ (x : ℕ). 0 < get_or c.args.self.now.last x 0) e some in omega arith)
                  | inr ne ↦ before.1 k (omega arith) some
                ],
          )
    ]
