-- Lines brought in: all of them passed and fresh marks followed, or these alone.
use Rattle.std.proofs.Common.{◌≡◌, ℕ, ◌<◌, true, false, List, length, sym, ap, ◌∙◌, subst, inl, inr}
use Rattle.std.proofs.lemmas.Bool.{false≢true}
use Rattle.std.proofs.lemmas.Bool.{or_right as true_right}
use Rattle.marks.specs.declared.set.MarkSet.{MarkSet}
use Rattle.marks.specs.MarkSets.{marks_of}
use Rattle.marks.specs.Sets.{Marks, ◌∈◌, ◌∖◌, no_marks}
use Rattle.marks.proofs.Sets.{equal_within}
use Rattle.readings.proofs.Sets.{or_right, less_in, less_left, less_out, decide}
use Rattle.lines.specs.declared.growth.Growth.{Growth}
use Rattle.lines.specs.declared.index.Index.{Index}
use Rattle.lines.specs.Agendas.{named, counting}
use Rattle.lines.specs.Brings.{BringsSome, BringsAll, BringsIn, BringsOn}
use Rattle.lines.specs.Follows.{Ready, Follows}
use Rattle.lines.specs.Passes.{View, Passes}
use Rattle.lines.specs.Passes.{stood as stood_at}
use Rattle.lines.specs.Theorems.{Fires, HasTheirHeads, SomeHeadless}
use Rattle.lines.proofs.Following.{done, grows_start, grows_more}
use Rattle.lines.proofs.Naming.{named_all}
use Rattle.lines.proofs.Passing.{swept_heads, swept_stood}

-- after a pass over all lines from a set of which nothing is fresh, that set is done
pub passed_ready : (vs : List View) (before after : Growth) → Passes vs before after → ((m : ℕ) → m ∈ marks_of before.fresh → ⊥) → Ready vs after
passed_ready vs before after passes none =
    let at : (v : View) → Fires vs v (done after) → Fires vs v (marks_of before.set) =
    λ v f.
    record {
      line = f.line;
      admitted = f.admitted;
      conditions = λ k i.
          let t = f.conditions k i in
          elim (decide (marks_of before.set k)) [
            | inl s ↦ s
            | inr n ↦
                absurd (less_out (marks_of after.set) (marks_of after.fresh) k t
                (equal_within (sym passes.fresh) k
                (or_right (marks_of before.fresh k) ((marks_of after.set ∖ marks_of before.set) k)
                (less_in (marks_of after.set) (marks_of before.set) k (less_left (marks_of after.set) (marks_of after.fresh) k t) n))))
          ];
    } in
    record {
      heads = λ v h f e l.
          equal_within (sym passes.set.marks) h
          (swept_heads before.set.width vs (marks_of before.set) v h (at v f) e (subst (λ (n : ℕ). h < n) passes.set.width l));
      stands = λ v f e.
          passes.told ∙ true_right before.stood (stood_at before.set.width vs (marks_of before.set)) (swept_stood before.set.width vs (marks_of before.set) v (at v f) e);
    }

-- all lines were passed, and then fresh marks followed
pub brings_in : {M : ℕ} (index : Index M) (vs : List View) (is : List ℕ) (before : MarkSet) (g1 g2 g3 : Growth) → g1.set ≡ before
    → marks_of g1.fresh ≡ no_marks → g1.stood ≡ false → is ≡ counting 0 (length vs) → Passes (named vs is) g1 g2 → Follows index vs g2 g3
    → BringsIn index vs before g3.set g3.stood
brings_in index vs is before g1 g2 g3 set fresh stood all passes follows =
    let passed : Passes vs g1 g2 = subst (λ (us : List View). Passes us g1 g2) (ap (named vs) all ∙ named_all vs) passes in
    let g = grows_more vs is g1 g1 g2 passes (grows_start vs g1) in
    let told : g2.stood ≡ true → SomeHeadless vs (marks_of g2.set) = g.stands (λ e. absurd (false≢true (sym stood ∙ e))) in
    let some : BringsSome vs g2.set g3.set g3.stood → BringsSome vs before g3.set g3.stood =
    λ s.
    subst (λ (b : MarkSet). BringsSome vs b g3.set g3.stood) set
    (record {
      width = s.width ∙ g.width;
      around = λ m t. s.around m (g.around m t);
      least = λ Z z h. s.least Z (g.least Z z h) (subst (λ (n : ℕ). HasTheirHeads n vs Z) (sym g.width) h);
      stands = s.stands;
    }) in
    record {
      some = some (follows.some told);
      all = λ indexes.
          let ready = passed_ready vs g1 g2 passed (λ m t. equal_within fresh m t) in
          let brought = follows.all indexes ready told in
          record {
            some = some brought.some;
            heads = subst (λ (n : ℕ). HasTheirHeads n vs (marks_of g3.set)) (g.width ∙ ap (λ (b : MarkSet). b.width) set) brought.heads;
            decided = brought.decided;
          };
    }

-- fresh marks were followed from a set of which some marks are done
pub brings_on : {M : ℕ} (index : Index M) (vs : List View) (D : Marks) (before : MarkSet) (g1 g2 : Growth) → g1.set ≡ before
    → marks_of g1.fresh ≡ marks_of before ∖ D → g1.stood ≡ false → Follows index vs g1 g2 → BringsOn index vs D before g2.set g2.stood
brings_on index vs D before g1 g2 set fresh stood follows =
    let told : g1.stood ≡ true → SomeHeadless vs (marks_of g1.set) = λ e. absurd (false≢true (sym stood ∙ e)) in
    record {
      some = subst (λ (b : MarkSet). BringsSome vs b g2.set g2.stood) set (follows.some told);
      all = λ indexes was.
          let at : (v : View) → Fires vs v (done g1) → Fires vs v D =
          λ v f.
          record {
            line = f.line;
            admitted = f.admitted;
            conditions = λ k i.
                let t = f.conditions k i in
                elim (decide (D k)) [
                  | inl d ↦ d
                  | inr n ↦
                      absurd (less_out (marks_of g1.set) (marks_of g1.fresh) k t
                      (equal_within (sym fresh) k
                      (less_in (marks_of before) D k (equal_within (ap marks_of set) k (less_left (marks_of g1.set) (marks_of g1.fresh) k t)) n)))
                ];
          } in
          let ready : Ready vs g1 =
          record {
            heads = λ v h f e l.
                equal_within (sym (ap marks_of set)) h (was.heads v h (at v f) e (subst (λ (b : MarkSet). h < b.width) set l));
            stands = λ v f e. absurd (was.quiet (record { it = v; fires = at v f; headless = e }));
          } in
          subst (λ (b : MarkSet). BringsAll vs b g2.set g2.stood) set (follows.all indexes ready told);
    }
