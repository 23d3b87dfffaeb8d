-- Following fresh marks, until all lines that fire were brought in.
use Rattle.std.proofs.Common.{◌≡◌, ℕ, ◌-◌, ◌<◌, ◌⊎◌, true, not, eqb, List, [], ◌∷◌, Some, sym, refl, ap, ◌∙◌, subst, inl, inr, arith}
use Rattle.std.proofs.lemmas.Bool.{cases_eq, eq-eqb, ne_eqb}
use Rattle.std.proofs.lemmas.Bool.{or_cases as true_cases, or_left as true_left, or_right as true_right}
use mathlib.Core.List.Memᴰ
use mathlib.Core.List.{Memᴰ}
use Rattle.std.specs.List.{slice_get}
use Rattle.std.specs.Option.{option_map}
use Rattle.std.proofs.ByRecursion.{All-get_or}
use Rattle.std.proofs.Common.{take}
use Rattle.std.proofs.lemmas.List.{take_all}
use Rattle.std.proofs.lemmas.Option.{slice_get-map, slice_get_within, get_or_from_slice_get}
use Rattle.marks.specs.declared.set.MarkSet.{MarkSet}
use Rattle.marks.specs.MarkSets.{marks_of}
use Rattle.marks.specs.Sets.{Marks, ◌∈◌, ◌⊆◌, ◌∖◌, with_mark, size, among}
use Rattle.marks.proofs.Sets.{equal_within, holds, fails}
use lib.Dec.{ltb→lt}
use Rattle.marks.proofs.Sizes.{size_le}
use Rattle.readings.specs.Rules.{AllIn}
use Rattle.readings.proofs.Listing.{among_in, in_among}
use Rattle.readings.proofs.Sets.{both, left, right, or_left, or_right, or_cases, less_in, less_left, less_out, decide, with_cases, with_within, with_old, with_new}
use Rattle.readings.proofs.Sizes.{size_more}
use Rattle.lines.specs.declared.growth.Growth.{Growth}
use Rattle.lines.specs.declared.index.Index.{Index}
use Rattle.lines.specs.Agendas.{named}
use Rattle.lines.specs.Brings.{BringsSome}
use Rattle.lines.specs.Follows.{Ready, Follows}
use Rattle.lines.specs.Growths.{Kept, TakenOne}
use Rattle.lines.specs.Indexes.{ShortList, named_for, list_at, Indexes}
use Rattle.lines.specs.Passes.{View, conditions_of, Passes}
use Rattle.lines.specs.Passes.{stood as stood_at}
use Rattle.lines.specs.Theorems.{Fires, HasTheirHeads, SomeHeadless}
use Rattle.lines.proofs.Indexing.{list_there}
use Rattle.lines.proofs.Naming.{mem_at, named_in, named_there}
use Rattle.lines.proofs.Passing.{swept_grows, swept_least, swept_heads, swept_stood, stood_stands}

pub headless_grows : {vs : List View} {S S' : Marks} → S ⊆ S' → SomeHeadless vs S → SomeHeadless vs S'
headless_grows s d =
    record {
      it = d.it;
      fires = record { line = d.fires.line; admitted = d.fires.admitted; conditions = λ m i. s m (d.fires.conditions m i) };
      headless = d.headless;
    }

-- a line that fires among some of the lines fires among all
fires_among : {us vs : List View} → ((v : View) → Memᴰ v us → Memᴰ v vs) → {v : View} {S : Marks} → Fires us v S → Fires vs v S
fires_among all f = record { line = all _ f.line; admitted = f.admitted; conditions = f.conditions }

fires_within : {vs : List View} {v : View} {S S' : Marks} → S ⊆ S' → Fires vs v S → Fires vs v S'
fires_within s f = record { line = f.line; admitted = f.admitted; conditions = λ m i. s m (f.conditions m i) }

heads_among : {us vs : List View} {w : ℕ} {Z : Marks} → ((v : View) → Memᴰ v us → Memᴰ v vs) → HasTheirHeads w vs Z → HasTheirHeads w us Z
heads_among all h v m f e l = h v m (fires_among all f) e l

-- what a growth that began at `before` has become, whatever lines were passed: it grew by heads alone, and what it tells is so
pub record Grows (vs : List View) (before here : Growth) : Type 0 where
  pub width : here.set.width ≡ before.set.width
  pub around : marks_of before.set ⊆ marks_of here.set
  pub least : (Z : Marks) → marks_of before.set ⊆ Z → HasTheirHeads before.set.width vs Z → marks_of here.set ⊆ Z
  pub stands : (before.stood ≡ true → SomeHeadless vs (marks_of before.set)) → here.stood ≡ true → SomeHeadless vs (marks_of here.set)

-- the marks that are done
abbrev pub done : Growth → Marks
done g = marks_of g.set ∖ marks_of g.fresh

module _ (vs : List View) (is : List ℕ) (before here after : Growth) (passes : Passes (named vs is) here after) where
  abbrev us : List View
  us = named vs is

  pub pass_grows : marks_of here.set ⊆ marks_of after.set
  pass_grows m t = equal_within (sym passes.set.marks) m (swept_grows here.set.width us (marks_of here.set) m t)

  pub grows_more : Grows vs before here → Grows vs before after
  grows_more g =
      record {
        width = passes.set.width ∙ g.width;
        around = λ m t. pass_grows m (g.around m t);
        least = λ Z z h m t.
            swept_least here.set.width us (marks_of here.set) Z (g.least Z z h)
            (heads_among (λ v i. named_in vs is v i) (subst (λ (w : ℕ). HasTheirHeads w vs Z) (sym g.width) h)) m (equal_within passes.set.marks m t);
        stands = λ told e.
            elim (true_cases here.stood (stood_at here.set.width us (marks_of here.set)) (sym passes.told ∙ e)) [
              | inl before_told ↦ headless_grows pass_grows (g.stands told before_told)
              | inr now ↦
                  let s = stood_stands here.set.width us (marks_of here.set) now in
                  record { it = s.it; fires = fires_within (equal_within (sym passes.set.marks)) (fires_among (λ v i. named_in vs is v i) s.fires); headless = s.headless }
            ];
      }

pub grows_start : (vs : List View) (g : Growth) → Grows vs g g
grows_start vs g = record { width = refl; around = λ m t. t; least = λ Z z h. z; stands = λ told. told }

-- marks that all lie in D with m: they lie in D, or m is one of them
split : (ms : List ℕ) (D : Marks) (m : ℕ) → AllIn ms (with_mark D m) → AllIn ms D ⊎ Memᴰ m ms
split [] D m a = inl (λ k i. absurd (Memᴰ.not-nil i))
split (k ∷ ks) D m a =
    elim (with_cases D m k (a k (Memᴰ.head refl))) [
      | inl e ↦ inr (Memᴰ.head (sym e))
      | inr d ↦
          elim (split ks D m (λ j i. a j (Memᴰ.tail i))) [
            | inr i ↦ inr (Memᴰ.tail i)
            | inl b ↦ inl (λ j i. elim (Memᴰ.cases_cons i) [ inl e ↦ subst (λ (x : ℕ). x ∈ D) (sym e) d | inr i' ↦ b j i' ])
          ]
    ]

module _ {M : ℕ} (index : Index M) (vs : List View) (indexes : Indexes index (conditions_of vs)) where
  -- a line is found by each of its conditions
  line_found : (v : View) (m : ℕ) → Memᴰ v vs → Memᴰ m v.conditions → (i : ℕ) × ((slice_get vs i ≡ Some v) × (i ∈ among (named_for index m)))
  line_found v m line cond =
      let at = mem_at vs v line in
      let i = at.0 in
      let lists = conditions_of vs in
      let there : slice_get lists i ≡ Some v.conditions = slice_get-map (λ (u : View). u.conditions) vs i ∙ ap (option_map (λ (u : View). u.conditions)) at.1 in
      let low = slice_get_within lists i v.conditions there in
      let short : ShortList v.conditions =
      subst ShortList (get_or_from_slice_get lists i v.conditions [] there) (All-get_or ShortList lists i [] low indexes.short) in
      let place = mem_at v.conditions m cond in
      let below : m < 512 =
      subst (λ (x : ℕ). x < 512) (get_or_from_slice_get v.conditions place.0 m 0 place.1)
      (All-get_or (λ (x : ℕ). x < 512) v.conditions place.0 0 (slice_get_within v.conditions place.0 m place.1) short.below) in
      let room = indexes.room in
      let few = indexes.few in
      let listed : m ∈ among (take 8 (list_at lists i)) =
      subst (λ (ms : List ℕ). m ∈ among ms) (sym (ap (take 8) (list_there lists i v.conditions there) ∙ take_all 8 v.conditions short.few)) (among_in v.conditions cond) in
      (i, (at.1, indexes.is.all i m (omega arith) (omega arith) below listed))

  line_named : (v : View) (m : ℕ) → Memᴰ v vs → Memᴰ m v.conditions → Memᴰ v (named vs (named_for index m))
  line_named v m line cond =
      let f = line_found v m line cond in named_there vs (named_for index m) f.0 v (in_among f.0 (named_for index m) f.1.1) f.1.0

  -- where fresh marks that no line has are left out, nothing is lost
  pub ready_kept : (g g' : Growth) → Kept index.marked g g' → Ready vs g → Ready vs g'
  ready_kept g g' kept ready =
      let at : (v : View) → Fires vs v (done g') → Fires vs v (done g) =
      λ v f.
      record {
        line = f.line;
        admitted = f.admitted;
        conditions = λ c i.
            let t = f.conditions c i in
            let here : c ∈ marks_of g.set = equal_within (ap marks_of kept.set) c (less_left (marks_of g'.set) (marks_of g'.fresh) c t) in
            less_in (marks_of g.set) (marks_of g.fresh) c here
            (λ u.
            elim (kept.others c u) [
              | inl still ↦ less_out (marks_of g'.set) (marks_of g'.fresh) c t still
              | inr lost ↦
                  let found = line_found v c f.line i in
                  let l = ltb→lt c g.set.width (g.set.inside c here) in
                  let w = lost.2 in
                  lost.3 (indexes.is.marked found.0 c lost.0 found.1.1 lost.1 (omega arith))
            ]);
      } in
      record {
        heads = λ v h f e l.
            equal_within (sym (ap marks_of kept.set)) h
            (ready.heads v h (at v f) e (subst (λ (s : MarkSet). h < s.width) kept.set l));
        stands = λ v f e. kept.stood ∙ ready.stands v (at v f) e;
      }

-- one fresh mark was taken, and the lines with it were passed
module _ (vs : List View) (is : List ℕ) (m : ℕ) (g1 g2 g3 : Growth) (taken : TakenOne m g1 g2) (passes : Passes (named vs is) g2 g3) where
  abbrev S1 : Marks
  S1 = marks_of g1.set

  same_set : marks_of g2.set ≡ S1
  same_set = ap marks_of taken.set

  in_set : m ∈ S1
  in_set = g1.inside m taken.held

  grew : S1 ⊆ marks_of g3.set
  grew k t = pass_grows vs is g1 g2 g3 passes k (equal_within (sym same_set) k t)

  -- what is fresh then: what was, but for m, and what is new
  fresh_cases : (k : ℕ) → k ∈ marks_of g3.fresh → ((k ∈ marks_of g1.fresh) × (k ≡ m → ⊥)) ⊎ (k ∈ S1 → ⊥)
  fresh_cases k t =
      elim (or_cases (marks_of g2.fresh k) ((marks_of g3.set ∖ marks_of g2.set) k) (equal_within passes.fresh k t)) [
        | inl f ↦
            let u = equal_within taken.fresh k f in
            inl (right (not (eqb k m)) (marks_of g1.fresh k) u, λ e. fails (ap not (eq-eqb k m e)) (left (not (eqb k m)) (marks_of g1.fresh k) u))
        | inr n ↦ inr (λ s. less_out (marks_of g3.set) (marks_of g2.set) k n (equal_within (sym same_set) k s))
      ]

  fresh_still : (k : ℕ) → k ∈ marks_of g1.fresh → (k ≡ m → ⊥) → k ∈ marks_of g3.fresh
  fresh_still k f ne =
      equal_within (sym passes.fresh) k
      (or_left (marks_of g2.fresh k) ((marks_of g3.set ∖ marks_of g2.set) k)
      (equal_within (sym taken.fresh) k (both (not (eqb k m)) (marks_of g1.fresh k) (holds (ap not (ne_eqb k m ne))) f)))

  fresh_new : (k : ℕ) → k ∈ marks_of g3.set → (k ∈ S1 → ⊥) → k ∈ marks_of g3.fresh
  fresh_new k t n =
      equal_within (sym passes.fresh) k
      (or_right (marks_of g2.fresh k) ((marks_of g3.set ∖ marks_of g2.set) k)
      (less_in (marks_of g3.set) (marks_of g2.set) k t (λ u. n (equal_within same_set k u))))

  done_less : done g3 ⊆ with_mark (done g1) m
  done_less k t =
      let here = less_left (marks_of g3.set) (marks_of g3.fresh) k t in
      let stale = less_out (marks_of g3.set) (marks_of g3.fresh) k t in
      elim (decide (S1 k)) [
        | inr n ↦ absurd (stale (fresh_new k here n))
        | inl s ↦
            elim (cases_eq k m) [
              | inl e ↦ subst (λ (x : ℕ). x ∈ with_mark (done g1) m) (sym e) (with_new (done g1) m)
              | inr ne ↦ with_old (done g1) m k (less_in S1 (marks_of g1.fresh) k s (λ f. stale (fresh_still k f ne)))
            ]
      ]

  -- more is done
  pub done_more : (w : ℕ) → m < w → w - size w (done g3) < w - size w (done g1)
  done_more w l =
      let up : done g1 ⊆ done g3 =
      λ k t.
      let s = less_left S1 (marks_of g1.fresh) k t in
      less_in (marks_of g3.set) (marks_of g3.fresh) k (grew k s)
      (λ f. elim (fresh_cases k f) [ inl old ↦ less_out S1 (marks_of g1.fresh) k t old.0 | inr n ↦ n s ]) in
      let now : m ∈ done g3 =
      less_in (marks_of g3.set) (marks_of g3.fresh) m (grew m in_set)
      (λ f. elim (fresh_cases m f) [ inl old ↦ old.1 refl | inr n ↦ n in_set ]) in
      let more = size_more w (done g1) (done g3) up m l now (λ t. less_out S1 (marks_of g1.fresh) m t taken.held) in
      let most = size_le w (done g3) in
      omega arith

  module _ (named_all : (v : View) → Memᴰ v vs → Memᴰ m v.conditions → Memᴰ v (named vs is)) where
    -- a line that fires where D and m are fires where D is, or has m and was passed
    fires_split : (v : View) → Fires vs v (done g3) → Fires vs v (done g1) ⊎ Fires (named vs is) v (marks_of g2.set)
    fires_split v f =
        elim (split v.conditions (done g1) m (λ k i. done_less k (f.conditions k i))) [
          | inl a ↦ inl (record { line = f.line; admitted = f.admitted; conditions = a })
          | inr i ↦
              inr (record {
                line = named_all v f.line i;
                admitted = f.admitted;
                conditions = λ k j.
                    equal_within (sym same_set) k
                    (with_within (done g1) S1 m in_set (less_left S1 (marks_of g1.fresh)) k (done_less k (f.conditions k j)));
              })
        ]

    pub ready_more : Ready vs g1 → Ready vs g3
    ready_more ready =
        let w : g3.set.width ≡ g1.set.width = passes.set.width ∙ ap (λ (s : MarkSet). s.width) taken.set in
        record {
          heads = λ v h f e l.
              elim (fires_split v f) [
                | inl d ↦ grew h (ready.heads v h d e (subst (λ (n : ℕ). h < n) w l))
                | inr p ↦
                    equal_within (sym passes.set.marks) h
                    (swept_heads g2.set.width (named vs is) (marks_of g2.set) v h p e (subst (λ (n : ℕ). h < n) passes.set.width l))
              ];
          stands = λ v f e.
              passes.told
              ∙ elim (fires_split v f) [
                | inl d ↦ true_left g2.stood (stood_at g2.set.width (named vs is) (marks_of g2.set)) (taken.stood ∙ ready.stands v d e)
                | inr p ↦
                    true_right g2.stood (stood_at g2.set.width (named vs is) (marks_of g2.set))
                    (swept_stood g2.set.width (named vs is) (marks_of g2.set) v p e)
              ];
        }

-- a fresh mark is one of the width
pub taken_below : (m : ℕ) (g g' : Growth) → TakenOne m g g' → (w : ℕ) → g.set.width ≡ w → m < w
taken_below m g g' taken w e = let l = ltb→lt m g.set.width (g.set.inside m (g.inside m taken.held)) in omega arith

-- on the way
pub record Following {M : ℕ} (index : Index M) (vs : List View) (start here : Growth) : Type 0 where
  pub grows : Grows vs start here
  pub ready : Indexes index (conditions_of vs) → Ready vs start → Ready vs here

pub following_start : {M : ℕ} (index : Index M) (vs : List View) (g : Growth) → Following index vs g g
following_start index vs g = record { grows = grows_start vs g; ready = λ i r. r }

pub following_more : {M : ℕ} (index : Index M) (vs : List View) (m : ℕ) (start g1 g2 g3 : Growth) → TakenOne m g1 g2
    → Passes (named vs (named_for index m)) g2 g3 → Following index vs start g1 → Following index vs start g3
following_more index vs m start g1 g2 g3 taken passes so =
    let g = so.grows in
    let at : Grows vs start g2 =
    record {
      width = ap (λ (s : MarkSet). s.width) taken.set ∙ g.width;
      around = λ k t. equal_within (sym (ap marks_of taken.set)) k (g.around k t);
      least = λ Z z h k t. g.least Z z h k (equal_within (ap marks_of taken.set) k t);
      stands = λ told e. subst (λ (s : MarkSet). SomeHeadless vs (marks_of s)) (sym taken.set) (g.stands told (sym taken.stood ∙ e));
    } in
    record {
      grows = grows_more vs (named_for index m) start g2 g3 passes at;
      ready = λ i r. ready_more vs (named_for index m) m g1 g2 g3 taken passes (λ v. line_named index vs i v m) (so.ready i r);
    }

-- no mark is fresh any more
pub following_end : {M : ℕ} (index : Index M) (vs : List View) (before start here : Growth) → Kept index.marked before start
    → Following index vs start here → ((m : ℕ) → m ∈ marks_of here.fresh → ⊥) → Follows index vs before here
following_end index vs before start here kept so none =
    let g = so.grows in
    let same = kept.set in
    let some : (before.stood ≡ true → SomeHeadless vs (marks_of before.set)) → BringsSome vs before.set here.set here.stood =
    λ told.
    subst (λ (s : MarkSet). BringsSome vs s here.set here.stood) same
    (record {
      width = g.width;
      around = g.around;
      least = g.least;
      stands = g.stands (λ e. subst (λ (s : MarkSet). SomeHeadless vs (marks_of s)) (sym same) (told (sym kept.stood ∙ e)));
    }) in
    record {
      some = some;
      all = λ indexes ready told.
          let r = so.ready indexes (ready_kept index vs indexes before start kept ready) in
          let at : (v : View) → Fires vs v (marks_of here.set) → Fires vs v (done here) =
          λ v f. record { line = f.line; admitted = f.admitted; conditions = λ k i. less_in (marks_of here.set) (marks_of here.fresh) k (f.conditions k i) (none k) } in
          record {
            some = some told;
            heads = λ v h f e l. r.heads v h (at v f) e (subst (λ (n : ℕ). h < n) (sym (g.width ∙ ap (λ (s : MarkSet). s.width) same)) l);
            decided = ((some told).stands, λ s. r.stands s.it (at s.it s.fires) s.headless);
          };
    }
