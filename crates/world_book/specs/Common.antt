-- What the worlds that hold a set have in common, and that a world book is lawful.
use Rattle.std.specs.Prelude.{◌≡◌, ℕ, Bool, true, false, not, ◌&&◌, T, List, [], ◌∷◌, ◌++◌, refl}
use mathlib.Core.List.Memᴰ
use mathlib.Core.List.{Memᴰ}
use mathlib.Core.Bool.{and-true, and_assoc, and_comm}
use Rattle.std.proofs.Common.{inl, inr, subst, sym, ap, ap₂, ◌∙◌}
use Rattle.std.proofs.Math.Path.{fun_ext}
use Rattle.marks.specs.Sets.{Marks, ◌∈◌, ◌⊆◌, below, OfWidth}
use Rattle.readings.specs.Books.{Lawful}
use Rattle.marks.proofs.Sets.{same_sets}
use Rattle.readings.proofs.Sets.{both, left, right}
use Rattle.world_book.specs.Worlds.{lies_within, none_holds, kept, common, world_book}
use Rattle.world_book.specs.Theorems.{WorldBookSays}
use Rattle.world_book.specs.Holding.{to_lies, from_lies, none_from, to_none, some_holds}

-- one world more at the end

kept_swap : (a b : Bool) (V W X : Marks) → kept a V (kept b W X) ≡ kept b W (kept a V X)
kept_swap true true V W X = fun_ext (λ m. and_assoc (X m) (W m) (V m) ∙ ap (λ b. X m && b) (and_comm (W m) (V m)) ∙ sym (and_assoc (X m) (V m) (W m)))
kept_swap true false V W X = refl
kept_swap false b V W X = refl

module _ (w : ℕ) (S : Marks) where
  pub common_push : (Ws : List Marks) (W : Marks) → common w (Ws ++ W ∷ []) S ≡ kept (lies_within w S W) W (common w Ws S)
  common_push [] W = refl
  common_push (V ∷ Vs) W =
      ap (kept (lies_within w S V) V) (common_push Vs W) ∙ kept_swap (lies_within w S V) (lies_within w S W) V W (common w Vs S)

  pub none_push : (Ws : List Marks) (W : Marks) → none_holds w (Ws ++ W ∷ []) S ≡ none_holds w Ws S && not (lies_within w S W)
  none_push [] W = and-true (not (lies_within w S W))
  none_push (V ∷ Vs) W =
      let out = not (lies_within w S V) in
      ap (λ b. out && b) (none_push Vs W) ∙ sym (and_assoc out (none_holds w Vs S) (not (lies_within w S W)))

  -- one turn over the worlds
  pub common_step : (Ws : List Marks) (W : Marks) {Vs : List Marks} {X Y : Marks} {b : Bool} → Vs ≡ Ws ++ W ∷ [] → X ≡ common w Ws S → b ≡ lies_within w S W → Y ≡ kept b W X → Y ≡ common w Vs S
  common_step Ws W more is held e = e ∙ ap₂ (λ (b : Bool) (Z : Marks). kept b W Z) held is ∙ sym (common_push Ws W) ∙ ap (λ (Us : List Marks). common w Us S) (sym more)

  pub none_step : (Ws : List Marks) (W : Marks) {Vs : List Marks} {n b : Bool} → Vs ≡ Ws ++ W ∷ [] → n ≡ none_holds w Ws S → b ≡ lies_within w S W → n && not b ≡ none_holds w Vs S
  none_step Ws W more is held = ap₂ (λ (n b : Bool). n && not b) is held ∙ sym (none_push Ws W) ∙ ap (λ (Us : List Marks). none_holds w Us S) (sym more)

-- the marks of the width that each world has which holds the set

kept_in : (b : Bool) (W X : Marks) (m : ℕ) → m ∈ X → (T b → m ∈ W) → m ∈ kept b W X
kept_in true W X m x f = both (X m) (W m) x (f tt)
kept_in false W X m x f = x

kept_rest : (b : Bool) (W X : Marks) → kept b W X ⊆ X
kept_rest true W X m t = left (X m) (W m) t
kept_rest false W X m t = t

kept_has : (b : Bool) (W X : Marks) (m : ℕ) → m ∈ kept b W X → T b → m ∈ W
kept_has true W X m t u = right (X m) (W m) t
kept_has false W X m t u = absurd u

module _ (w : ℕ) (S : Marks) where
  pub common_width : (Ws : List Marks) → OfWidth w (common w Ws S)
  common_width [] m t = t
  common_width (V ∷ Vs) m t = common_width Vs m (kept_rest (lies_within w S V) V (common w Vs S) m t)

  pub in_common : (Ws : List Marks) (m : ℕ) → m ∈ below w → ((W : Marks) → Memᴰ W Ws → T (lies_within w S W) → m ∈ W) → m ∈ common w Ws S
  in_common [] m b f = b
  in_common (V ∷ Vs) m b f =
      kept_in (lies_within w S V) V (common w Vs S) m (in_common Vs m b (λ W i. f W (Memᴰ.tail i))) (f V (Memᴰ.head refl))

  pub common_in : (Ws : List Marks) (m : ℕ) → m ∈ common w Ws S → (W : Marks) → Memᴰ W Ws → S ⊆ W → m ∈ W
  common_in [] m t W i h = absurd (Memᴰ.not-nil i)
  common_in (V ∷ Vs) m t W i h =
      elim (Memᴰ.cases_cons i) [
        | inl e ↦
            let k : S ⊆ V = subst (λ (X : Marks). S ⊆ X) e h in
            subst (λ (X : Marks). m ∈ X) (sym e) (kept_has (lies_within w S V) V (common w Vs S) m t (to_lies w S V k))
        | inr j ↦ common_in Vs m (kept_rest (lies_within w S V) V (common w Vs S) m t) W j h
      ]

module _ (w : ℕ) (Ws : List Marks) where
  abbrev C : Marks → Marks
  C = common w Ws

  extends : (S : Marks) → OfWidth w S → S ⊆ C S
  extends S s m t = in_common w S Ws m (s m t) (λ W i h. from_lies w S W s h m t)

  -- a world that holds a set holds its closure
  holds_closure : (S W : Marks) → Memᴰ W Ws → S ⊆ W → C S ⊆ W
  holds_closure S W i h m t = common_in w S Ws m t W i h

  grows : (S S' : Marks) → OfWidth w S → OfWidth w S' → S ⊆ S' → C S ⊆ C S'
  grows S S' s s' i m t = in_common w S' Ws m (common_width w S Ws m t) (λ W j h. holds_closure S W j (λ k u. from_lies w S' W s' h k (i k u)) m t)

  twice : (S : Marks) → OfWidth w S → C (C S) ⊆ C S
  twice S s m t =
      in_common w S Ws m (common_width w (C S) Ws m t) (λ W i h. holds_closure (C S) W i (holds_closure S W i (from_lies w S W s h)) m t)

  pub none_all : (S : Marks) → OfWidth w S → T (none_holds w Ws S) → C S ≡ below w
  none_all S s t = same_sets (common_width w S Ws) (λ m b. in_common w S Ws m b (λ W i h. absurd (none_from w S s Ws t W i (from_lies w S W s h))))

  pub world_lawful : Lawful (world_book w Ws)
  world_lawful =
      record {
        of_width = λ S s. common_width w S Ws;
        extensive = extends;
        monotone = grows;
        idempotent = λ S s. same_sets (twice S s) (extends (C S) (common_width w S Ws));
        clash_grows = λ S S' s s' i t. to_none w S' s' Ws (λ W j h. none_from w S s Ws t W j (λ m u. h m (i m u)));
        clash_comes_back = λ S s t. to_none w S s Ws (λ W j h. none_from w (C S) (common_width w S Ws) Ws t W j (holds_closure S W j h));
        clash_gives_all = none_all;
      }

-- the book in the words of the rules
pub world_says : (w : ℕ) (Ws : List Marks) → ((W : Marks) → Memᴰ W Ws → OfWidth w W) → (S : Marks) → OfWidth w S → WorldBookSays w Ws S
world_says w Ws of S s =
    record {
      clashes = (none_from w S s Ws, to_none w S s Ws);
      all = none_all w Ws S s;
      common = λ quiet m. (
        (λ t W i h. common_in w S Ws m t W i h),
        λ f.
            let p = some_holds w S s Ws quiet in
            in_common w S Ws m (of p.0 p.1 m (f p.0 p.1 p.2)) (λ W i h. f W i (from_lies w S W s h)),
      );
    }
