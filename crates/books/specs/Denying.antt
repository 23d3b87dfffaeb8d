-- A lawful book with denials laid on it is lawful.
use Rattle.std.specs.Prelude.{◌≡◌, ℕ, Bool, true, false, ◌||◌, T, List, [], ◌∷◌, refl}
use mathlib.Core.List.Memᴰ
use mathlib.Core.List.{Memᴰ}
use Rattle.std.proofs.Common.{inl, inr, subst, sym, ap, ◌∙◌}
use Rattle.marks.specs.Sets.{Marks, ◌∈◌, ◌⊆◌, below, OfWidth}
use Rattle.readings.specs.Books.{Book, Lawful}
use Rattle.readings.specs.Computed.{has_all}
use Rattle.readings.specs.Rules.{AllIn}
use Rattle.marks.proofs.Sets.{equal_within}
use Rattle.readings.proofs.Sets.{or_left, or_right, or_cases, decide}
use Rattle.readings.proofs.Listing.{has_all_in, in_has_all}
use Rattle.books.specs.Denials.{some_stands, all_where, denying}

-- what stands at a set stands at a greater one
pub stands_grows : (ds : List (List ℕ)) (S S' : Marks) → S ⊆ S' → T (some_stands ds S) → T (some_stands ds S')
stands_grows [] S S' s t = t
stands_grows (ms ∷ ds) S S' s t =
    elim (or_cases (has_all ms S) (some_stands ds S) t) [
      | inl h ↦ or_left (has_all ms S') (some_stands ds S') (in_has_all ms S' (λ m i. s m (has_all_in ms S h m i)))
      | inr h ↦ or_right (has_all ms S') (some_stands ds S') (stands_grows ds S S' s h)
    ]

-- some list stands exactly when all marks of one of them are there
pub stands_some : (ds : List (List ℕ)) (S : Marks) → T (some_stands ds S) → (ms : List ℕ) × Memᴰ ms ds × AllIn ms S
stands_some [] S t = absurd t
stands_some (ms ∷ ds) S t =
    elim (or_cases (has_all ms S) (some_stands ds S) t) [
      | inl h ↦ (ms, Memᴰ.head refl, has_all_in ms S h)
      | inr h ↦ let p = stands_some ds S h in (p.0, Memᴰ.tail p.1, p.2)
    ]

pub some_stand : (ds : List (List ℕ)) (S : Marks) (ms : List ℕ) → Memᴰ ms ds → AllIn ms S → T (some_stands ds S)
some_stand [] S ms i a = absurd (Memᴰ.not-nil i)
some_stand (d ∷ ds) S ms i a =
    elim (Memᴰ.cases_cons i) [
      | inl e ↦ or_left (has_all d S) (some_stands ds S) (in_has_all d S (subst (λ (ks : List ℕ). AllIn ks S) e a))
      | inr j ↦ or_right (has_all d S) (some_stands ds S) (some_stand ds S ms j a)
    ]

pub all_where_yes : (b : Bool) (w : ℕ) (S : Marks) → T b → all_where b w S ≡ below w
all_where_yes true w S t = refl
all_where_yes false w S t = absurd t

pub all_where_not : (b : Bool) (w : ℕ) (S : Marks) → (T b → ⊥) → all_where b w S ≡ S
all_where_not true w S f = absurd (f tt)
all_where_not false w S f = refl

module _ (B : Book) (law : Lawful B) (ds : List (List ℕ)) where
  abbrev w : ℕ
  w = B.width

  abbrev C : Marks → Marks
  C = B.closure

  abbrev k : Marks → Bool
  k S = B.clash S || some_stands ds (C S)

  abbrev D : Marks → Marks
  D S = all_where (k S) w (C S)

  -- the two cases of a closure
  pub data Way (S : Marks) : Type 0 where
    clashing : T (k S) → D S ≡ below w → Way S
    quiet : (T (k S) → ⊥) → D S ≡ C S → Way S

  pub which : (S : Marks) → Way S
  which S = elim (decide (k S)) [ inl t ↦ clashing t (all_where_yes (k S) w (C S) t) | inr f ↦ quiet f (all_where_not (k S) w (C S) f) ]

  k_grows : (S S' : Marks) → OfWidth w S → OfWidth w S' → S ⊆ S' → T (k S) → T (k S')
  k_grows S S' s s' i t =
      elim (or_cases (B.clash S) (some_stands ds (C S)) t) [
        | inl c ↦ or_left (B.clash S') (some_stands ds (C S')) (law.clash_grows S S' s s' i c)
        | inr c ↦ or_right (B.clash S') (some_stands ds (C S')) (stands_grows ds (C S) (C S') (law.monotone S S' s s' i) c)
      ]

  -- what the closure below clashes at, the set does
  k_back : (S : Marks) → OfWidth w S → T (k (C S)) → T (k S)
  k_back S s t =
      elim (or_cases (B.clash (C S)) (some_stands ds (C (C S))) t) [
        | inl c ↦ or_left (B.clash S) (some_stands ds (C S)) (law.clash_comes_back S s c)
        | inr c ↦ or_right (B.clash S) (some_stands ds (C S)) (subst (λ (X : Marks). T (some_stands ds X)) (law.idempotent S s) c)
      ]

  DWidth : (S : Marks) → OfWidth w S → OfWidth w (D S)
  DWidth S s m t = go (which S)
    where
      go : Way S → m ∈ below w
      go (clashing c e) = equal_within e m t
      go (quiet f e) = law.of_width S s m (equal_within e m t)

  -- the closure lies around the one below
  DAround : (S : Marks) → OfWidth w S → C S ⊆ D S
  DAround S s m t = go (which S)
    where
      go : Way S → m ∈ D S
      go (clashing c e) = equal_within (sym e) m (law.of_width S s m t)
      go (quiet f e) = equal_within (sym e) m t

  DGrows : (S S' : Marks) → OfWidth w S → OfWidth w S' → S ⊆ S' → D S ⊆ D S'
  DGrows S S' s s' i m t = go (which S)
    where
      go : Way S → m ∈ D S'
      go (clashing c e) = equal_within (sym (all_where_yes (k S') w (C S') (k_grows S S' s s' i c))) m (equal_within e m t)
      go (quiet f e) = DAround S' s' m (law.monotone S S' s s' i m (equal_within e m t))

  DTwice : (S : Marks) → OfWidth w S → D (D S) ≡ D S
  DTwice S s = go (which S)
    where
      go : Way S → D (D S) ≡ D S
      go (clashing c e) =
          let all : D (below w) ≡ below w =
          all_where_yes (k (below w)) w (C (below w)) (k_grows S (below w) s (λ m t. t) s c) in
          ap D e ∙ all ∙ sym e
      go (quiet f e) = ap D e ∙ all_where_not (k (C S)) w (C (C S)) (λ t. f (k_back S s t)) ∙ law.idempotent S s ∙ sym e

  pub denying_lawful : Lawful (denying B ds)
  denying_lawful =
      record {
        of_width = DWidth;
        extensive = λ S s m t. DAround S s m (law.extensive S s m t);
        monotone = DGrows;
        idempotent = DTwice;
        clash_grows = k_grows;
        clash_comes_back = λ S s t. elim (decide (k S)) [ inl c ↦ c | inr f ↦ k_back S s (subst (λ (X : Marks). T (k X)) (all_where_not (k S) w (C S) f) t) ];
        clash_gives_all = λ S s c. all_where_yes (k S) w (C S) c;
      }
