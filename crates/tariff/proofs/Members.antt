-- The marks of a set as a list, and a list of marks as a set.
use Rattle.std.proofs.Common.{◌≡◌, ℕ, zero, suc, ◌+◌, ◌-◌, ◌<◌, ◌≤◌, Bool, true, false, cond, ◌&&◌, ◌||◌, eqb, ltb, ◌⊎◌, List, [], ◌∷◌, ◌++◌, length, sym, refl, ap, ◌∙◌, subst, ap₂, inl, inr, ⊎_elim, add-zero, add-suc, add-one, arith, length-append}
use mathlib.Core.Path.{fun_ext}
use Rattle.std.proofs.lemmas.List.{append-nil}
use Rattle.std.proofs.lemmas.Bool.{cond_both, cases_eq, cases_lt, eq-eqb, ne_eqb, lt-ltb, le-ltb}
use Rattle.std.proofs.lemmas.Bool.Decides.{nat_tests}
use Rattle.marks.specs.Sets.{Marks, ◌∈◌, OfWidth, no_marks, with_mark, size, Lowest}
use Rattle.marks.proofs.Sets.{is_true, is_false, past_width, with_inside}
use Rattle.tariff.specs.Facts.{members, adding}
use Rattle.tariff.specs.Lists.{Ascending}

pub length_members : (w : ℕ) (S : Marks) → length (members w S) ≡ size w S
unfolding members size
length_members zero S = refl
length_members (suc w) S =
    length-append (members w S) (cond (S w) (w ∷ []) [])
    ∙ ap₂ (λ (x y : ℕ). x + y) (length_members w S) (one (S w))
  where
    one : (b : Bool) → length (cond b (w ∷ []) []) ≡ cond b 1 0
    one true = refl
    one false = refl

members_same : (w : ℕ) (S S' : Marks) → ((k : ℕ) → k < w → S k ≡ S' k) → members w S ≡ members w S'
unfolding members
members_same zero S S' h = refl
members_same (suc w) S S' h = ap₂ (λ (xs : List ℕ) (b : Bool). xs ++ cond b (w ∷ []) []) (members_same w S S' (λ k l. h k (omega arith))) (h w (omega arith))

-- a turn over the marks: nothing lies from a up to w, or m is the next mark
gap_by : (a d : ℕ) (S : Marks) → ((k : ℕ) → a ≤ k → k < a + d → k ∈ S → ⊥) → members (a + d) S ≡ members a S
unfolding members
gap_by a zero S none = ap (λ n. members n S) (add-zero a)
gap_by a (suc d) S none =
    ap (λ n. members n S) (add-suc a d)
    ∙ ap₂ (λ (xs : List ℕ) (b : Bool). xs ++ cond b ((a + d) ∷ []) []) (gap_by a d S (λ k h l. none k h (omega arith))) (is_false (S (a + d)) (none (a + d) (omega arith) (omega arith)))
    ∙ append-nil (members a S)

pub members_gap : (a w : ℕ) (S : Marks) → a ≤ w → ((k : ℕ) → a ≤ k → k < w → k ∈ S → ⊥) → members w S ≡ members a S
members_gap a w S h none =
    let e : a + (w - a) ≡ w = omega arith in
    ap (λ n. members n S) (sym e) ∙ gap_by a (w - a) S (λ k x y. none k x (omega arith))

pub members_next : (S : Marks) (a m : ℕ) → Lowest S a m → members (m + 1) S ≡ members a S ++ m ∷ []
unfolding members
members_next S a m low =
    ap (λ n. members n S) (add-one m)
    ∙ ap₂ (λ (xs : List ℕ) (b : Bool). xs ++ cond b (m ∷ []) []) (members_gap a m S low.after low.first) (is_true (S m) low.held)

-- ascending lists
ascending_wider : (v w least : ℕ) (ms : List ℕ) → v ≤ w → Ascending v least ms → Ascending w least ms
ascending_wider v w least [] h a = tt
ascending_wider v w least (m ∷ ms) h a = (a.0, omega arith, ascending_wider v w (m + 1) ms h a.2)

ascending_push : (v w least : ℕ) (ms : List ℕ) → v < w → least ≤ v → Ascending v least ms → Ascending w least (ms ++ v ∷ [])
ascending_push v w least [] h l a = (l, h, tt)
ascending_push v w least (m ∷ ms) h l a = let b = a.1 in (a.0, omega arith, ascending_push v w (m + 1) ms h (omega arith) a.2)

pub members_ascending : (w : ℕ) (S : Marks) → Ascending w 0 (members w S)
unfolding members
members_ascending zero S = tt
members_ascending (suc w) S =
    let before = members_ascending w S in
    cond_both (S w) (w ∷ []) [] (λ l. Ascending (suc w) 0 (members w S ++ l))
    (λ e. ascending_push w (suc w) 0 (members w S) (omega arith) (omega arith) before)
    (λ e. subst (Ascending (suc w) 0) (sym (append-nil (members w S))) (ascending_wider w (suc w) 0 (members w S) (omega arith) before))

-- the last place of an ascending list below suc w: taken by w, or free
ascending_last : (w least : ℕ) (ms : List ℕ) → Ascending (suc w) least ms → Ascending w least ms ⊎ ((xs : List ℕ) × (ms ≡ xs ++ w ∷ []) × Ascending w least xs)
ascending_last w least [] a = inl tt
ascending_last w least (m ∷ ms) a =
    let h = a.1 in
    ⊎_elim
    (λ (e : m ≡ w). inr ([], ap₂ (λ (x : ℕ) (l : List ℕ). x ∷ l) e (none ms a.2 e), tt))
    (λ (ne : m ≡ w → ⊥). ⊎_elim
    (λ (b : Ascending w (m + 1) ms). inl (a.0, omega arith, b))
    (λ (b : (xs : List ℕ) × (ms ≡ xs ++ w ∷ []) × Ascending w (m + 1) xs). inr (m ∷ b.0, ap (λ l. m ∷ l) b.1, (a.0, omega arith, b.2)))
    (ascending_last w (m + 1) ms a.2))
    (cases_eq m w)
  where
    none : (ms : List ℕ) → Ascending (suc w) (m + 1) ms → m ≡ w → ms ≡ []
    none [] a e = refl
    none (x ∷ ms) a e = let l = a.0 in let h = a.1 in absurd (omega arith)

-- lists as sets
adding_append : (S : Marks) (xs ys : List ℕ) → adding S (xs ++ ys) ≡ adding (adding S xs) ys
adding_append S [] ys = refl
adding_append S (x ∷ xs) ys = adding_append (with_mark S x) xs ys

pub adding_inside : (w least : ℕ) (S : Marks) (ms : List ℕ) → OfWidth w S → Ascending w least ms → OfWidth w (adding S ms)
adding_inside w least S [] inside a = inside
adding_inside w least S (m ∷ ms) inside a = adding_inside w (m + 1) (with_mark S m) ms (with_inside w S m a.1 inside) a.2

pub none_inside : (w : ℕ) → OfWidth w no_marks
none_inside w m t = absurd t

-- the marks of S below w
abbrev cut : ℕ → Marks → Marks
cut w S m = ltb m w && S m

ltb_more : (m w : ℕ) → (m ≡ w → ⊥) → ltb m w ≡ ltb m (suc w)
ltb_more m w h = grind (arith, nat_tests)

cut_more : (w : ℕ) (S : Marks) (b : Bool) → S w ≡ b → adding (cut w S) (cond b (w ∷ []) []) ≡ cut (suc w) S
cut_more w S true e = fun_ext (λ m. ⊎_elim
    (λ (h : m ≡ w). ap (λ k. eqb k w || cut w S k) h ∙ ap₂ (λ (x y : Bool). x || y) (eq-eqb w w refl) refl ∙ sym (ap (cut (suc w) S) h ∙ ap₂ (λ (x y : Bool). x && y) (lt-ltb w (suc w) (omega arith)) e))
    (λ (h : m ≡ w → ⊥). ap₂ (λ (x y : Bool). x || y) (ne_eqb m w h) refl ∙ ap (λ x. x && S m) (ltb_more m w h))
    (cases_eq m w))
cut_more w S false e = fun_ext (λ m. ⊎_elim
    (λ (h : m ≡ w). ap (cut w S) h ∙ ap₂ (λ (x y : Bool). x && y) (le-ltb w w (omega arith)) refl ∙ sym (ap (cut (suc w) S) h ∙ ap₂ (λ (x y : Bool). x && y) (lt-ltb w (suc w) (omega arith)) e))
    (λ (h : m ≡ w → ⊥). ap (λ x. x && S m) (ltb_more m w h))
    (cases_eq m w))

adding_cut : (w : ℕ) (S : Marks) → adding no_marks (members w S) ≡ cut w S
unfolding members
adding_cut zero S = fun_ext (λ m. sym (ap (λ b. b && S m) (le-ltb m 0 (omega arith))))
adding_cut (suc w) S =
    adding_append no_marks (members w S) (cond (S w) (w ∷ []) [])
    ∙ ap (λ X. adding X (cond (S w) (w ∷ []) [])) (adding_cut w S)
    ∙ cut_more w S (S w) refl

-- the marks of a set make up the set
pub adding_members : (w : ℕ) (S : Marks) → OfWidth w S → adding no_marks (members w S) ≡ S
adding_members w S inside = adding_cut w S ∙ fun_ext (λ m. ⊎_elim
    (λ (h : m < w). ap (λ b. b && S m) (lt-ltb m w h))
    (λ (h : w ≤ m). ap (λ b. b && S m) (le-ltb m w h) ∙ sym (past_width w S inside m h))
    (cases_lt m w))

-- an ascending list is the marks of the set that it makes up
pub members_adding : (w : ℕ) (ms : List ℕ) → Ascending w 0 ms → members w (adding no_marks ms) ≡ ms
unfolding members
members_adding zero [] a = refl
members_adding zero (m ∷ ms) a = let h = a.1 in absurd (omega arith)
members_adding (suc w) ms a =
    ⊎_elim
    (λ (b : Ascending w 0 ms).
    ap₂ (λ (xs : List ℕ) (t : Bool). xs ++ cond t (w ∷ []) []) (members_adding w ms b) (past_width w (adding no_marks ms) (adding_inside w 0 no_marks ms (none_inside w) b) w (omega arith))
    ∙ append-nil ms)
    (λ (b : (xs : List ℕ) × (ms ≡ xs ++ w ∷ []) × Ascending w 0 xs).
    let set : adding no_marks ms ≡ with_mark (adding no_marks b.0) w = ap (adding no_marks) b.1 ∙ adding_append no_marks b.0 (w ∷ []) in
    let below : members w (adding no_marks ms) ≡ b.0 =
    ap (members w) set ∙ members_same w (with_mark (adding no_marks b.0) w) (adding no_marks b.0) (λ k l. ap (λ x. x || adding no_marks b.0 k) (ne_eqb k w (λ e. omega arith))) ∙ members_adding w b.0 b.2 in
    let top : adding no_marks ms w ≡ true = ap (λ (X : Marks). X w) set ∙ ap (λ x. x || adding no_marks b.0 w) (eq-eqb w w refl) in
    ap₂ (λ (xs : List ℕ) (t : Bool). xs ++ cond t (w ∷ []) []) below top ∙ sym b.1)
    (ascending_last w 0 ms a)
