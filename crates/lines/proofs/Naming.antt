-- The lines that an agenda names.
use Rattle.std.proofs.Common.{◌≡◌, ℕ, zero, suc, ◌+◌, ◌⊎◌, List, [], ◌∷◌, length, Some, None, Option, sym, refl, ap, ap₂, ◌∙◌, inl, inr, arith}
use mathlib.Core.List.Memᴰ
use mathlib.Core.List.{Memᴰ}
use Rattle.std.specs.List.{slice_get, cons_option}
use Rattle.std.proofs.lemmas.Option.{same_Some, none-some}
use Rattle.lines.specs.Agendas.{counting, named}
use Rattle.lines.specs.Passes.{View}

pub at_mem : {A : Type 0} (xs : List A) (i : ℕ) (x : A) → slice_get xs i ≡ Some x → Memᴰ x xs
at_mem [] i x e = absurd (none-some x e)
at_mem (y ∷ ys) zero x e = Memᴰ.head (sym (same_Some y x e))
at_mem (y ∷ ys) (suc i) x e = Memᴰ.tail (at_mem ys i x e)

pub mem_at : {A : Type 0} (xs : List A) (x : A) → Memᴰ x xs → (i : ℕ) × (slice_get xs i ≡ Some x)
mem_at [] x m = absurd (Memᴰ.not-nil m)
mem_at (y ∷ ys) x m =
    elim (Memᴰ.cases_cons m) [
      | inl e ↦ (zero, ap (λ z. Some z) (sym e))
      | inr j ↦ let p = mem_at ys x j in (suc p.0, p.1)
    ]

-- all numbers name all lines
named_on : (vs xs : List View) (a : ℕ) → ((k : ℕ) → slice_get vs (a + k) ≡ slice_get xs k) → named vs (counting a (length xs)) ≡ xs
named_on vs [] a at = refl
named_on vs (x ∷ xs) a at =
    let here : slice_get vs a ≡ Some x = (let z : a + 0 ≡ a = omega arith in sym (ap (slice_get vs) z) ∙ at 0) in
    let rest = named_on vs xs (a + 1) (λ k. let n : a + 1 + k ≡ a + suc k = omega arith in ap (slice_get vs) n ∙ at (suc k)) in
    ap₂ (λ (o : Option View) (us : List View). cons_option o us) here rest

pub named_all : (vs : List View) → named vs (counting 0 (length vs)) ≡ vs
named_all vs = named_on vs vs 0 (λ k. let z : 0 + k ≡ k = omega arith in ap (slice_get vs) z)

-- what is named is one of the lines
cons_mem : {A : Type 0} (o : Option A) (xs : List A) (x : A) → Memᴰ x (cons_option o xs) → (o ≡ Some x) ⊎ Memᴰ x xs
cons_mem None xs x m = inr m
cons_mem (Some y) xs x m = elim (Memᴰ.cases_cons m) [ inl e ↦ inl (ap (λ z. Some z) (sym e)) | inr i ↦ inr i ]

pub named_in : (vs : List View) (is : List ℕ) (v : View) → Memᴰ v (named vs is) → Memᴰ v vs
named_in vs [] v m = absurd (Memᴰ.not-nil m)
named_in vs (i ∷ is) v m =
    elim (cons_mem (slice_get vs i) (named vs is) v m) [ inl e ↦ at_mem vs i v e | inr j ↦ named_in vs is v j ]

-- and a line whose number is there is named
mem_cons : {A : Type 0} (o : Option A) (xs : List A) (x : A) → (o ≡ Some x) ⊎ Memᴰ x xs → Memᴰ x (cons_option o xs)
mem_cons None xs x (inl e) = absurd (none-some x e)
mem_cons None xs x (inr i) = i
mem_cons (Some y) xs x (inl e) = Memᴰ.head (sym (same_Some y x e))
mem_cons (Some y) xs x (inr i) = Memᴰ.tail i

pub named_there : (vs : List View) (is : List ℕ) (i : ℕ) (v : View) → Memᴰ i is → slice_get vs i ≡ Some v → Memᴰ v (named vs is)
named_there vs [] i v m e = absurd (Memᴰ.not-nil m)
named_there vs (j ∷ js) i v m e =
    mem_cons (slice_get vs j) (named vs js) v
    (elim (Memᴰ.cases_cons m) [
      | inl same ↦ inl (ap (slice_get vs) (sym same) ∙ e)
      | inr k ↦ inr (named_there vs js i v k e)
    ])
