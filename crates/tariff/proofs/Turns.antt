-- The bytes of a set's marks, one mark after another.
use Rattle.std.proofs.Common.{◌≡◌, ℕ, zero, suc, ◌+◌, ◌-◌, ◌<◌, ◌≤◌, cond, List, [], ◌∷◌, ◌++◌, length, sym, ap, ◌∙◌, add-zero, add-suc, arith, length-append}
use Rattle.std.specs.List.{flat_map}
use Rattle.std.proofs.lemmas.List.{append-nil, flat_map_more}
use Rattle.std.proofs.lemmas.Bool.{cond_both}
use Rattle.marks.specs.Sets.{Marks, ◌∈◌, Lowest}
use Rattle.tariff.specs.Facts.{members}
use Rattle.tariff.specs.Numbers.{encode}
use Rattle.tariff.proofs.Members.{members_gap, members_next}

-- the bytes of the marks below w
abbrev pub mark_bytes : ℕ → Marks → List ℕ
mark_bytes w S = flat_map encode (members w S)

pub bytes_next : (S : Marks) (a m : ℕ) → Lowest S a m → mark_bytes (m + 1) S ≡ mark_bytes a S ++ encode m
bytes_next S a m low = ap (flat_map encode) (members_next S a m low) ∙ sym (flat_map_more encode [] (members a S) m)

pub bytes_all : (a w : ℕ) (S : Marks) → a ≤ w → ((k : ℕ) → a ≤ k → k ∈ S → ⊥) → mark_bytes w S ≡ mark_bytes a S
bytes_all a w S h none = ap (flat_map encode) (members_gap a w S h (λ k l _. none k l))

grows : (a d : ℕ) (S : Marks) → length (mark_bytes a S) ≤ length (mark_bytes (a + d) S)
unfolding members
grows a zero S = let e = ap (λ n. length (mark_bytes n S)) (add-zero a) in omega arith
grows a (suc d) S =
    let before = grows a d S in
    let e = ap (λ n. length (mark_bytes n S)) (add-suc a d) in
    let more : length (mark_bytes (a + d) S) ≤ length (flat_map encode (members (a + d) S ++ cond (S (a + d)) ((a + d) ∷ []) [])) =
    cond_both (S (a + d)) ((a + d) ∷ []) [] (λ l. length (mark_bytes (a + d) S) ≤ length (flat_map encode (members (a + d) S ++ l)))
    (λ _. omega (arith, ap length (flat_map_more encode [] (members (a + d) S) (a + d)), length-append (mark_bytes (a + d) S) (encode (a + d))))
    (λ _. omega (arith, ap (λ l. length (flat_map encode l)) (append-nil (members (a + d) S)))) in
    omega arith

-- the next mark has room where all have
pub next_room : (S : Marks) (a m w : ℕ) → Lowest S a m → m < w → length (mark_bytes a S) + length (encode m) ≤ length (mark_bytes w S)
next_room S a m w low l =
    let e : (m + 1) + (w - (m + 1)) ≡ w = omega arith in
    let up = grows (m + 1) (w - (m + 1)) S in
    let same = ap (λ n. length (mark_bytes n S)) e in
    omega (arith, ap length (bytes_next S a m low), length-append (mark_bytes a S) (encode m))
