-- Marks that ascend one by one, as they are read, ascend as a lawful list does, and the other way.
use Rattle.std.proofs.Common.{ℕ, ◌+◌, ◌<◌, ◌≤◌, List, [], ◌∷◌, arith}
use Rattle.std.proofs.ByRecursion.{All-weaker}
use Rattle.std.specs.List.{AllByRecursion}
use Rattle.lines.specs.Lawful.{Ascends, AllBelow}
use Rattle.tariff.specs.Lists.{Ascending}

at_least : (w least : ℕ) (ms : List ℕ) → Ascending w least ms → AllByRecursion (λ m. least ≤ m) ms
at_least w least [] h = tt
at_least w least (m ∷ ms) h = (h.0, All-weaker (λ k. m + 1 ≤ k) (λ k. least ≤ k) (λ k l. omega (arith, h.0)) ms (at_least w (m + 1) ms h.2))

pub ascending_ascends : (w least : ℕ) (ms : List ℕ) → Ascending w least ms → Ascends ms × AllBelow w ms
ascending_ascends w least [] h = (tt, tt)
ascending_ascends w least (m ∷ ms) h =
    let rest = ascending_ascends w (m + 1) ms h.2 in
    ((All-weaker (λ k. m + 1 ≤ k) (λ k. m < k) (λ k l. omega arith) ms (at_least w (m + 1) ms h.2), rest.0), (h.1, rest.1))

ascends_from : (w least : ℕ) (ms : List ℕ) → AllByRecursion (λ m. least ≤ m) ms → Ascends ms → AllBelow w ms → Ascending w least ms
ascends_from w least [] l a b = tt
ascends_from w least (m ∷ ms) l a b =
    (l.0, b.0, ascends_from w (m + 1) ms (All-weaker (λ k. m < k) (λ k. m + 1 ≤ k) (λ k h. omega arith) ms a.0) a.1 b.1)

pub ascends_ascending : (w : ℕ) (ms : List ℕ) → Ascends ms → AllBelow w ms → Ascending w 0 ms
ascends_ascending w ms a b = ascends_from w 0 ms (All-weaker (λ m. m < w) (λ m. 0 ≤ m) (λ m h. omega arith) ms b) a b
