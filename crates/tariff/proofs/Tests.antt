-- A test of two numbers, either way.
use Rattle.std.proofs.Common.{ℕ, ◌<◌, ◌≤◌, cond, ltb}
use Rattle.std.proofs.lemmas.Bool.{cond_both, ltb-true, ltb-false}

pub cond_lt : {A : Type 0} (a b : ℕ) (x y : A) (P : A → Type 0) → (a < b → P x) → (b ≤ a → P y) → P (cond (ltb a b) x y)
cond_lt a b x y P below from = cond_both (ltb a b) x y P (λ e. below (ltb-true a b e)) (λ e. from (ltb-false a b e))
