use Rattle.std.proofs.Common.{◌≡◌, ℕ, suc, min, get_or, ap, ◌∙◌, arith, rules}
use Rattle.lines.proofs.Chains.{chain_step}
use Rattle.lines.proofs.index.TouchedAgenda.next.Goals as goal

pub returns : goal.returns
returns c =
    let before = c.args.self.now.before.now in
    let k = c.in_ok-slot.slot in
    let found : c.unwrap_or.result ≡ get_or before k 0 = search rules in
    let at : c.args.self.now.slot ≡ suc k = (let e = c.in_ok-slot.ensures in omega (arith, e.0, e.1)) in
    chain_step before c.args.self.now.slot k c.min-self.result at (c.min-self.ensures ∙ ap (λ (x : ℕ). min x k) found)
