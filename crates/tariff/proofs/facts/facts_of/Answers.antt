use Rattle.std.proofs.Common.{◌≡◌, ℕ, ◌≤◌, List, Result, sym, ap, ◌∙◌, subst, ⊎_elim}
use Rattle.tariff.proofs.Decoding.{bytes_fit}
use Rattle.std.proofs.lemmas.Result.{err_from_is_err_and}
use Rattle.marks.specs.declared.set.MarkSet.{MarkSet}
use Rattle.marks.specs.MarkSets.{BadWidth, IsSet}
use Rattle.marks.specs.Refusals.{Test}
use Rattle.marks.specs.Sets.{Marks, no_marks}
use Rattle.tariff.specs.declared.fault.NumberFault.{NumberFault}
use Rattle.tariff.specs.Numbers.{Bytes}
use Rattle.tariff.specs.Facts.{facts_at, FactsAnswer}
use Rattle.tariff.proofs.Strings.{right_facts}
use Rattle.tariff.proofs.facts.facts_of.Goals as goal

-- the empty set has the width that was asked for
made_width : (s : MarkSet) (w v : ℕ) → w ≡ v → Test (BadWidth w) ⊥ (IsSet s w no_marks) → s.width ≡ v
made_width s w v e t = ⊎_elim (λ h. absurd h.1) (λ h. h.1.width ∙ e) t

-- what was read for one width is right for an equal one
right_read : (v w : ℕ) (bs : List ℕ) (r : Result (Marks × ℕ) NumberFault) → w ≡ v → 1 ≤ v → Bytes bs → r ≡ facts_at w bs → (r ≡ facts_at v bs) × FactsAnswer v bs r
right_read v w bs r e some bytes h =
    let same = h ∙ ap (λ n. facts_at n bs) e in
    (same, subst (FactsAnswer v bs) (sym same) (right_facts v bs some bytes))

pub returns-in_err-read_string-clause-says : goal.returns-in_err-read_string-clause-says
returns-in_err-read_string-clause-says c =
    let out = err_from_is_err_and c.from_residual.result c.from_residual.ensures.1 in
    let wide = made_width c.in-Ok.set c.width.result c.args.old.now.width c.width.ensures c.in-Ok.ensures in
    let bytes = bytes_fit c.args.bytes.now c.type_inv.bytes in
    let right = right_read c.args.old.now.width c.in-Ok.set.width c.args.bytes.now _ wide c.args.old.now.some bytes c.in_err-read_string.ensures.value in
    rw (out.1, out.2) right.1

pub returns-clause-says : goal.returns-clause-says
returns-clause-says c =
    let wide = made_width c.in-Ok.set c.width.result c.args.old.now.width c.width.ensures c.in-Ok.ensures in
    let bytes = bytes_fit c.args.bytes.now c.type_inv.bytes in
    let here = c.in_ok-read_string.ensures in
    let right = right_read c.args.old.now.width c.in-Ok.set.width c.args.bytes.now _ wide c.args.old.now.some bytes here.value in
    right.1.0
