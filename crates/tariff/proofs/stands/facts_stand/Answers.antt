use Rattle.std.proofs.Common.{length, take, Ok, sym, ap, ◌∙◌, subst, arith}
use Rattle.tariff.specs.Facts.{facts_bytes, FactsAnswer}
use Rattle.tariff.proofs.Overlays.{written_first}
use Rattle.tariff.proofs.Strings.{right_facts, only_facts}
use Rattle.tariff.proofs.stands.facts_stand.Goals as goal

pub returns : goal.returns
returns c = record {
  answer = λ w bs r some small bytes. (λ e. subst (FactsAnswer w bs) e (right_facts w bs some bytes), only_facts w bs small r);
  back = λ w S out after n small inside h.
      let first = written_first out (facts_bytes w S) after n h in
      only_facts w (take n after) small (Ok (S, n)) (record { inside = inside; string = first }, omega (arith, ap length first, h.place));
  same = λ w bs S q out after n some bytes e h.
      written_first out (facts_bytes w S) after n h ∙ sym (subst (FactsAnswer w bs) e (right_facts w bs some bytes)).0.string;
}
