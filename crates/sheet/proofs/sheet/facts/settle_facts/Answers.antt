use Rattle.std.proofs.Common.{sym, ◌∙◌}
use Rattle.settling.proofs.Answering.{gives_map}
use Rattle.sheet.specs.Steps.{OtherWidth, Unlawful, Found}
use Rattle.sheet.proofs.Answering.{test_map, stable_equal}
use Rattle.sheet.proofs.sheet.facts.settle_facts.Goals as goal

pub returns : goal.returns
unfolding OtherWidth Unlawful Found
returns g c =
    test_map (λ f. f) (λ f. f)
    (λ alike. test_map (λ f. f) (λ f. f)
    (λ lawful. gives_map c.settle.result
    (λ j p.
    let width = stable_equal _ _ alike in
    record {
      width = p.settled.lower ∙ sym width;
      found = record { reading = p.settled.reading; rounds = p.settled.rounds; verdict = p.verdict };
    })))
    c.settle.ensures
