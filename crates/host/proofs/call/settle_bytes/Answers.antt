use Rattle.std.proofs.Common.{refl, subst}
use Rattle.std.proofs.lemmas.Result.{err_from_is_err_and}
use Rattle.marks.specs.MarkSets.{marks_of}
use Rattle.marks.specs.Sets.{Marks}
use Rattle.host.specs.Host.{AnswersIn, settled}
use Rattle.host.proofs.Outcomes.{refused_outcome}
use Rattle.host.proofs.call.settle_bytes.Goals as goal

pub returns-in_err-set : goal.returns-in_err-set
returns-in_err-set c =
    let p = err_from_is_err_and c.from_residual.result c.from_residual.ensures.1 in
    rw (p.1, p.2) (refused_outcome c.args.file.now c.args.facts.now c.args.out.now c.read_inputs.new.tables _ c.in_err-set.ensures)

pub returns : goal.returns
returns c =
    let inputs = c.in_ok-set.ensures in
    let judged = c.settle_facts-judged.result in
    let found = c.settle_facts-judged.ensures in
    let T : Marks = marks_of judged.settled.reading.lower in
    let U : Marks = marks_of judged.settled.reading.upper in
    settled c.read_inputs.new.tables (marks_of c.in_ok-set.set) inputs.0 inputs.2 inputs.3
    (record {
      lower = T;
      upper = U;
      reading = found.reading;
      answers = subst (λ w. AnswersIn w T U c.args.out.now c.write_answers.new.out) found.width c.write_answers.ensures;
      verdict = judged.verdict;
      says = found.verdict;
      number = refl;
    })
