use Rattle.std.proofs.Common.{List, map, sym, subst, inl, inr}
use Rattle.lines.specs.declared.term.TermLine.{TermLine}
use Rattle.lines.specs.Indexes.{IsIndexOf}
use Rattle.lines.specs.Passes.{conditions_of}
use Rattle.lines.specs.Views.{term_view}
use Rattle.line_book.proofs.book.LineBook.fill.Goals as goal

pub invariant_of-self-clause-indexed : goal.invariant_of-self-clause-indexed
invariant_of-self-clause-indexed c =
    elim c.in_ok-check_records.ensures [
      | inl f ↦ absurd f.1
      | inr is ↦
          subst (λ (ls : List TermLine). IsIndexOf c.fill-2.new.self (conditions_of (map term_view ls))) (sym (c.fill.ensures.all is.1.few)) (c.fill-2.ensures tt)
    ]
