use Rattle.std.proofs.Common.{List, map, subst, inl, inr}
use Rattle.lines.specs.declared.term.TermLine.{TermLine}
use Rattle.lines.specs.Brings.{BringsIn}
use Rattle.lines.specs.Views.{term_view}
use Rattle.line_book.proofs.Bringing.{book_indexed, closed_all}
use Rattle.line_book.proofs.book.terms.LineBookTermBook.close.Goals as goal

pub returns : goal.returns
returns c =
    let book = c.args.self.now in
    let before = c.args.set.now in
    let mid = c.bring_all-clash.new.set in
    let told = c.bring_all-clash.result in
    let brings = subst (λ (ls : List TermLine). BringsIn book.index (map term_view ls) before mid told) c.as_slice.ensures c.bring_all-clash.ensures in
    elim c.in_ok-check_set_width.ensures [
      | inl f ↦ absurd f.1
      | inr is ↦ inr (is.0, closed_all book.width book.lines book.lawful before mid c.give_all.new.set told is.1 c.give_all.ensures (brings.all (book_indexed book)))
    ]
