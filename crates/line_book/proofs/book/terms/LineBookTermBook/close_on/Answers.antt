use Rattle.std.proofs.Common.{◌≡◌, ℕ, List, map, sym, ◌∙◌, subst, inl, inr}
use Rattle.std.proofs.lemmas.Bool.{cases_eq}
use Rattle.marks.specs.MarkSets.{marks_of}
use Rattle.marks.specs.Sets.{OfWidth}
use Rattle.lines.specs.declared.term.TermLine.{TermLine}
use Rattle.lines.specs.Brings.{BringsOn}
use Rattle.lines.specs.Views.{term_view}
use Rattle.line_book.proofs.Bringing.{book_indexed, closed_all, closed_some, clean_done}
use Rattle.line_book.proofs.book.terms.LineBookTermBook.close_on.Goals as goal

pub returns : goal.returns
returns c =
    let book = c.args.self.now in
    let before = c.args.set.now in
    let closed = c.args.closed.now in
    let mid = c.bring_on.new.set in
    let after = c.give_all.new.set in
    let told = c.in_ok-clash.clash in
    elim c.in_ok-check_set_width.ensures [
      | inl f ↦ absurd f.1
      | inr is ↦
          elim c.in_ok-clash.ensures [
            | inl f ↦ absurd f.1.0
            | inr on ↦
                let width : closed.width ≡ book.width = elim (cases_eq before.width closed.width) [ inl e ↦ sym e ∙ is.1 | inr ne ↦ absurd (on.0 ne) ] in
                let brings = subst (λ (ls : List TermLine). BringsOn book.index (map term_view ls) (marks_of closed) before mid told) c.as_slice.ensures on.1 in
                let inside : OfWidth book.width (marks_of closed) = subst (λ (n : ℕ). OfWidth n (marks_of closed)) width closed.inside in
                inr (
                  (λ either. elim either [ inl f ↦ f is.1 | inr f ↦ f width ]),
                  closed_some book.width book.lines book.lawful before mid after told is.1 c.give_all.ensures brings.some (marks_of closed)
                      (λ clean.
                      closed_all book.width book.lines book.lawful before mid after told is.1 c.give_all.ensures
                      (brings.all (book_indexed book) (clean_done book.width book.lines before (marks_of closed) book.lawful is.1 inside clean))),
                )
          ]
    ]
