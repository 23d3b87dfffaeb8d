use Rattle.std.proofs.Common.{ℕ, ap, ◌∙◌}
use Rattle.marks.specs.MarkSets.{marks_of}
use Rattle.marks.specs.Sets.{outside}
use Rattle.settling.proofs.Answering.{given, gives_map}
use Rattle.settling.proofs.Fares.{fits}
use Rattle.settling.proofs.Yielding.{grown_past_F}
use Rattle.settling.proofs.trip.Trip.grown_past.Goals as goal

pub returns : goal.returns
returns g c =
    let t = c.args.self.now in
    let fit = fits (g.B.TermBook.book t.book.now) (g.met.B.TermBook.lawful t.book.now) t.lines.now t.facts.now t.goes in
    let F = c.args.refuted.now in
    let none = c.in_ok-none.none in
    let is = (given c.in_ok-none.ensures).marks in
    let outer = c.in_ok-complement.ensures.marks ∙ ap (λ (w : ℕ). outside w (marks_of F)) c.requires.refuted in
    gives_map c.grown.result (λ x grown. grown_past_F _ _ (record { exceptions = c.in_ok-complement.field-0; denied = none; refuted = none }) grown fit F outer is is) c.grown.ensures
