use Rattle.std.proofs.Common.{refl, ◌∙◌, inl, inr}
use Rattle.lines.proofs.Growths.{met_width, met_only, met_others}
use Rattle.lines.proofs.growth.Growth.keep_fresh.Goals as goal

pub invariant_of-self : goal.invariant_of-self
invariant_of-self c =
    let old = c.args.self.now in
    record {
      one_width = met_width c.args.other.now c.intersect_with.result c.intersect_with.ensures ∙ old.one_width;
      inside = λ m t. old.inside m (met_only c.args.other.now c.intersect_with.result c.intersect_with.ensures m t);
    }

pub returns : goal.returns
returns c =
    let old = c.args.self.now in
    record {
      set = refl;
      stood = refl;
      only = met_only c.args.other.now c.intersect_with.result c.intersect_with.ensures;
      others = λ m t.
          elim (met_others c.args.other.now c.intersect_with.result c.intersect_with.ensures m t) [
            | inl still ↦ inl still
            | inr lost ↦ inr (c.args.other.now, refl, lost.0 ∙ old.one_width, lost.1)
          ];
    }
