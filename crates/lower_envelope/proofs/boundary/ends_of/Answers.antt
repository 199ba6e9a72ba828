use Rattle.std.proofs.Common.{◌∙◌, ap, map, sym, subst}
use Rattle.lower_envelope.specs.Corners.{AreOuterEnds}
use Rattle.lower_envelope.proofs.Numbers.{outer_have}
use Rattle.lower_envelope.proofs.VerticesThere.{end_ties, sorted_ends}
use Rattle.lower_envelope.proofs.boundary.ends_of.Goals as goal

pub sources_of-requires-clause-have : goal.sources_of-requires-clause-have
sources_of-requires-clause-have g c = outer_have (g.R.Darts.graph c.args.records.now) (g.R.Faced.faces c.args.records.now) c.args.boundary.now c.requires.boundary

pub returns : goal.returns
returns g c =
    let v = g.R.Darts.graph c.args.records.now in
    let f = g.R.Faced.faces c.args.records.now in
    subst (AreOuterEnds v f) (sym (c.in_ok-ends.ensures ∙ ap (map (λ k. k.vertex)) c.deref.ensures.value))
    (sorted_ends v c.requires.sound c.args.boundary.now (λ d m. ((c.requires.boundary d).0 m).0) f c.requires.boundary
    c.in_ok-keys.keys.items c.sort_unstable.new.self.items c.dedup.new.self.items _ c.in_ok-keys.ensures c.sort_unstable.ensures.permutation end_ties c.sort_unstable.ensures.sorted c.dedup.ensures.filtered)
