use Rattle.std.proofs.Common.{◌∙◌, ap, ap₂, sym, subst, length, map}
use Rattle.slab_laws.specs.Sound.{edge_in}
use Rattle.lower_envelope.specs.Edges.{AreOffered, IsInOrder, stretch_at, stretches_upto}
use Rattle.lower_envelope.proofs.Numbers.{outer_have, are_offered}
use Rattle.lower_envelope.proofs.Recorded.{ends_in_order, offered_forward}
use Rattle.lower_envelope.proofs.Told.{slanted_at, within_at, turns_at, slab_edges_at}
use Rattle.lower_envelope.proofs.slab_edges.slab_edges_of.Goals as goal

pub darts_of-requires-clause-have : goal.darts_of-requires-clause-have
darts_of-requires-clause-have g c = outer_have (g.R.Darts.graph c.args.records.now) (g.R.Faced.faces c.args.records.now) c.args.boundary.now c.requires.boundary

pub spans_of-requires-clause-forward : goal.spans_of-requires-clause-forward
spans_of-requires-clause-forward g c =
    let v = g.R.Darts.graph c.args.records.now in
    let f = g.R.Faced.faces c.args.records.now in
    let on = subst (AreOffered c.args.which v f) (sym c.in_ok-darts.ensures) (are_offered c.args.which v c.requires.sound.graph f c.args.boundary.now c.requires.boundary) in
    offered_forward v c.requires.sound.graph c.args.which f c.deref.result.now (subst (AreOffered c.args.which v f) (sym c.deref.ensures.value) on)

pub stretches_of-requires : goal.stretches_of-requires
stretches_of-requires g c =
    let v = g.R.Darts.graph c.args.records.now in
    let f = g.R.Faced.faces c.args.records.now in
    subst IsInOrder (sym (c.deref-2.ensures.value ∙ c.in_ok-points.ensures)) (ends_in_order v c.requires.sound.graph f c.requires.sound c.args.ends.now c.requires.ends)

pub outermost_of-requires-clause-slanted : goal.outermost_of-requires-clause-slanted
outermost_of-requires-clause-slanted g c =
    let w = c.args.which in
    let v = g.R.Darts.graph c.args.records.now in
    let f = g.R.Faced.faces c.args.records.now in
    let on = subst (AreOffered w v f) (sym c.in_ok-darts.ensures) (are_offered w v c.requires.sound.graph f c.args.boundary.now c.requires.boundary) in
    let along = c.in_ok-edges.ensures ∙ ap (map (edge_in v)) c.deref.ensures.value in
    slanted_at w v f c.requires.sound c.args.ends.now c.requires.ends c.in_ok-points.points.items c.in_ok-darts.darts.items c.in_ok-edges.edges.items c.in_ok-points.ensures on along c.deref-4.result.now c.deref-4.ensures.value

pub outermost_of-requires-clause-within : goal.outermost_of-requires-clause-within
outermost_of-requires-clause-within g c =
    let w = c.args.which in
    let v = g.R.Darts.graph c.args.records.now in
    let f = g.R.Faced.faces c.args.records.now in
    let on = subst (AreOffered w v f) (sym c.in_ok-darts.ensures) (are_offered w v c.requires.sound.graph f c.args.boundary.now c.requires.boundary) in
    let along = c.in_ok-edges.ensures ∙ ap (map (edge_in v)) c.deref.ensures.value in
    let ranges = c.deref-5.ensures.value ∙ c.in_ok-stretches.ensures ∙ ap₂ (λ p e. stretches_upto (stretch_at p e) (length e)) c.deref-2.ensures.value c.deref-3.ensures.value in
    within_at w v f c.requires.sound c.args.ends.now c.requires.ends c.in_ok-points.points.items c.in_ok-darts.darts.items c.in_ok-edges.edges.items c.in_ok-points.ensures on along c.deref-4.result.now c.deref-4.ensures.value c.deref-5.result.now ranges
    c.len.result (c.len.ensures ∙ sym c.deref-2.ensures.len ∙ ap length c.deref-2.ensures.value)

pub outermost_of-requires-clause-in_turn : goal.outermost_of-requires-clause-in_turn
outermost_of-requires-clause-in_turn g c =
    let w = c.args.which in
    let v = g.R.Darts.graph c.args.records.now in
    let f = g.R.Faced.faces c.args.records.now in
    let on = subst (AreOffered w v f) (sym c.in_ok-darts.ensures) (are_offered w v c.requires.sound.graph f c.args.boundary.now c.requires.boundary) in
    let along = c.in_ok-edges.ensures ∙ ap (map (edge_in v)) c.deref.ensures.value in
    let ranges = c.deref-5.ensures.value ∙ c.in_ok-stretches.ensures ∙ ap₂ (λ p e. stretches_upto (stretch_at p e) (length e)) c.deref-2.ensures.value c.deref-3.ensures.value in
    turns_at w v f c.requires.sound c.args.ends.now c.requires.ends c.in_ok-points.points.items c.in_ok-darts.darts.items c.in_ok-edges.edges.items c.in_ok-points.ensures on along c.deref-4.result.now c.deref-4.ensures.value c.deref-5.result.now ranges

pub returns : goal.returns
returns g c =
    let w = c.args.which in
    let v = g.R.Darts.graph c.args.records.now in
    let f = g.R.Faced.faces c.args.records.now in
    let on = subst (AreOffered w v f) (sym c.in_ok-darts.ensures) (are_offered w v c.requires.sound.graph f c.args.boundary.now c.requires.boundary) in
    let along = c.in_ok-edges.ensures ∙ ap (map (edge_in v)) c.deref.ensures.value in
    let ranges = c.deref-5.ensures.value ∙ c.in_ok-stretches.ensures ∙ ap₂ (λ p e. stretches_upto (stretch_at p e) (length e)) c.deref-2.ensures.value c.deref-3.ensures.value in
    record {
      points = c.in_ok-points.ensures;
      darts = on;
      edges = along;
      slabs =
          slab_edges_at w v f c.requires.sound c.args.ends.now c.requires.ends c.in_ok-points.points.items c.in_ok-darts.darts.items c.in_ok-edges.edges.items c.in_ok-points.ensures on along c.deref-4.result.now c.deref-4.ensures.value c.deref-5.result.now ranges
          c.in_ok-outermost.outermost.items c.in_ok-outermost.ensures.best c.in_ok-outermost.ensures.stand;
    }
