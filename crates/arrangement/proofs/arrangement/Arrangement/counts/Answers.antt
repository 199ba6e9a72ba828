use Rattle.std.proofs.Common.{◌∙◌}
use Rattle.arrangement.proofs.CellsCounted.{layer_vertices, layer_edges, layer_faces, layer_inner, layer_bare, layer_few}
use Rattle.arrangement.proofs.arrangement.Arrangement.counts.Goals as goal

pub overflow_sub-result : goal.overflow_sub-result
overflow_sub-result g c = let e = c.counts-rows.ensures in (layer_few _ _ _ c.self.invariant.0 c.self.invariant.1.0.map.sound _ _ e.cycles e.faces).0

pub overflow_sub-result-2 : goal.overflow_sub-result-2
overflow_sub-result-2 g c = let e = c.counts-rows.ensures in (layer_few _ _ _ c.self.invariant.0 c.self.invariant.1.0.map.sound _ _ e.cycles e.faces).1

pub returns : goal.returns
returns g c =
    let l = c.self.invariant.0 in
    let s = c.self.invariant.1.0.map.sound in
    let e = c.counts-rows.ensures in
    rw (← c.self.view_is) (record {
      vertices = e.vertices ∙ layer_vertices _ _ _ l s;
      edges = layer_edges _ _ _ l s _ e.darts;
      faces = e.faces ∙ layer_faces _ _ _ l s;
      inner = layer_inner _ _ _ l s _ _ e.cycles e.faces;
      isolated = e.isolated ∙ layer_bare _ _ _ l s;
      curves = c.named.ensures;
    })
