use Rattle.std.proofs.Common.{ap, ◌∙◌}
use Rattle.std.specs.List.{list_any}
use Rattle.slab_laws.specs.declared.present.Piece.{Piece}
use Rattle.slab_laws.specs.Pieces.{piece_of}
use Rattle.slab_laws.specs.SpansDrawn.{edge_of}
use Rattle.slab_laws.specs.Overlay.{runs_along}
use Rattle.plain_slabs.specs.LayerEdges.{slab_beside}
use Rattle.plain_slabs.proofs.LayerPieces.{has_along_is}
use Rattle.plain_slabs.proofs.layer_cells.layer_edge.Goals as goal

pub returns : goal.returns
returns c =
    let e = edge_of c.args.edge.now in
    λ i.
    record {
      edge = c.args.edge.now;
      first = (c.slab_after.ensures ∙ ap (slab_beside c.args.points.now) c.lower.ensures.value) i;
      end = (c.slab_after-2.ensures ∙ ap (slab_beside c.args.points.now) c.upper.ensures) i;
      is_of_layer = (c.have_along.ensures ∙ ap (list_any (λ (k : Piece). runs_along e (piece_of k))) c.as_slice.ensures ∙ has_along_is c.args.layer.now e) i;
    }
