-- What the overlay's records tell of each layer, by name, and the text that they are.
use Rattle.std.proofs.Common.{◌≡◌, [], map, get_or, sym, ap, ap₂, ◌∙◌, subst}
use Rattle.std.specs.Prelude.{Some, slice_get}
use Rattle.std.specs.Option.{option_map}
use Rattle.std.specs.List.{list_any}
use Rattle.std.proofs.lemmas.List.{get_or-map}
use Rattle.std.proofs.lemmas.Option.{get_or_from_slice_get, slice_get-map}
use Rattle.exact_plane.specs.Point.{Point}
use Rattle.plane_graphs.specs.Piece.{Present}
use Rattle.plane_graphs.specs.Plane.{IsPlane}
use Rattle.slab_laws.specs.Darts.{Dart}
use Rattle.slab_laws.specs.FacesSound.{IsSound}
use Rattle.slab_laws.specs.Layers.{rows_of}
use Rattle.slab_laws.specs.Overlay.{both, overlay, curves_along, label}
use Rattle.slab_laws.specs.OverlayText.{presents_text}
use Rattle.slab_laws.specs.Rows.{dart_list, no_dart, dart_at, edge_place}
use Rattle.slab_laws.specs.Skeleton.{Skeleton, same_point, same_edge}
use Rattle.slab_laws.specs.Subdivision.{subdivision, first_cell}
use Rattle.slab_faces.proofs.Member.{in_member}
use Rattle.slab_faces.proofs.Places.{edges_exact}
use Rattle.sound_views.proofs.ListedPlaces.{at_place}
use Rattle.arr_notes.proofs.Names.{numbers_of}
use Rattle.face_changes.proofs.FacesByPairs.{outer_cycles_follow}
use Rattle.subdivision_rows.specs.Listed.{Drawing, skeleton_in, subdivision_in, view_of, faces_of}
use Rattle.subdivision_rows.specs.OverlayInMemory.{Overlaid, layer_view, graph_of, faces_in}
use Rattle.subdivision_rows.proofs.ListedFaces.{face_within}
use Rattle.subdivision_rows.proofs.ListedRecords.{dart_of, dart_is, of_edges, vertex_of, point_of}
use Rattle.subdivision_rows.proofs.ListsDrawn.{view_draws}
use Rattle.subdivision_rows.proofs.ListsFaced.{cell, faced}
use Rattle.subdivision_rows.proofs.VertexLists.{pin_of}
use Rattle.arr_text.specs.LayerTexts.{ArePinsOf, TellsLayer}
use Rattle.arr_text.specs.Reading.{overlay_text_in}
use Rattle.arr_text.proofs.Assembly.{graph_is}
use Rattle.arr_text.proofs.LayerTexts.{overlay_text_is_the_layers}
use Rattle.arrangement.specs.Overlays.{text_of}

module _ (d : Drawing) (pl : IsPlane d.graph) where
  pins_told : ArePinsOf (view_of d) d.graph.pins
  pins_told w has =
      let p = vertex_of d w has in
      pin_of d w p.0 p.1 ∙ ap (λ (q : Point). list_any (same_point q) d.graph.pins) (sym (point_of d w p.0 p.1))

  layer_told : (layer : Present) → TellsLayer (view_of d) (faces_of d) (cell d) layer (layer_view d (rows_of layer (subdivision_in d)))
  unfolding rows_of
  layer_told layer =
      let g = skeleton_in d in
      record {
        curves = λ k f.
            let h = dart_of d k f.0 in
            let at : dart_at g k.0 ≡ h.0 = get_or_from_slice_get (dart_list g) k.0 h.0 no_dart h.1 in
            let placed : slice_get g.edges (edge_place g h.0.edge) ≡ Some h.0.edge = at_place same_edge edges_exact g.edges h.0.edge (in_member g.edges h.0.edge (of_edges d pl k h.0 h.1)) in
            numbers_of _
            ∙ ap (λ (x : Dart). get_or (map (curves_along layer) (subdivision_in d).graph.edges) (edge_place g x.edge) []) at
            ∙ ap (λ (z : Skeleton). get_or (map (curves_along layer) z.edges) (edge_place g h.0.edge) []) (graph_is g)
            ∙ get_or_from_slice_get (map (curves_along layer) g.edges) (edge_place g h.0.edge) (curves_along layer h.0.edge) [] (slice_get-map (curves_along layer) g.edges (edge_place g h.0.edge) ∙ ap (option_map (curves_along layer)) placed)
            ∙ sym (ap (λ (x : Dart). curves_along layer x.edge) (dart_is d pl k h.0 h.1));
        ranks = λ a has.
            get_or-map (label layer (subdivision_in d).graph) (subdivision_in d).faces a.0 first_cell 0 (face_within d a has)
            ∙ ap (λ (z : Skeleton). label layer z (cell d a)) (graph_is g ∙ sym (view_draws d pl));
      }

-- the text of the overlay of two presents
pub told : (o : Overlaid) (r b red blue : Present) → subdivision_in o.drawing ≡ overlay r b → o.drawing.graph.pins ≡ (both r b).pins → o.red ≡ rows_of r (overlay r b) → o.blue ≡ rows_of b (overlay r b) → IsPlane o.drawing.graph → IsSound (view_of o.drawing) (faces_of o.drawing) → r ≡ red → b ≡ blue
    → text_of o ≡ presents_text red blue
told o r b red blue whole pins of_r of_b pl s e f =
    let d = o.drawing in
    let by_cells = outer_cycles_follow (view_of d) (faces_of d) (cell d) s.graph s.complete s.cycled (faced d pl) in
    (λ i. overlay_text_in (graph_of o) (faces_in o) (layer_view d ((of_r ∙ ap (rows_of r) (sym whole)) i)) (layer_view d ((of_b ∙ ap (rows_of b) (sym whole)) i)))
    ∙ overlay_text_is_the_layers (view_of d) (faces_of d) (cell d) r b (layer_view d (rows_of r (subdivision_in d))) (layer_view d (rows_of b (subdivision_in d))) s by_cells (ap subdivision (view_draws d pl) ∙ whole)
    (subst (ArePinsOf (view_of d)) pins (pins_told d pl)) (layer_told d pl r) (layer_told d pl b)
    ∙ ap₂ presents_text e f
