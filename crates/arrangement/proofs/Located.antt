-- What location answers, by the spot where a point lies in the records of a layer; what a spot names.
use Rattle.std.proofs.Common.{◌≡◌, ◌≤◌, ℕ, true, List, [], ◌∷◌, length, inl, refl, sym, ap, ◌∙◌, subst, arith}
use Rattle.std.specs.List.{Contains}
use Rattle.exact_plane.specs.Point.{Point}
use Rattle.plane_graphs.specs.Ascending.{Member}
use Rattle.plane_graphs.specs.Graph.{Edge, graph}
use Rattle.plane_graphs.specs.Line.{IsProper}
use Rattle.plane_graphs.proofs.Ascending.{from_member}
use Rattle.slab_laws.specs.declared.cell.Cell.TheVariants.{Vertex, Edge as OnEdge, Face}
use Rattle.slab_laws.specs.declared.names.DartId.{DartId}
use Rattle.slab_laws.specs.declared.names.FaceId.{FaceId}
use Rattle.slab_laws.specs.declared.names.VertexId.{VertexId}
use Rattle.slab_laws.specs.FacesSound.{IsSound}
use Rattle.slab_laws.specs.Skeleton.{Skeleton, inside, IsPlaneSkeleton}
use Rattle.slab_laws.specs.Sound.{edge_in}
use Rattle.slab_laws.specs.Subdivision.{subdivision, holds}
use Rattle.slab_laws.specs.Text.{skeleton}
use Rattle.slab_laws.specs.View.{View, Faces, HasFace, HasVertex, point_in, source_in, target_in}
use Rattle.slab_faces.proofs.LocationLemmas.{location_is}
use Rattle.slab_faces.proofs.OneEdge.{one_edge_at_most}
use Rattle.arr_notes.specs.Curves.{IsForward}
use Rattle.sound_views.specs.ForwardDarts.{IsForwardOf}
use Rattle.sound_views.proofs.GraphDrawn.{graphs_are_drawn}
use Rattle.record_orders.proofs.EdgeEnds.{ahead}
use Rattle.curve_history.specs.Past.{Past, curves_on}
use Rattle.told_steps.specs.RecordLayers.{IsLayer, layer_of}
use Rattle.dcel_records.specs.declared.spot.Spot.{Spot}
use Rattle.dcel_records.specs.declared.spot.Spot.TheVariants as spot
use Rattle.dcel_records.specs.Spots.{IsInFace}
use Rattle.face_steps.specs.VertexSteps.{IsFaceRound}
use Rattle.face_location.specs.Spots.{IsSpotOf}
use Rattle.face_changes.specs.FacesByPairs.{first_or}
use Rattle.face_changes.proofs.FacesByPairs.{has_name}
use Rattle.face_ranks.specs.Ranks.{rank_in}
use Rattle.face_ranks.proofs.Located.{face_is_located}
use Rattle.told_steps.proofs.LayerEdges.{along_drawn}
use Rattle.told_steps.proofs.NamedLayers.{layers_are_named}
use Rattle.arrangement.specs.SpotCells.{HasSpot, cell_named}
use Rattle.arrangement.proofs.CellsCounted.{some_face_there}

-- a face that is named is there
first_has : (f : Faces) → 1 ≤ length f.faces → HasFace f (first_or f.faces)
first_has f h = at f.faces h
  where
    at : (ns : List ℕ) → 1 ≤ length ns → Contains ns (first_or ns).0
    at [] h = absurd (omega arith)
    at (n ∷ ns) h = from_member (n ∷ ns) n (inl refl)

pub face_there : (v : View) (f : Faces) → IsSound v f → (p : Point) (a : FaceId) → IsFaceRound v f a p → HasFace f a
face_there v f s p a r = subst (HasFace f) r.2 (has_name v f s.complete (first_has f (some_face_there v f s)) r.0 r.1)

-- a spot where a point lies names what has a record
pub spot_there : (v : View) (f : Faces) → IsSound v f → (p : Point) (at : Spot) → IsSpotOf v f p at → HasSpot v f at
spot_there v f s p (spot.Vertex w) h = h.met.0
spot_there v f s p (spot.Edge d) h = h.met.0
spot_there v f s p (spot.Face a) h = face_there v f s p a h.face

-- the ends of an edge, by its forward dart
pub edge_told : (v : View) (d r : DartId) → IsForwardOf v d r → OnEdge (point_in v (source_in v r)) (point_in v (target_in v r)) ≡ OnEdge (edge_in v d).low (edge_in v d).high
edge_told v d r h = ap (λ (k : Edge). OnEdge k.low k.high) (sym (ahead (point_in v (source_in v r)) (point_in v (target_in v r)) h.forward.1) ∙ h.edge)

module _ (v : View) (h : Past) (l : IsLayer v h) where
  abbrev drawn : Skeleton
  drawn = skeleton (graph (layer_of v h).present)

  plane : IsPlaneSkeleton drawn
  plane = subst IsPlaneSkeleton (sym (ap skeleton (sym l.stands) ∙ graphs_are_drawn v (curves_on h) l.sound l.curves)) l.sound.plane

  pub at_vertex : (p : Point) (w : VertexId) → HasVertex v w → point_in v w ≡ p → Vertex p ≡ holds (subdivision drawn) p
  at_vertex p w has at = sym (location_is.on_vertex drawn p (from_member drawn.vertices p (subst (λ q. Member q drawn.vertices) at ((layers_are_named v h l).name_vertex w has))))

  -- no other edge has the point inside
  pub on_edge : (p : Point) (d : DartId) → IsProper p → IsForward v d → inside (edge_in v d) p ≡ true → OnEdge (point_in v (source_in v d)) (point_in v (target_in v d)) ≡ holds (subdivision drawn) p
  on_edge p d proper f has_inside =
      let e = edge_in v d in
      let E = from_member drawn.edges e (along_drawn v h l e d (record { forward = f; edge = refl })) in
      let at = location_is.on_edge drawn e p plane E has_inside in
      let same : e ≡ at.edge = one_edge_at_most drawn e at.edge p plane proper.positive E at.is_edge has_inside at.inside_it in
      let ends = ahead (point_in v (source_in v d)) (point_in v (target_in v d)) f.1 in
      ap (λ (k : Edge). OnEdge k.low k.high) (sym ends ∙ same) ∙ sym at.located

  -- the face that is named
  pub in_face : (f : Faces) → IsSound v f → (p : Point) (a : FaceId) (n : ℕ) → IsProper p → IsInFace v p → IsFaceRound v f a p → n ≡ rank_in v f a → Face n ≡ holds (subdivision drawn) p
  in_face f s p a n proper nothing round e = ap Face e ∙ sym (face_is_located v f p a s proper nothing round) ∙ ap (λ (g : Skeleton). holds (subdivision g) p) (sym (ap skeleton (sym l.stands) ∙ graphs_are_drawn v (curves_on h) l.sound l.curves))

  -- what a spot names is what location answers of the points there
  pub spot_located : (f : Faces) → IsSound v f → (p : Point) (at : Spot) → IsProper p → IsSpotOf v f p at → cell_named v f at ≡ holds (subdivision drawn) p
  spot_located f s p (spot.Vertex w) proper at = ap Vertex at.met.1 ∙ at_vertex p w at.met.0 at.met.1
  spot_located f s p (spot.Edge d) proper at =
      let forward : IsForward v d = (at.met.0, at.met.1) in
      sym (edge_told v d d (record { forward = forward; edge = refl; line = refl })) ∙ on_edge p d proper forward at.met.2
  spot_located f s p (spot.Face a) proper at = in_face f s p a (rank_in v f a) proper at.met at.face refl
