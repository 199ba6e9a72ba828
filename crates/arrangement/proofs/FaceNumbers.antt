-- The number of a face that is told by its name is the rank of the face on the left of its darts, and round its isolated vertices; and which
-- face a point lies in.
use Rattle.std.proofs.Common.{◌≡◌, ℕ, refl, sym, ap, ◌∙◌, subst}
use Rattle.std.specs.Prelude.{◌≢◌}
use Rattle.exact_plane.specs.Point.{Point, IsPoint}
use Rattle.plane_graphs.specs.Graph.{graph}
use Rattle.plane_graphs.proofs.Lines.{point_is_proper}
use Rattle.slab_laws.specs.declared.cell.Cell.{Cell}
use Rattle.slab_laws.specs.declared.cell.Cell.TheVariants as cell
use Rattle.slab_laws.specs.declared.names.DartId.{DartId}
use Rattle.slab_laws.specs.declared.names.FaceId.{FaceId}
use Rattle.slab_laws.specs.declared.names.VertexId.{VertexId}
use Rattle.slab_laws.specs.declared.slab_cell.SlabCell.{SlabCell}
use Rattle.slab_laws.specs.FacesSound.{IsSound, face_left_of, face_round}
use Rattle.slab_laws.specs.Skeleton.{Skeleton}
use Rattle.slab_laws.specs.Sound.{skeleton_of}
use Rattle.slab_laws.specs.Subdivision.{subdivision, holds, rank}
use Rattle.slab_laws.specs.Text.{skeleton}
use Rattle.slab_laws.specs.View.{View, Faces, HasDart, HasFace, cycle_in, point_in, source_in, target_in}
use Rattle.sound_views.proofs.GraphDrawn.{graphs_are_drawn}
use Rattle.dcel_records.specs.declared.spot.Spot.{Spot}
use Rattle.dcel_records.specs.declared.spot.Spot.TheVariants as spot
use Rattle.dcel_records.specs.RecordsView.{RecordsView, tables_of}
use Rattle.dcel_records.specs.SoundMaps.{IsSoundMap}
use Rattle.curve_history.specs.Past.{Past, curves_on}
use Rattle.face_location.specs.Spots.{IsSpotOf}
use Rattle.face_ranks.specs.Ranks.{rank_in}
use Rattle.face_ranks.proofs.Located.{rank_is}
use Rattle.told_steps.specs.RecordLayers.{IsLayer, layer_of}
use Rattle.listed_faces.specs.FaceParts.{face_left, IsIsolatedIn}
use Rattle.arrangement.proofs.Located.{at_vertex, on_edge, in_face, face_there}

module _ (v : View) (h : Past) (l : IsLayer v h) (f : Faces) (s : IsSound v f) (a : FaceId) (n : ℕ) (e : n ≡ rank_in v f a) where
  abbrev drawn : Skeleton
  drawn = skeleton (graph (layer_of v h).present)

  is_drawn : skeleton_of v ≡ drawn
  is_drawn = sym (ap skeleton (sym l.stands) ∙ graphs_are_drawn v (curves_on h) l.sound l.curves)

  -- of what lies in the face
  number_by : HasFace f a → (c : SlabCell) → s.faced.0 a ≡ c → n ≡ rank (subdivision drawn) c
  number_by A c q = e ∙ sym (rank_is v f s a A) ∙ ap (rank (subdivision (skeleton_of v))) q ∙ ap (λ (g : Skeleton). rank (subdivision g) c) is_drawn

  pub number_left : (d : DartId) → HasDart v d → face_left f d ≡ a → n ≡ rank (subdivision drawn) (face_left_of v d)
  number_left d D q =
      number_by (subst (HasFace f) q (s.complete.face_has (cycle_in f d) (s.complete.cycle_has d D))) (face_left_of v d) (ap s.faced.0 (sym q) ∙ s.faced.1.darts d D)

  pub number_round : (w : VertexId) → IsIsolatedIn f a w → n ≡ rank (subdivision drawn) (face_round v w)
  number_round w W = number_by (subst (HasFace f) W.1 (s.complete.bare_has w W.0)) (face_round v w) (ap s.faced.0 (sym W.1) ∙ s.faced.1.bare w W.0)

-- ---- where a point lies
module _ (h : RecordsView) (past : Past) (l : IsLayer h.graph past) (m : IsSoundMap h) (p : Point) (P : IsPoint p) (at : Spot) (s : IsSpotOf h.graph (tables_of h) p at) where
  abbrev located : Cell
  located = holds (subdivision (skeleton (graph (layer_of h.graph past).present))) p

  pub vertex_in_no_face : (w : VertexId) → at ≡ spot.Vertex w → (n : ℕ) → located ≢ cell.Face n
  vertex_in_no_face w e n q =
      let t = subst (IsSpotOf h.graph (tables_of h) p) e s in
      let k : cell.Vertex p ≡ cell.Face n = at_vertex h.graph past l p w t.met.0 t.met.1 ∙ q in
      absurd (cc)

  pub edge_in_no_face : (d : DartId) → at ≡ spot.Edge d → (n : ℕ) → located ≢ cell.Face n
  edge_in_no_face d e n q =
      let t = subst (IsSpotOf h.graph (tables_of h) p) e s in
      let k : cell.Edge (point_in h.graph (source_in h.graph d)) (point_in h.graph (target_in h.graph d)) ≡ cell.Face n = on_edge h.graph past l p d (point_is_proper p P) (t.met.0, t.met.1) t.met.2 ∙ q in
      absurd (cc)

  pub face_told : (a : FaceId) → at ≡ spot.Face a → HasFace (tables_of h) a × (located ≡ cell.Face (rank_in h.graph (tables_of h) a))
  face_told a e =
      let t = subst (IsSpotOf h.graph (tables_of h) p) e s in (
        face_there h.graph (tables_of h) m.sound p a t.face,
        sym (in_face h.graph past l (tables_of h) m.sound p a (rank_in h.graph (tables_of h) a) (point_is_proper p P) t.met t.face refl),
      )
