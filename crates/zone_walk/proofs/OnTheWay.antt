-- What is told of a face towards a point is told towards each point on the way there.
use Rattle.std.proofs.Common.{◌≡◌, Bool, true, false, Option, Some, None, sym, ap, ◌∙◌}
use Rattle.std.specs.Prelude.{pos}
use Rattle.std.specs.List.{Contains}
use Rattle.exact_plane.specs.Point.{Point}
use Rattle.plane_graphs.specs.Line.{IsProper}
use Rattle.slab_laws.specs.declared.names.DartId.{DartId}
use Rattle.slab_laws.specs.declared.names.FaceId.{FaceId}
use Rattle.slab_laws.specs.declared.names.VertexId.{VertexId}
use Rattle.slab_laws.specs.Darts.{source}
use Rattle.slab_laws.specs.Rotation.{earlier}
use Rattle.slab_laws.specs.Skeleton.{inside, side}
use Rattle.slab_laws.specs.Sound.{skeleton_of, edge_between, edge_in, dart_in, IsGraphSound}
use Rattle.slab_laws.specs.View.{View, Faces, IsOutOf, point_in, source_in, twin_in}
use Rattle.sound_views.proofs.NamedDarts.{names_are_darts, source_by, edge_known}
use Rattle.arr_notes.specs.AfterAround.{after_in}
use Rattle.rotation_order.specs.RingOrder.{sooner_by}
use Rattle.rotation_order.proofs.Turning.{soon}
use Rattle.sound_changes.specs.EdgePlaces.{dart_between, IsPlaceFor}
use Rattle.sound_changes.proofs.KnownNames.{points_proper}
use Rattle.sound_changes.proofs.PointInside.{inside_out}
use Rattle.zone_walk.specs.Parts.{IsOnSide, TellsFace, at_vertex, in_edge, in_face}
use Rattle.zone_walk.proofs.Between.{IsNearer, nearer}

module _ (v : View) (s : IsGraphSound v) (p q t : Point) (P : IsProper p) (Q : IsProper q) (T : IsProper t) (i : inside (edge_between p q) t ≡ true) where
  n : IsNearer p q t
  n = nearer p q t P Q T i

  -- a place round a vertex is for all points in one direction
  pub place_there : (u : VertexId) (at : Option DartId) → point_in v u ≡ p → IsPlaceFor v u at (dart_between p q) → IsPlaceFor v u at (dart_between p t)
  place_there u None e k = k
  place_there u (Some a) e k = (k.0, met)
    where
      from_p : (d : DartId) → IsOutOf v u d → source (dart_in v d) ≡ source (dart_between p q)
      from_p d h = names_are_darts.source v d s h.0 ∙ ap (point_in v) h.1 ∙ e ∙ sym (source_by p q)

      after : IsOutOf v u (after_in v a)
      after = let A = s.twinned.has a k.0.0 in (s.linked.has (twin_in v a) A, s.linked.joins (twin_in v a) A ∙ ap (source_in v) (s.twinned.back a k.0.0) ∙ k.0.1)

      met : sooner_by earlier (dart_in v a) (dart_between p t) (dart_in v (after_in v a)) ≡ true
      met = (λ j. soon (n.turns.behind (dart_in v a) (from_p a k.0) j) (earlier (dart_in v a) (dart_in v (after_in v a))) (n.turns.before (dart_in v (after_in v a)) (from_p (after_in v a) after) j)) ∙ k.1

  pub told_there : (f : Faces) (face : FaceId) → TellsFace v f p q face → TellsFace v f p t face
  told_there f _ (at_vertex u at has e k) = at_vertex u at has e (place_there u at e k)
  told_there f _ (in_edge d has j k) = in_edge d has j (side_there (dart_in v d).forward k)
    where
      E : Contains (skeleton_of v).edges (edge_in v d)
      E = edge_known v d has

      on : side (edge_in v d) p ≡ pos 0
      on = (inside_out (edge_in v d) p (points_proper v s _ (s.plane.lower_in (edge_in v d) E)) (points_proper v s _ (s.plane.upper_in (edge_in v d) E)) P j).on

      side_there : (b : Bool) → IsOnSide (edge_in v d) b q → IsOnSide (edge_in v d) b t
      side_there true x = n.left (edge_in v d) on x
      side_there false x = n.right (edge_in v d) on x
  told_there f face (in_face face' k r) = in_face face k r
