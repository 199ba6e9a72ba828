-- What a vertex has before the direction of a point that it sees: nothing, or a dart into it with the face on its left.
use Rattle.std.proofs.Common.{◌≡◌, ◌≢◌, ◌⊎◌, Bool, true, false, refl, sym, ◌∙◌, subst, inl, inr}
use Rattle.std.specs.List.{Contains}
use Rattle.exact_plane.specs.Point.{Point}
use Rattle.plane_graphs.specs.Ascending.{Member}
use Rattle.plane_graphs.specs.Line.{IsProper}
use Rattle.plane_graphs.proofs.Ascending.{to_member, from_member}
use Rattle.slab_laws.specs.Cycles.{left_of_dart}
use Rattle.slab_laws.specs.Darts.{Dart, source, target, start}
use Rattle.slab_laws.specs.Meets.{SameFace}
use Rattle.slab_laws.specs.Rotation.{twin}
use Rattle.slab_laws.specs.Skeleton.{Skeleton}
use Rattle.slab_laws.specs.Slabs.{left_cell}
use Rattle.sound_views.proofs.NamedDarts.{source_by, target_by}
use Rattle.sound_changes.specs.EdgePlaces.{dart_between}
use Rattle.sound_changes.specs.NextLaws.{HasEdgeMore, IsDartOf}
use Rattle.sound_changes.proofs.NextDarts.{next_with_one_more_edge}
use Rattle.face_steps.specs.FaceAhead.{IsSeenFrom}
use Rattle.face_steps.proofs.AheadDrawn.{points, edges, new, edge_out, edge_in as edge_there, plane_with_edge, plane_with_point}
use Rattle.face_steps.proofs.FaceAhead.{at_dart}
use Rattle.zone_walk.proofs.MorePoints.{IsListedPlane}

module _ (g : Skeleton) (o : IsListedPlane g) (q t : Point) (V : Contains g.vertices q) (T : IsProper t) (seen : IsSeenFrom g q t) where
  fine : (x : Point) → Member x g.vertices → IsProper x
  fine x k = o.proper x (from_member g.vertices x k)

  Q : Member q g.vertices
  Q = to_member g.vertices q V

  abbrev m : Skeleton
  m = record { vertices = points g o.points o.edges fine o.plane q t Q T seen; edges = g.edges }

  abbrev h : Skeleton
  h = record { vertices = m.vertices; edges = edges g o.points o.edges fine o.plane q t Q T seen }

  abbrev x : Dart
  x = dart_between q t

  ends_in : (d : Dart) → IsDartOf g d → Contains g.vertices (source d)
  ends_in d D = by d.forward
    where
      by : (b : Bool) → Contains g.vertices (start d.edge b)
      by true = o.plane.lower_in d.edge D
      by false = o.plane.upper_in d.edge D

  is_more : HasEdgeMore m h x.edge
  is_more = record {
    vertices = refl;
    fresh = λ c. new g o.points o.edges fine o.plane q t Q T seen (to_member g.vertices t (subst (Contains g.vertices) (target_by q t) (ends_in (twin x) c)));
    edges = λ f. (
      λ c. elim (edge_out g o.points o.edges fine o.plane q t Q T seen f (to_member h.edges f c)) [ inl e ↦ inr e | inr k ↦ inl (from_member g.edges f k) ],
      λ c. from_member h.edges f (edge_there g o.points o.edges fine o.plane q t Q T seen f (elim c [ inl k ↦ inr (to_member g.edges f k) | inr e ↦ inl e ])),
    );
  }

  pub before_it : ((d : Dart) → IsDartOf g d → source d ≢ q) ⊎ ((d : Dart) × IsDartOf g d × (target d ≡ q) × SameFace g (left_of_dart g d) (left_cell g t))
  before_it = elim ((next_with_one_more_edge m h x.edge (plane_with_point g o.points o.edges fine o.plane q t Q T seen) (plane_with_edge g o.points o.edges fine o.plane q t Q T seen) is_more).somewhere x refl) [
    | inl bare ↦ inl (λ d D e. bare d D (e ∙ sym (source_by q t)))
    | inr k ↦ inr (k.0, k.1, sym k.2.leaves ∙ source_by q t, at_dart g o.points o.edges fine o.plane q t Q T seen k.0 k.1 (record { leaves = k.2.leaves; met = k.2.met }))
  ]
