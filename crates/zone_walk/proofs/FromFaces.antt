-- A point inside a face sees no other face: with the point as a vertex, by what a vertex sees.
use Rattle.std.proofs.Common.{◌≡◌, ◌≢◌, true, false, refl, subst, inl, inr}
use Rattle.std.specs.List.{Contains}
use Rattle.exact_plane.specs.Point.{Point}
use Rattle.plane_graphs.specs.Line.{IsProper}
use Rattle.plane_graphs.proofs.Ascending.{to_member, from_member}
use Rattle.plane_graphs.proofs.Lists.{clash}
use Rattle.slab_laws.specs.Darts.{Dart, source, start}
use Rattle.slab_laws.specs.Faces.{cells}
use Rattle.slab_laws.specs.Meets.{SameFace}
use Rattle.slab_laws.specs.Skeleton.{Skeleton, IsPlaneSkeleton, precedes, inside}
use Rattle.slab_laws.specs.Slabs.{left_cell}
use Rattle.slab_faces.specs.PointLaws.{IsApart}
use Rattle.slab_faces.proofs.InnerPoints.{before_out}
use Rattle.slab_faces.proofs.Member.{member_in}
use Rattle.slab_faces.proofs.WallsLemmas.{cell_there}
use Rattle.plane_graphs.proofs.Order.{lt_never}
use Rattle.integers.proofs.Tests.{not_true}
use Rattle.sound_changes.specs.NextLaws.{IsDartOf}
use Rattle.sound_changes.proofs.PartsCross.{crossing_in}
use Rattle.sound_changes.proofs.PlaneParts.{plane_by}
use Rattle.sound_changes.proofs.PointInside.{ends_ordered, inside_in}
use Rattle.face_changes.specs.OneMoreVertex.{HasOneMoreVertex}
use Rattle.face_changes.proofs.OneMoreVertex.{one_more_vertex}
use Rattle.face_steps.specs.FaceAhead.{IsSeenFrom}
use Rattle.face_steps.proofs.FaceAhead.{at_bare}
use Rattle.zone_walk.proofs.MorePoints.{IsListedPlane, points, points_up, points_are, points_proper, there, counts, seen_more}

module _ (g : Skeleton) (o : IsListedPlane g) (p : Point) (P : IsProper p) (here : IsApart g p) where
  itself : precedes p p ≡ false
  itself = not_true (precedes p p) (λ h. lt_never (before_out p p P P h))

  new : ¬ Contains g.vertices p
  new c = here.from_vertices p c itself itself

  abbrev m : Skeleton
  m = record { vertices = points g o p P new; edges = g.edges }

  plane_m : IsPlaneSkeleton m
  plane_m =
      plane_by m (points_up g o p P new) o.edges (points_proper g o p P new)
      (λ e E. record {
        low = (points_are g o p P new e.low).1 (inl (o.plane.lower_in e E));
        high = (points_are g o p P new e.high).1 (inl (o.plane.upper_in e E));
        ordered = ends_ordered g e o.plane E (o.proper e.low (o.plane.lower_in e E)) (o.proper e.high (o.plane.upper_in e E));
      })
      (λ e q E Q i.
      let k = inside_in e q (o.proper e.low (o.plane.lower_in e E)) (o.proper e.high (o.plane.upper_in e E)) (points_proper g o p P new q Q) i in
      elim ((points_are g o p P new q).0 Q) [ inl c ↦ clash k (o.plane.clear e q E c) | inr z ↦ clash (subst (λ y. inside e y ≡ true) z k) (here.from_edges e E) ])
      (λ e f E F c. clash (crossing_in e f c) (o.plane.uncrossed e f E F))

  one_vertex : HasOneMoreVertex g m p
  one_vertex = record { plane = o.plane; plane_more = plane_m; edges = refl; vertices = points_are g o p P new; counts = counts g o p P new }

  no_dart : (d : Dart) → IsDartOf m d → source d ≢ p
  no_dart d D e = new (subst (Contains g.vertices) e (ends_in d.forward))
    where
      ends_in : (b : _) → Contains g.vertices (start d.edge b)
      ends_in true = o.plane.lower_in d.edge D
      ends_in false = o.plane.upper_in d.edge D

  pub from_face : (t : Point) → IsProper t → p ≢ t → IsSeenFrom g p t → SameFace g (left_cell g p) (left_cell g t)
  from_face t T ne seen =
      let V = there g o p P new in
      let s = seen_more g o p P new g.edges (λ r R a. a.from_edges) t T ne seen in
      let k = at_bare m (points_up g o p P new) o.edges (λ x c. points_proper g o p P new x (from_member m.vertices x c)) plane_m p t (to_member m.vertices p V) T s no_dart in
      let in_cells = λ (q : Point) (Q : IsProper q). member_in (cells m) (left_cell m q) (cell_there m q plane_m Q.positive) in
      let w = (one_more_vertex.faces g m p (left_cell m p) (left_cell m t) one_vertex (in_cells p P) (in_cells t T)).0 k in
      subst (λ c. SameFace g c (left_cell g t)) (one_more_vertex.left g m p p one_vertex P.positive) (subst (SameFace g _) (one_more_vertex.left g m p t one_vertex T.positive) w)
