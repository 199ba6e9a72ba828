-- A point inside an edge sees on each side of it the face of the dart that has the side on its left: with the edge split there, by what a vertex sees.
use Rattle.std.proofs.Common.{◌≡◌, ◌≢◌, ◌⊎◌, Bool, true, false, sym, subst, inl, inr}
use Rattle.std.specs.List.{Contains}
use Rattle.exact_plane.specs.Point.{Point}
use Rattle.plane_graphs.specs.Graph.{Edge}
use Rattle.plane_graphs.specs.Line.{IsProper}
use Rattle.plane_graphs.proofs.Ascending.{to_member, from_member}
use Rattle.plane_graphs.proofs.Lists.{clash}
use Rattle.plane_graphs.proofs.Order.{Tri, less, same, more, tri}
use Rattle.integers.proofs.Tests.{not_true}
use Rattle.slab_laws.specs.Cycles.{left_of_dart}
use Rattle.slab_laws.specs.Darts.{Dart, ahead, back}
use Rattle.slab_laws.specs.Faces.{cells}
use Rattle.slab_laws.specs.Meets.{SameFace}
use Rattle.slab_laws.specs.Rotation.{twin, earlier}
use Rattle.slab_laws.specs.Skeleton.{Skeleton, inside, precedes}
use Rattle.slab_laws.specs.Slabs.{left_cell}
use Rattle.slab_faces.specs.PointLaws.{IsApart}
use Rattle.slab_faces.proofs.InnerPoints.{before_in}
use Rattle.slab_faces.proofs.ListedCells.{dart_cell}
use Rattle.slab_faces.proofs.Member.{member_in}
use Rattle.slab_faces.proofs.Turns.{face_trans, face_sym}
use Rattle.slab_faces.proofs.WallsLemmas.{cell_there}
use Rattle.sound_views.proofs.NamedDarts.{source_by}
use Rattle.rotation_order.specs.RingOrder.{sooner_by}
use Rattle.sound_changes.specs.EdgePlaces.{dart_between}
use Rattle.sound_changes.specs.NextLaws.{ComesBetween}
use Rattle.face_changes.proofs.EdgeSplit.{edge_split_in_two}
use Rattle.face_steps.specs.FaceAhead.{IsSeenFrom}
use Rattle.face_steps.proofs.FaceAhead.{at_dart}
use Rattle.zone_walk.specs.Parts.{IsOnSide}
use Rattle.zone_walk.proofs.Between.{within, mean, in_lower, in_upper, up_dart, down_dart}
use Rattle.zone_walk.proofs.MorePoints.{IsListedPlane, points_up, points_proper, there, seen_more}
use Rattle.zone_walk.proofs.SplitThere.{low_fine, high_fine, new, rest, rest_out, edges, edges_up, edges_are, h, plane_h, split, onward, backward, into, into_there, beside_into}
use Rattle.zone_walk.proofs.Turn.{on_left, on_right}

module _ (g : Skeleton) (o : IsListedPlane g) (f : Edge) (F : Contains g.edges f) (p : Point) (P : IsProper p) (i : inside f p ≡ true) where
  abbrev hh : Skeleton
  hh = h g o f F p P i

  -- a point off all edges is off the parts
  off : (r : Point) → IsProper r → IsApart g r → (e : Edge) → Contains (edges g o f F p P i) e → inside e r ≡ false
  off r R a e E = not_true (inside e r) (λ k. elim ((edges_are g o f F p P i e).0 E) [
    | inl z ↦ clash k (a.from_edges e (rest_out g o f F p P i e z).0)
    | inr w ↦ elim w [
      | inl q ↦ clash (in_lower f p (low_fine g o f F p P i) (high_fine g o f F p P i) P i r R (subst (λ (z : Edge). inside z r ≡ true) q k)) (a.from_edges f F)
      | inr q ↦ clash (in_upper f p (low_fine g o f F p P i) (high_fine g o f F p P i) P i r R (subst (λ (z : Edge). inside z r ≡ true) q k)) (a.from_edges f F)
    ]
  ])

  module _ (t : Point) (T : IsProper t) (ne : p ≢ t) where
    abbrev x : Dart
    x = dart_between p t

    leaves : ((x ≡ ahead (record { low = p; high = t })) × (precedes p t ≡ true)) ⊎ ((x ≡ back (record { low = t; high = p })) × (precedes t p ≡ true))
    leaves = by (tri p t)
      where
        by : Tri p t → ((x ≡ ahead (record { low = p; high = t })) × (precedes p t ≡ true)) ⊎ ((x ≡ back (record { low = t; high = p })) × (precedes t p ≡ true))
        by (less l) = inl (up_dart p t l, before_in p t P T l)
        by (same e) = absurd (ne e)
        by (more l) = inr (down_dart p t l, before_in t p T P l)

    comes : (b : Bool) → IsOnSide f b t → ComesBetween hh (into g o f F p P i b) x
    comes true s = record {
      leaves = source_by p t;
      met = subst (λ z. sooner_by earlier (twin (into g o f F p P i true)) x z ≡ true) (sym (onward g o f F p P i))
          (on_left f p t (low_fine g o f F p P i).positive (high_fine g o f F p P i).positive P.positive T.positive (o.plane.forward f F) (o.plane.upright f F) i (within f p (low_fine g o f F p P i) (high_fine g o f F p P i) P i).on (mean f p (low_fine g o f F p P i) (high_fine g o f F p P i) P i) x leaves s);
    }
    comes false s = record {
      leaves = source_by p t;
      met = subst (λ z. sooner_by earlier (twin (into g o f F p P i false)) x z ≡ true) (sym (backward g o f F p P i))
          (on_right f p t (low_fine g o f F p P i).positive (high_fine g o f F p P i).positive P.positive T.positive (o.plane.forward f F) (o.plane.upright f F) i (within f p (low_fine g o f F p P i) (high_fine g o f F p P i) P i).on (mean f p (low_fine g o f F p P i) (high_fine g o f F p P i) P i) x leaves s);
    }

    pub from_edge : (b : Bool) → IsOnSide f b t → IsSeenFrom g p t → SameFace g (left_of_dart g (record { edge = f; forward = b })) (left_cell g t)
    from_edge b s seen =
        let V = there g o p P (new g o f F p P i) in
        let d = into g o f F p P i b in
        let D = into_there g o f F p P i b in
        let up = points_up g o p P (new g o f F p P i) in
        let fine = points_proper g o p P (new g o f F p P i) in
        let plane = plane_h g o f F p P i in
        let sees = seen_more g o p P (new g o f F p P i) (edges g o f F p P i) off t T ne seen in
        let k = at_dart hh up (edges_up g o f F p P i) (λ y c. fine y (from_member hh.vertices y c)) plane p t (to_member hh.vertices p V) T sees d D (comes b s) in
        let w = (edge_split_in_two.faces g hh f p (rest g o f F p P i) (left_of_dart hh d) (left_cell hh t) (split g o f F p P i) (member_in (cells hh) _ (dart_cell hh plane d.edge d.forward D)) (member_in (cells hh) _ (cell_there hh t plane T.positive))).0 k in
        face_trans g _ _ _ (face_sym g _ _ (beside_into g o f F p P i b)) (subst (SameFace g _) (edge_split_in_two.left g hh f p (rest g o f F p P i) t (split g o f F p P i) T.positive) w)
