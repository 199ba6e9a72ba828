-- Where a point's way ends, there it lies.
use Rattle.std.proofs.Common.{◌≡◌, ◌<◌, false, sym, ap, ◌∙◌, subst}
use Rattle.std.specs.Prelude.{Option, pos}
use Rattle.std.specs.declared.cmp.Ordering.TheVariants.{Equal}
use Rattle.integers.proofs.Compare.{equal_out}
use Rattle.exact_plane.specs.Point.{Point}
use Rattle.exact_plane.specs.PointOrderLaws.{same_point}
use Rattle.plane_graphs.specs.Line.{IsProper}
use Rattle.slab_laws.specs.declared.names.DartId.{DartId}
use Rattle.slab_laws.specs.FacesSound.{IsSound}
use Rattle.slab_laws.specs.Skeleton.{side, inside}
use Rattle.slab_laws.specs.Sound.{skeleton_of, edge_in}
use Rattle.slab_laws.specs.View.{View, Faces, point_in}
use Rattle.sound_views.proofs.EveryEdge.{by_forward}
use Rattle.dcel_records.specs.declared.spot.Spot.TheVariants.{Face}
use Rattle.edge_predicates.specs.Levels.{IsSeen, level}
use Rattle.edge_predicates.proofs.Uprights.{is_inside}
use Rattle.face_location.specs.Below.{IsSeenOrNone}
use Rattle.face_location.specs.Spots.{IsSpotOf}
use Rattle.walk_laws.specs.Walks.{face_above, height}
use Rattle.walk_laws.proofs.Named.{highest_tells_face}
use Rattle.locate_trapezoid.specs.declared.graph.Leaf.{Leaf}
use Rattle.locate_trapezoid.specs.declared.graph.SearchGraph.{SearchGraph}
use Rattle.locate_trapezoid.specs.declared.node.Test.{Test}
use Rattle.locate_trapezoid.specs.declared.node.Test.TheVariants.{Vertex, Edge}
use Rattle.locate_trapezoid.specs.Arrivals.{IsMeeting}
use Rattle.locate_trapezoid.specs.Built.{is_at}
use Rattle.locate_trapezoid.specs.Counted.{IsTest}
use Rattle.locate_trapezoid.specs.Graphs.{IsSearchGraphOf}
use Rattle.locate_trapezoid.specs.Nodes.{arena, IsLeaf}
use Rattle.locate_trapezoid.specs.Ways.{outcome, ComesBy, IsAnswer}

module _ (v : View) (f : Faces) (s : IsSound v f) (g : SearchGraph) (is : IsSearchGraphOf v g) (q : Point) (Q : IsProper q) where
  -- at a node that asks for it
  pub met_spot : (t : Test) → IsMeeting v (arena g.nodes.items) q t → IsSpotOf v f q (is_at t)
  met_spot t m = by t (subst (IsTest v) m.asks (is.made.named m.number (is.made.tree.bounded m.slot m.number m.there))) m.asks (sym (ap (λ z. outcome v z q) m.asks) ∙ ap (λ z. outcome v z q) m.asks ∙ m.met)
    where
      by : (t : Test) → IsTest v t → (arena g.nodes.items).test m.number ≡ t → outcome v t q ≡ Equal → IsSpotOf v f q (is_at t)
      by (Vertex w) has e h = record { met = (has, sym (same_point q (point_in v w) h)); face = tt }
      by (Edge d) has e h =
          let x = is.told.spanned q m.slot m.told m.number d Q m.at m.there e in
          record { met = (has.0, has.1, is_inside (edge_in v d) q x.1.from x.1.to (equal_out (side (edge_in v d) q) (pos 0) h)); face = tt }

  -- at a leaf, in the face over the last edge that it was above
  module _ (l : Leaf) (o : Option DartId) (leaf : IsLeaf (arena g.nodes.items) l) (r : ComesBy v (arena g.nodes.items) q l.slot o) where
    answer : IsAnswer v (IsTest v) q o
    answer = is.told.leaf q l.slot o Q r leaf.bare

    pub below_seen : IsSeenOrNone v q o
    below_seen = answer.seen

    pub over_spot : IsSpotOf v f q (Face (face_above f o))
    over_spot =
        highest_tells_face v f q o s Q answer.seen
        (record { no_vertex = answer.apart; no_edge = λ d h. by_forward v s.graph (λ e m. inside e q ≡ false) (λ k has ahead. answer.off k (has, ahead)) d h })
        (λ d h. by_forward v s.graph (λ e m. IsSeen (skeleton_of v) q e → level (skeleton_of v) q e < height v q o) (λ k has ahead. answer.top k (has, ahead)) d h)
