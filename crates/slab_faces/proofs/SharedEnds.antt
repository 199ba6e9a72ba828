-- Two edges of a plane skeleton share ends only.
use Rattle.std.proofs.Common.{◌≡◌, true, not, ◌&&◌, sym, subst, inl, inr, ◌⊎◌, ⊎_elim}
use Rattle.std.specs.List.{Contains}
use Rattle.exact_plane.specs.Point.{Point}
use Rattle.exact_plane.specs.PointOrderLaws.{and_true}
use Rattle.plane_graphs.specs.Line.{IsProper, precedes}
use Rattle.plane_graphs.specs.Graph.{Edge, collinear, spans}
use Rattle.plane_graphs.specs.Meaning.{IsEndOfEdge}
use Rattle.plane_graphs.proofs.Lists.{clash}
use Rattle.plane_graphs.proofs.Marks.{le_out, le_cases}
use Rattle.slab_laws.specs.Skeleton.{Skeleton, IsPlaneSkeleton, inside}
use Rattle.slab_faces.proofs.OneEdge.{one_edge_at_most}
use Rattle.slab_faces.specs.PlaneSkeletons.{PlaneSkeletonsShareEnds}
use Rattle.slab_faces.proofs.InnerPoints.{inside_by}

-- a point on an edge is an end of it, or strictly inside it
pub on_edge : (e : Edge) (t : Point) → IsProper e.low → IsProper e.high → IsProper t → spans e.low e.high t ≡ true → IsEndOfEdge t e ⊎ (inside e t ≡ true)
on_edge e t low high proper h =
    let a = and_true (not (precedes t e.low) && not (precedes e.high t)) (collinear e.low e.high t) h in
    let b = and_true (not (precedes t e.low)) (not (precedes e.high t)) a.0 in
    ⊎_elim (λ i. inl (inl (sym i))) (λ l. ⊎_elim (λ i. inl (inr i)) (λ k. inr (inside_by e t low high proper l k a.1)) (le_cases t e.high (le_out t e.high b.1))) (le_cases e.low t (le_out e.low t b.0))

module _ (g : Skeleton) (plane : IsPlaneSkeleton g) where
  end_is_vertex : (e : Edge) (t : Point) → Contains g.edges e → IsEndOfEdge t e → Contains g.vertices t
  end_is_vertex e t E (inl i) = subst (Contains g.vertices) (sym i) (plane.lower_in e E)
  end_is_vertex e t E (inr i) = subst (Contains g.vertices) (sym i) (plane.upper_in e E)

  -- an end is a vertex, so it is inside no edge; and no two edges have one point inside
  share : (e f : Edge) (t : Point) → Contains g.edges e → Contains g.edges f → IsProper t → IsEndOfEdge t e ⊎ (inside e t ≡ true) → IsEndOfEdge t f ⊎ (inside f t ≡ true) → (e ≡ f) ⊎ (IsEndOfEdge t e × IsEndOfEdge t f)
  share e f t E F p (inl a) (inl b) = inr (a, b)
  share e f t E F p (inl a) (inr b) = clash b (plane.clear f t F (end_is_vertex e t E a))
  share e f t E F p (inr a) (inl b) = clash a (plane.clear e t E (end_is_vertex f t F b))
  share e f t E F p (inr a) (inr b) = inl (one_edge_at_most g e f t plane p.positive E F a b)

pub plane_skeletons_share_ends : PlaneSkeletonsShareEnds
plane_skeletons_share_ends g plane proper e f t E F p a b =
    share g plane e f t E F p (on_edge e t (proper e.low (plane.lower_in e E)) (proper e.high (plane.upper_in e E)) p a) (on_edge f t (proper f.low (plane.lower_in f F)) (proper f.high (plane.upper_in f F)) p b)
