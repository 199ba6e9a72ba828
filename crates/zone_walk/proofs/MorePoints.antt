-- A plane graph, and a point that is none of its vertices as one more.
use Rattle.std.proofs.Common.{◌≡◌, ◌≢◌, ◌↔◌, ◌⊎◌, ◌+◌, Bool, false, cond, List, ◌∷◌, sym, ◌∙◌, subst, inl, inr}
use Rattle.std.specs.List.{Contains, count_by}
use Rattle.std.proofs.lemmas.List.Sums.{sum_by-cons}
use Rattle.exact_plane.specs.Point.{Point}
use Rattle.exact_plane.specs.PointOrder.{point_cmp}
use Rattle.exact_plane.specs.PointOrderLaws.{point_cmp_total, same_point as point_cmp_exact}
use Rattle.plane_graphs.specs.Ascending.{IsAscending, place}
use Rattle.plane_graphs.specs.Graph.{Edge, edge_cmp}
use Rattle.plane_graphs.specs.Line.{IsProper}
use Rattle.plane_graphs.proofs.Ascending.{IsAscending-place, to_member, from_member}
use Rattle.plane_graphs.proofs.Lists.{in_place, of_place}
use Rattle.slab_laws.specs.Skeleton.{Skeleton, IsPlaneSkeleton, same_point, inside}
use Rattle.slab_faces.specs.PointLaws.{IsApart}
use Rattle.slab_faces.proofs.PlaneGraphs.{one_point}
use Rattle.slab_faces.proofs.Sets.{set_cons}
use Rattle.slab_faces.proofs.Shift.{same_sum}
use Rattle.slab_faces.proofs.Turns.{member_cases}
use Rattle.face_steps.specs.FaceAhead.{IsSeenFrom}
use Rattle.face_steps.proofs.Counted.{in_front, behind, point_set}
use Rattle.zone_walk.proofs.Between.{nearer}

-- a plane graph as a view draws it
pub record IsListedPlane (g : Skeleton) : Type 0 where
  pub points : IsAscending point_cmp g.vertices
  pub edges : IsAscending edge_cmp g.edges
  pub proper : (x : Point) → Contains g.vertices x → IsProper x
  pub plane : IsPlaneSkeleton g

module _ (g : Skeleton) (o : IsListedPlane g) (p : Point) (P : IsProper p) (new : ¬ Contains g.vertices p) where
  abbrev pub points : List Point
  points = place point_cmp p g.vertices

  pub points_up : IsAscending point_cmp points
  points_up = IsAscending-place point_cmp point_cmp_total p g.vertices o.points

  pub points_are : (q : Point) → Contains points q ↔ (Contains g.vertices q ⊎ (q ≡ p))
  points_are q = (
    λ c. elim (of_place point_cmp point_cmp_total point_cmp_exact q p g.vertices (to_member points q c)) [ inl e ↦ inr e | inr k ↦ inl (from_member g.vertices q k) ],
    λ c. from_member points q (in_place point_cmp point_cmp_total point_cmp_exact q p g.vertices (elim c [ inl k ↦ inr (to_member g.vertices q k) | inr e ↦ inl e ])),
  )

  pub points_proper : (q : Point) → Contains points q → IsProper q
  points_proper q c = elim ((points_are q).0 c) [ inl k ↦ o.proper q k | inr e ↦ subst IsProper (sym e) P ]

  pub there : Contains points p
  there = (points_are p).1 (inr (λ i. p))

  pub counts : (k : Point → Bool) → count_by k points ≡ cond (k p) 1 0 + count_by k g.vertices
  counts k =
      same_sum same_point (λ z. cond (k z) 1 0) points (p ∷ g.vertices)
      (point_set points points_up) (set_cons same_point p g.vertices (point_set g.vertices o.points) new)
      (λ z c. elim ((points_are z).0 c) [ inl q ↦ behind p g.vertices z q | inr e ↦ subst (Contains (p ∷ g.vertices)) (sym e) (in_front p g.vertices) ])
      (λ z c. (points_are z).1 (elim (member_cases p g.vertices z c) [ inl e ↦ inr (sym e) | inr q ↦ inl q ]))
      ∙ sum_by-cons (λ z. cond (k z) 1 0) p g.vertices

  -- ---- what p sees it sees as a vertex too, past edges that have nothing else inside
  module _ (es : List Edge) (off : (r : Point) → IsProper r → IsApart g r → (e : Edge) → Contains es e → inside e r ≡ false) (t : Point) (T : IsProper t) (ne : p ≢ t) (seen : IsSeenFrom g p t) where
    apart : (r : Point) → IsProper r → p ≢ r → IsApart g r → IsApart (record { vertices = points; edges = es }) r
    apart r R n a = record {
      from_vertices = λ v V b c. elim ((points_are v).0 V) [ inl k ↦ a.from_vertices v k b c | inr e ↦ n (sym e ∙ one_point v r (points_proper v V) R b c) ];
      from_edges = λ e E. off r R a e E;
    }

    pub seen_more : IsSeenFrom (record { vertices = points; edges = es }) p t
    seen_more = record { off = apart t T ne seen.off; between = λ r R i. apart r R (nearer p t r P T R i).apart (seen.between r R i) }
