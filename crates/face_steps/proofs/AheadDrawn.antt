-- A plane graph with one more vertex that an old one sees, and with the edge between both: both are plane.
use Rattle.std.proofs.Common.{◌≡◌, ◌⊎◌, List, true, false, refl, sym, ap, ◌∙◌, subst, inl, inr}
use Rattle.std.specs.Prelude.{if◌then◌else◌}
use Rattle.exact_plane.specs.Point.{Point}
use Rattle.exact_plane.specs.PointOrder.{point_cmp}
use Rattle.exact_plane.specs.PointOrderLaws.{point_cmp_total, same_point as point_cmp_exact}
use Rattle.plane_graphs.specs.Ascending.{Member, IsAscending, place}
use Rattle.plane_graphs.specs.Graph.{Edge, edge_cmp, between, spans}
use Rattle.plane_graphs.specs.Line.{IsProper, precedes}
use Rattle.plane_graphs.specs.Meaning.{IsEndOfEdge, IsStraightLineGraph}
use Rattle.plane_graphs.proofs.Ascending.{IsAscending-place, from_member}
use Rattle.plane_graphs.proofs.Lists.{clash, in_place, of_place}
use Rattle.plane_graphs.proofs.Meaning.{IsDistinct-from_IsAscending, edge_cmp_total, edge_cmp_exact}
use Rattle.plane_graphs.proofs.Order.{Lt, lt_in, lt_out, lt_never, lt_both, Tri, less, same, more, tri}
use Rattle.slab_laws.specs.Skeleton as counted
use Rattle.slab_laws.specs.Skeleton.{Skeleton, IsPlaneSkeleton}
use Rattle.slab_laws.specs.Sound.{edge_between}
use Rattle.slab_faces.specs.PointLaws.{IsApart}
use Rattle.slab_faces.proofs.InnerPoints.{before_out, inside_in}
use Rattle.slab_faces.proofs.SkeletonsDrawn.{plane_skeletons_are_drawn}
use Rattle.slab_faces.proofs.SharedEnds.{on_edge}
use Rattle.sound_changes.proofs.PointInside.{inside_out}
use Rattle.face_steps.specs.FaceAhead.{IsSeenFrom}
use Rattle.integers.proofs.Tests.{not_true}

-- an edge between two points: the lesser end first
pub record IsEdgeOfTwo (e : Edge) (q p : Point) : Type 0 where
  pub forward : Lt e.low e.high
  pub ends : ((e.low ≡ q) × (e.high ≡ p)) ⊎ ((e.low ≡ p) × (e.high ≡ q))

pub edge_of_two : (q p : Point) → (q ≡ p → ⊥) → IsEdgeOfTwo (edge_between q p) q p
edge_of_two q p n = by (tri q p)
  where
    picked : (b : _) → precedes q p ≡ b → edge_between q p ≡ (if b then record { low = q; high = p } else record { low = p; high = q })
    picked b e = ap (λ c. if c then record { low = q; high = p } else record { low = p; high = q }) e

    by : Tri q p → IsEdgeOfTwo (edge_between q p) q p
    by (less l) = subst (λ e. IsEdgeOfTwo e q p) (sym (picked true (lt_in l))) (record { forward = l; ends = inl (refl, refl) })
    by (same e) = absurd (n e)
    by (more l) = subst (λ e. IsEdgeOfTwo e q p) (sym (picked false (not_true (precedes q p) (λ k. lt_both (lt_out q p k) l)))) (record { forward = l; ends = inr (refl, refl) })

-- a point doesn't come before itself
not_before : (p : Point) → IsProper p → counted.precedes p p ≡ false
not_before p P = not_true (counted.precedes p p) (λ h. lt_never (before_out p p P P h))

module _ (g : Skeleton) (points_up : IsAscending point_cmp g.vertices) (edges_up : IsAscending edge_cmp g.edges) (proper : (x : Point) → Member x g.vertices → IsProper x) (plane : IsPlaneSkeleton g) where
  old : IsStraightLineGraph g.vertices g.edges
  old = (plane_skeletons_are_drawn g points_up edges_up proper).0 plane

  low_proper : (f : Edge) → Member f g.edges → IsProper f.low
  low_proper f F = proper f.low (old.ends_in f F).0

  high_proper : (f : Edge) → Member f g.edges → IsProper f.high
  high_proper f F = proper f.high (old.ends_in f F).1

  -- ---- a point that is apart is no vertex and on no edge
  module _ (t : Point) (T : IsProper t) (apart : IsApart g t) where
    pub no_vertex : Member t g.vertices → ⊥
    no_vertex m = apart.from_vertices t (from_member g.vertices t m) (not_before t T) (not_before t T)

    off_edge : (f : Edge) → Member f g.edges → spans f.low f.high t ≡ true → ⊥
    off_edge f F h = elim (on_edge f t (low_proper f F) (high_proper f F) T h) [
      | inl k ↦ elim k [
        | inl e ↦ no_vertex (subst (λ x. Member x g.vertices) (sym e) (old.ends_in f F).0)
        | inr e ↦ no_vertex (subst (λ x. Member x g.vertices) (sym e) (old.ends_in f F).1)
      ]
      | inr i ↦ clash i (apart.from_edges f (from_member g.edges f F))
    ]

  module _ (q p : Point) (Q : Member q g.vertices) (P : IsProper p) (seen : IsSeenFrom g q p) where
    abbrev pub e : Edge
    e = edge_between q p

    abbrev pub points : List Point
    points = place point_cmp p g.vertices

    abbrev pub edges : List Edge
    edges = place edge_cmp (edge_between q p) g.edges

    pub new : Member p g.vertices → ⊥
    new = no_vertex p P seen.off

    two : IsEdgeOfTwo (edge_between q p) q p
    two = edge_of_two q p (λ z. new (subst (λ x. Member x g.vertices) z Q))

    pub point_out : (x : Point) → Member x points → (x ≡ p) ⊎ Member x g.vertices
    point_out x m = of_place point_cmp point_cmp_total point_cmp_exact x p g.vertices m

    pub point_in : (x : Point) → (x ≡ p) ⊎ Member x g.vertices → Member x points
    point_in x m = in_place point_cmp point_cmp_total point_cmp_exact x p g.vertices m

    pub edge_out : (f : Edge) → Member f edges → (f ≡ e) ⊎ Member f g.edges
    edge_out f m = of_place edge_cmp edge_cmp_total edge_cmp_exact f e g.edges m

    pub edge_in : (f : Edge) → (f ≡ e) ⊎ Member f g.edges → Member f edges
    edge_in f m = in_place edge_cmp edge_cmp_total edge_cmp_exact f e g.edges m

    pub points_proper : (x : Point) → Member x points → IsProper x
    points_proper x m = elim (point_out x m) [ inl z ↦ subst IsProper (sym z) P | inr k ↦ proper x k ]

    q_there : (x : Point) → x ≡ q → Member x points
    q_there x z = point_in x (inr (subst (λ y. Member y g.vertices) (sym z) Q))

    low_there : Member e.low points
    low_there = elim two.ends [ inl z ↦ q_there _ z.0 | inr z ↦ point_in _ (inl z.0) ]

    high_there : Member e.high points
    high_there = elim two.ends [ inl z ↦ point_in _ (inl z.1) | inr z ↦ q_there _ z.1 ]

    -- an end of the new edge is q or p
    end_is : (t : Point) → IsEndOfEdge t e → (t ≡ q) ⊎ (t ≡ p)
    end_is t (inl y) = elim two.ends [ inl z ↦ inl (y ∙ z.0) | inr z ↦ inr (y ∙ z.0) ]
    end_is t (inr y) = elim two.ends [ inl z ↦ inr (y ∙ z.1) | inr z ↦ inl (y ∙ z.1) ]

    -- no vertex is inside it
    clear_new : (x : Point) → Member x points → counted.inside e x ≡ true → ⊥
    clear_new x X h = elim (point_out x X) [
      | inr m ↦ no_vertex x (proper x m) (seen.between x (proper x m) h) m
      | inl y ↦
          let i = inside_out e x (points_proper _ low_there) (points_proper _ high_there) (points_proper x X) h in
          elim two.ends [ inl z ↦ lt_never (subst (λ a. Lt a e.high) (y ∙ sym z.1) i.before) | inr z ↦ lt_never (subst (λ a. Lt e.low a) (y ∙ sym z.0) i.after) ]
    ]

    none_inside : (f : Edge) (x : Point) → Member f edges → Member x points → between f.low f.high x ≡ false
    none_inside f x F X = not_true (between f.low f.high x) (λ h. elim (edge_out f F) [
      | inl z ↦ clear_new x X (inside_in e x (points_proper _ low_there) (points_proper _ high_there) (points_proper x X) (subst (λ (d : Edge). between d.low d.high x ≡ true) z h))
      | inr M ↦ elim (point_out x X) [
        | inl y ↦ clash (inside_in f x (low_proper f M) (high_proper f M) (points_proper x X) h) (subst (λ t. counted.inside f t ≡ false) (sym y) (seen.off.from_edges f (from_member g.edges f M)))
        | inr m ↦ clash h (old.none_inside f x M m)
      ]
    ])

    -- what it shares with an old edge is an end of both
    shares : (f : Edge) (t : Point) → Member f g.edges → IsProper t → spans e.low e.high t ≡ true → spans f.low f.high t ≡ true → IsEndOfEdge t e × IsEndOfEdge t f
    shares f t F T h k = elim (on_edge e t (points_proper _ low_there) (points_proper _ high_there) T h) [
      | inr i ↦ absurd (off_edge t T (seen.between t T i) f F k)
      | inl y ↦ (
        y,
        elim (end_is t y) [
          | inr z ↦ absurd (off_edge p P seen.off f F (subst (λ x. spans f.low f.high x ≡ true) z k))
          | inl z ↦ elim (on_edge f t (low_proper f F) (high_proper f F) T k) [
            | inl w ↦ w
            | inr i ↦ clash i (plane.clear f t (from_member g.edges f F) (from_member g.vertices t (subst (λ x. Member x g.vertices) (sym z) Q)))
          ]
        ],
      )
    ]

    pub points_ascend : IsAscending point_cmp points
    points_ascend = IsAscending-place point_cmp point_cmp_total p g.vertices points_up

    edges_ascend : IsAscending edge_cmp edges
    edges_ascend = IsAscending-place edge_cmp edge_cmp_total e g.edges edges_up

    drawn : IsStraightLineGraph points edges
    drawn = record {
      points_once = IsDistinct-from_IsAscending point_cmp points points_ascend;
      edges_once = IsDistinct-from_IsAscending edge_cmp edges edges_ascend;
      forward = λ f F. elim (edge_out f F) [ inl z ↦ subst (λ (d : Edge). precedes d.low d.high ≡ true) (sym z) (lt_in two.forward) | inr M ↦ old.forward f M ];
      ends_in = λ f F. elim (edge_out f F) [
        | inl z ↦ subst (λ (d : Edge). Member d.low points × Member d.high points) (sym z) (low_there, high_there)
        | inr M ↦ let k = old.ends_in f M in (point_in f.low (inr k.0), point_in f.high (inr k.1))
      ];
      none_inside = none_inside;
      share_ends = λ d f t D F T h k. elim (edge_out d D) [
        | inl z ↦ elim (edge_out f F) [
          | inl y ↦ inl (z ∙ sym y)
          | inr N ↦ let s = shares f t N T (subst (λ (x : Edge). spans x.low x.high t ≡ true) z h) k in inr (subst (IsEndOfEdge t) (sym z) s.0, s.1)
        ]
        | inr M ↦ elim (edge_out f F) [
          | inl y ↦ let s = shares d t M T (subst (λ (x : Edge). spans x.low x.high t ≡ true) y k) h in inr (s.1, subst (IsEndOfEdge t) (sym y) s.0)
          | inr N ↦ old.share_ends d f t M N T h k
        ]
      ];
    }

    pub plane_with_edge : IsPlaneSkeleton (record { vertices = points; edges = edges })
    plane_with_edge = (plane_skeletons_are_drawn (record { vertices = points; edges = edges }) points_ascend edges_ascend points_proper).1 drawn

    -- and so is what is without the edge
    pub plane_with_point : IsPlaneSkeleton (record { vertices = points; edges = g.edges })
    plane_with_point =
        let up = λ (f : Edge) (M : Member f g.edges). edge_in f (inr M) in
        (plane_skeletons_are_drawn (record { vertices = points; edges = g.edges }) points_ascend edges_up points_proper).1 (record {
          points_once = drawn.points_once;
          edges_once = old.edges_once;
          forward = old.forward;
          ends_in = λ f M. drawn.ends_in f (up f M);
          none_inside = λ f x M. none_inside f x (up f M);
          share_ends = λ d f t M N. drawn.share_ends d f t (up d M) (up f N);
        })
