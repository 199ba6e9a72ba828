-- What a view with one more edge draws.
use Rattle.std.proofs.Common.{◌≡◌, ◌≢◌, ◌⊎◌, inl, inr, ◌∷◌, map, sym, ap, ◌∙◌, subst}
use Rattle.exact_plane.specs.Line.{Line}
use Rattle.exact_plane.specs.PointOrder.{point_cmp}
use Rattle.plane_graphs.specs.Ascending.{ascending, Member}
use Rattle.plane_graphs.specs.Graph.{Edge, edge_cmp}
use Rattle.plane_graphs.proofs.Ascending.{to_member, from_member, ascending_unique, IsAscending-ascending}
use Rattle.plane_graphs.proofs.Lists.{in_ascending, of_ascending}
use Rattle.plane_graphs.proofs.Meaning.{edge_cmp_total, edge_cmp_exact}
use Rattle.slab_laws.specs.declared.names.DartId.{DartId}
use Rattle.slab_laws.specs.declared.names.VertexId.{VertexId}
use Rattle.slab_laws.specs.Sound.{skeleton_of, edge_between, edge_in, IsTwinned}
use Rattle.slab_laws.specs.View.{View, HasDart, point_in}
use Rattle.sound_views.proofs.NamedDarts.{twin_by, row_edges, edge_row, row_edge}
use Rattle.sound_changes.specs.EdgePlaces.{IsEdgeMore, IsDrawnMore}
use Rattle.sound_changes.proofs.RingsKept.{swapped, up, three, way_old, way_new}

-- ---- the edges that a view draws
pub drawn_edge : (v : View) (d : DartId) → HasDart v d → Member (edge_in v d) (skeleton_of v).edges
drawn_edge v d has = in_ascending edge_cmp edge_cmp_total edge_cmp_exact (edge_in v d) (row_edges v) (edge_row v d has)

pub edge_drawn : (v : View) (e : Edge) → Member e (skeleton_of v).edges → (d : DartId) × HasDart v d × (e ≡ edge_in v d)
edge_drawn v e m = row_edge v e (of_ascending edge_cmp edge_cmp_total edge_cmp_exact e (row_edges v) m)

module _ (g h : View) (d m : DartId) (u w : VertexId) (l : Line) (p : IsEdgeMore g h d m u w l) (t : IsTwinned g) (apart : point_in g u ≢ point_in g w) where
  abbrev new_edge : Edge
  new_edge = edge_between (point_in g u) (point_in g w)

  pub edge_old : (k : DartId) → HasDart g k → edge_in h k ≡ edge_in g k
  edge_old k o = ap (λ x. x.edge) (way_old g h d m u w l p t k o)

  pub edge_first : edge_in h d ≡ new_edge
  edge_first = ap (λ x. x.edge) (way_new g h d m u w l p)

  edge_second : edge_in h m ≡ new_edge
  edge_second = ap (λ x. x.edge) (way_new g h m d w u l (swapped g h d m u w l p)) ∙ ap (λ x. x.edge) (twin_by (point_in g u) (point_in g w) apart)

  went : (k : DartId) → HasDart h k → Member (edge_in h k) (skeleton_of g).edges ⊎ (edge_in h k ≡ new_edge)
  went =
      three g h d m u w l p (λ k. HasDart h k → Member (edge_in h k) (skeleton_of g).edges ⊎ (edge_in h k ≡ new_edge))
      (λ _. inr edge_first)
      (λ _. inr edge_second)
      (λ k a b o. let q = (p.others k a b).had o in inl (subst (λ x. Member x (skeleton_of g).edges) (sym (edge_old k q)) (drawn_edge g k q)))

  pub split : (x : Edge) → Member x (skeleton_of h).edges → Member x (skeleton_of g).edges ⊎ (x ≡ new_edge)
  split x k = let r = edge_drawn h x k in elim (went r.0 r.1) [ inl q ↦ inl (subst (λ z. Member z (skeleton_of g).edges) (sym r.2) q) | inr q ↦ inr (r.2 ∙ q) ]

  pub stays : (x : Edge) → Member x (skeleton_of g).edges → Member x (skeleton_of h).edges
  stays x k = let r = edge_drawn g x k in subst (λ z. Member z (skeleton_of h).edges) (edge_old r.0 r.1 ∙ sym r.2) (drawn_edge h r.0 (up g h d m u w l p r.0 r.1))

  comes : (x : Edge) → x ≡ new_edge → Member x (skeleton_of h).edges
  comes x e = subst (λ z. Member z (skeleton_of h).edges) (edge_first ∙ sym e) (drawn_edge h d p.first)

  pub vertices_drawn : (skeleton_of h).vertices ≡ (skeleton_of g).vertices
  vertices_drawn = ap (λ rs. ascending point_cmp (map (λ r. r.1.point) rs)) p.vertices

  in_list : (x : Edge) → Member x (skeleton_of h).edges → Member x (ascending edge_cmp (new_edge ∷ (skeleton_of g).edges))
  in_list x k = in_ascending edge_cmp edge_cmp_total edge_cmp_exact x (new_edge ∷ (skeleton_of g).edges) (elim (split x k) [ inl q ↦ inr q | inr q ↦ inl q ])

  of_list : (x : Edge) → Member x (ascending edge_cmp (new_edge ∷ (skeleton_of g).edges)) → Member x (skeleton_of h).edges
  of_list x k = elim (of_ascending edge_cmp edge_cmp_total edge_cmp_exact x (new_edge ∷ (skeleton_of g).edges) k) [ inl q ↦ comes x q | inr q ↦ stays x q ]

  pub drawn_more : (Member (edge_between (point_in g u) (point_in g w)) (skeleton_of g).edges → ⊥) → IsDrawnMore g h (edge_between (point_in g u) (point_in g w))
  drawn_more fresh = record {
    vertices = vertices_drawn;
    fresh = λ k. fresh (to_member (skeleton_of g).edges new_edge k);
    edges = λ x. (
      λ k. elim (split x (to_member (skeleton_of h).edges x k)) [ inl q ↦ inl (from_member (skeleton_of g).edges x q) | inr q ↦ inr q ],
      λ k. from_member (skeleton_of h).edges x (elim k [ inl q ↦ stays x (to_member (skeleton_of g).edges x q) | inr q ↦ comes x q ]),
    );
    listed = ascending_unique edge_cmp edge_cmp_total (skeleton_of h).edges (ascending edge_cmp (new_edge ∷ (skeleton_of g).edges))
        (IsAscending-ascending edge_cmp edge_cmp_total (row_edges h)) (IsAscending-ascending edge_cmp edge_cmp_total (new_edge ∷ (skeleton_of g).edges)) in_list of_list;
  }
