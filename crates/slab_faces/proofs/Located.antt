-- What location answers for a point is so.
use Rattle.std.proofs.Common.{◌≡◌, ℕ, ◌<◌, true, false, refl, sym, subst, ◌∙◌, inr, List, ◌∷◌, ◌++◌, map, length}
use Rattle.std.specs.Prelude.{Option, Some, None, find, filter}
use Rattle.std.specs.List.{Contains, position_or_len}
use Rattle.exact_plane.specs.Point.{Point}
use Rattle.plane_graphs.specs.Graph.{Edge}
use Rattle.slab_laws.specs.Skeleton.{Skeleton, HasWeight, same_point, inside, IsPlaneSkeleton}
use Rattle.slab_laws.specs.Slabs.{left_cell}
use Rattle.slab_laws.specs.declared.slab_cell.SlabCell.{SlabCell}
use Rattle.slab_laws.specs.declared.classes.Label.{Label}
use Rattle.slab_laws.specs.declared.cell.Cell.TheVariants.{Vertex, Edge as OnEdge, Face}
use Rattle.slab_laws.specs.Listed.{distinct}
use Rattle.slab_laws.specs.Faces.{face_labels, face_of, same_cell, cells}
use Rattle.slab_laws.specs.Subdivision.{Cycle, subdivision, holds, holds_in, spot_on, ranked, first_cell}
use Rattle.slab_faces.specs.LocationLaws.{LocationIsOne, IsNoVertex}
use Rattle.slab_faces.proofs.FacesLemmas.{cells_exact}
use Rattle.slab_faces.proofs.Member.{Member, member_in, in_member, append_right, map_in, distinct_in}
use Rattle.slab_faces.proofs.Searches.{found, unfound, first_there}
use Rattle.slab_faces.proofs.WallsLemmas.{cell_there}
use Rattle.slab_faces.proofs.Parity.{same_point_is}

-- ---- where the answer comes from
vertex_from : (o : Option Point) (e : Option Edge) (k : ℕ) (p : Point) → spot_on o e k ≡ Vertex p → o ≡ Some p
unfolding spot_on
vertex_from (Some x) e k p h = cc
vertex_from None (Some x) k p h = absurd (cc)
vertex_from None None k p h = absurd (cc)

edge_from : (o : Option Point) (e : Option Edge) (k : ℕ) (a b : Point) → spot_on o e k ≡ OnEdge a b → (o ≡ None) × (e ≡ Some (record { low = a; high = b }))
unfolding spot_on
edge_from (Some x) e k a b h = absurd (cc)
edge_from None (Some x) k a b h = let l : x.low ≡ a = cc in let u : x.high ≡ b = cc in (refl, λ i. Some (record { low = l i; high = u i }))
edge_from None None k a b h = absurd (cc)

face_from : (o : Option Point) (e : Option Edge) (k n : ℕ) → spot_on o e k ≡ Face n → (o ≡ None) × (e ≡ None) × (k ≡ n)
unfolding spot_on
face_from (Some x) e k n h = absurd (cc)
face_from None (Some x) k n h = absurd (cc)
face_from None None k n h = (refl, refl, cc)

-- ---- the face of each cell is in the list of faces
face_ranked : (g : Skeleton) (ls : List (Label SlabCell)) (cs : List Cycle) (c : SlabCell) → Member (cells g) c → Member (ranked g ls cs) (face_of ls c)
unfolding ranked
face_ranked g ls cs c m =
    let whole = face_of ls first_cell ∷ (map (λ (c : Cycle). c.face) (filter (λ (c : Cycle). c.outer) cs) ++ map (face_of ls) (cells g)) in
    let at : Member whole (face_of ls c) = inr (append_right (map (λ (c : Cycle). c.face) (filter (λ (c : Cycle). c.outer) cs)) (map (face_of ls) (cells g)) (face_of ls c) (map_in (face_of ls) (cells g) c m)) in
    let r = distinct_in same_cell whole (λ x _. cells_exact.itself x) (λ x y z _ _ _ h k. subst (λ w. same_cell x w ≡ true) (cells_exact.path y z k) h) (face_of ls c) at in
    subst (Member (distinct same_cell whole)) (cells_exact.path r.0 (face_of ls c) r.2) r.1

-- ---- the three answers
module _ (g : Skeleton) (q : Point) where
  none_there : find (same_point q) g.vertices ≡ None → IsNoVertex g q
  none_there h v V = unfound (same_point q) g.vertices h v (in_member g.vertices v V)

  -- the rank of the face of q's cell
  place : ℕ
  place = position_or_len (same_cell (face_of (face_labels g) (left_cell g q))) (subdivision g).faces

  from : holds (subdivision g) q ≡ spot_on (find (same_point q) g.vertices) (find (λ e. inside e q) g.edges) place
  unfolding holds_in subdivision place
  from = refl

  place_there : IsPlaneSkeleton g → HasWeight q → place < length (subdivision g).faces
  unfolding subdivision place
  place_there plane Q =
      let f = face_of (face_labels g) (left_cell g q) in
      first_there (same_cell f) (subdivision g).faces f (member_in (subdivision g).faces f (face_ranked g (face_labels g) (subdivision g).cycles (left_cell g q) (cell_there g q plane Q))) (cells_exact.itself f)

  at_vertex : (p : Point) → holds (subdivision g) q ≡ Vertex p → (p ≡ q) × Contains g.vertices p
  at_vertex p h =
      let a = vertex_from _ _ _ p (sym from ∙ h) in
      let r = found (same_point q) g.vertices p a in
      (sym (same_point_is q p r.1), member_in g.vertices p r.0)

  at_edge : (a b : Point) → holds (subdivision g) q ≡ OnEdge a b → IsNoVertex g q × Contains g.edges (record { low = a; high = b }) × (inside (record { low = a; high = b }) q ≡ true)
  at_edge a b h =
      let c = edge_from _ _ _ a b (sym from ∙ h) in
      let e : Edge = record { low = a; high = b } in
      let r = found (λ e. inside e q) g.edges e c.1 in
      (none_there c.0, member_in g.edges e r.0, r.1)

  at_face : (k : ℕ) → holds (subdivision g) q ≡ Face k → IsNoVertex g q × ((e : Edge) → Contains g.edges e → inside e q ≡ false) × (place ≡ k)
  at_face k h =
      let c = face_from _ _ _ k (sym from ∙ h) in
      (none_there c.0, λ e E. unfound (λ e. inside e q) g.edges c.1 e (in_member g.edges e E), c.2)

pub location_is_one : LocationIsOne
location_is_one g q plane Q = record {
  vertex_is_there = λ p h. at_vertex g q p h;
  edge_is_there = λ a b h. (at_edge g q a b h).1;
  edge_has_it_inside = λ a b h. (at_edge g q a b h).2;
  edge_at_no_vertex = λ a b h. (at_edge g q a b h).0;
  face_at_no_vertex = λ k h. (at_face g q k h).0;
  face_on_no_edge = λ k h. (at_face g q k h).1;
  face_is_there = λ k h. subst (λ n. n < length (subdivision g).faces) (at_face g q k h).2 (place_there g q plane Q);
}
