-- The stops of a wall, and what a search finds where one element alone passes.
use Rattle.std.proofs.Common.{◌≡◌, Bool, true, ap, subst, ◌∙◌, inl, inr, List, map}
use Rattle.std.specs.Prelude.{filter, find, Some}
use Rattle.std.specs.List.{Contains}
use Rattle.exact_plane.specs.Point.{Point}
use Rattle.slab_laws.specs.Skeleton.{Skeleton, on_wall}
use Rattle.slab_laws.specs.Faces.{passes}
use Rattle.slab_faces.proofs.LocationLemmas.{find_some}
use Rattle.slab_faces.proofs.Member.{Member, member_in, in_member, append_cases, append_left, append_right, filter_out, filter_in, map_in, map_out}
use Rattle.vertical_laws.specs.Vertical.{Stop, vertex, edge, stops}

-- a vertex of the wall of v, or an edge that passes through it
abbrev pub IsStop : Skeleton → Point → Stop → Type 0
IsStop g v (vertex u) = Contains g.vertices u × (on_wall u v ≡ true)
IsStop g v (edge e) = Contains g.edges e × (passes v e ≡ true)

pub stop_out : (g : Skeleton) (v : Point) (s : Stop) → Member (stops g v) s → IsStop g v s
unfolding stops
stop_out g v s m = elim (append_cases (map vertex (filter (λ u. on_wall u v) g.vertices)) (map edge (filter (passes v) g.edges)) s m) [
  | inl a ↦
      let b = map_out vertex (filter (λ u. on_wall u v) g.vertices) s a in
      let c = filter_out (λ u. on_wall u v) g.vertices b.0 b.1 in
      subst (IsStop g v) b.2 (member_in g.vertices b.0 c.0, c.1)
  | inr a ↦
      let b = map_out edge (filter (passes v) g.edges) s a in
      let c = filter_out (passes v) g.edges b.0 b.1 in
      subst (IsStop g v) b.2 (member_in g.edges b.0 c.0, c.1)
]

pub stop_in : (g : Skeleton) (v : Point) (s : Stop) → IsStop g v s → Member (stops g v) s
unfolding stops
stop_in g v (vertex u) h = append_left _ _ _ (map_in vertex (filter (λ u. on_wall u v) g.vertices) u (filter_in (λ u. on_wall u v) g.vertices u (in_member g.vertices u h.0) h.1))
stop_in g v (edge e) h = append_right (map vertex (filter (λ u. on_wall u v) g.vertices)) _ _ (map_in edge (filter (passes v) g.edges) e (filter_in (passes v) g.edges e (in_member g.edges e h.0) h.1))

pub one_found : {X : Type 0} (p : X → Bool) (xs : List X) (x : X) → Member xs x → p x ≡ true → ((y : X) → Member xs y → p y ≡ true → y ≡ x) → find p xs ≡ Some x
one_found p xs x m e only = let r = find_some p xs x m e in r.is ∙ ap Some (only r.item r.there r.passes)
