-- One part more of an edge, as the code has it.
use Rattle.std.proofs.Common.{◌≡◌, ◌<◌, sym, ap, ◌∙◌, subst, List}
use Rattle.std.specs.Prelude.{Option, Some, is_some}
use Rattle.exact_plane.specs.Point.{Point}
use Rattle.plane_graphs.specs.Graph.{Edge as PlaneEdge}
use Rattle.slab_laws.specs.declared.names.DartId.{DartId}
use Rattle.slab_laws.specs.declared.names.VertexId.{VertexId}
use Rattle.slab_laws.specs.Sound.{edge_in, IsGraphSound}
use Rattle.slab_laws.specs.View.{View, HasVertex, source_in, target_in}
use Rattle.arr_notes.specs.Curves.{IsForward}
use Rattle.sound_views.proofs.ForwardDarts.{target_has}
use Rattle.locate_trapezoid.specs.declared.descent.Descent.{Descent}
use Rattle.locate_trapezoid.specs.declared.graph.SearchGraph.{SearchGraph}
use Rattle.locate_trapezoid.specs.declared.node.Node.{Node}
use Rattle.locate_trapezoid.specs.declared.node.Test.TheVariants.{Edge}
use Rattle.locate_trapezoid.specs.Nodes.{arena, IsLeaf, IsSplit}
use Rattle.locate_trapezoid.specs.Descents.{Descends, IsDescent, rest_of}
use Rattle.locate_trapezoid.specs.Graphs.{IsWellMade}
use Rattle.locate_trapezoid.proofs.Parts.{IsPart, IsInPart, IsSoFar, left, first_part, begun_map, next_map, next_part, fewer_left}

module _ (v : View) (s : IsGraphSound v) (k : DartId) (forward : IsForward v k) where
  -- ---- the ends, as they were read
  pub lower_has : (w : VertexId) → w ≡ source_in v k → HasVertex v w
  lower_has w e = subst (HasVertex v) (sym e) (s.linked.source k forward.0)

  pub upper_has : (w : VertexId) → w ≡ target_in v k → HasVertex v w
  upper_has w e = subst (HasVertex v) (sym e) (target_has v s k forward.0)

  -- ---- at first
  module _ (g : SearchGraph) (made : IsWellMade v g) (c : Point) (e : c ≡ (edge_in v k).low) where
    pub part_at_first : IsInPart v k c
    part_at_first = subst (IsInPart v k) (sym e) (first_part v s k forward (arena g.nodes.items) made.tree made.named)

    pub so_at_first : IsSoFar v (Edge k) g g (Some c)
    so_at_first = subst (λ z. IsSoFar v (Edge k) g g (Some z)) (sym e) (λ us known m. begun_map v s k forward (arena g.nodes.items) made.tree made.named us known m)

  -- ---- a part more
  module _ (g : SearchGraph) (made : IsWellMade v g) (c : Point) (p : Option Point) (now : p ≡ Some c) (in' : IsPart v k p) (ns : List Node) (n : ns ≡ g.nodes.items) (e : PlaneEdge) (is : e ≡ edge_in v k) (d : Descent) (r : IsDescent v (arena ns) e c d) (high : Point) (h : high ≡ (edge_in v k).high) (x : Option Point) (rest : x ≡ rest_of d.bound high) where
    part : IsInPart v k c
    part = subst (IsPart v k) now in'

    way : Descends v (arena g.nodes.items) (edge_in v k) c d.leaf.slot d.is_lowered d.bound
    way = subst (λ z. IsDescent v (arena g.nodes.items) z c d) is (subst (λ l. IsDescent v (arena l) e c d) n r)

    left_is : rest_of d.bound (edge_in v k).high ≡ x
    left_is = ap (rest_of d.bound) (sym h) ∙ sym rest

    pub part_next : IsPart v k x
    part_next = subst (IsPart v k) left_is (next_part v s k forward (arena g.nodes.items) made.tree made.named c part d.leaf.slot d.is_lowered d.bound way)

    pub fewer_next : left v x < left v p
    fewer_next = subst (λ z. left v x < left v z) (sym now) (subst (λ z. left v z < left v (Some c)) left_is (fewer_left v s k forward (arena g.nodes.items) made.tree made.named c part d.leaf.slot d.is_lowered d.bound way))

    pub so_next : (g0 f : SearchGraph) (lw uw : VertexId) → lw ≡ source_in v k → uw ≡ target_in v k → IsLeaf (arena ns) d.leaf → IsSplit (arena g.nodes.items) d.leaf.slot d.is_lowered (is_some d.bound) lw uw k (arena f.nodes.items) → IsSoFar v (Edge k) g0 g p → IsSoFar v (Edge k) g0 f x
    so_next g0 f lw uw L U leaf split so = subst (IsSoFar v (Edge k) g0 f) left_is (λ us known m.
        let l = subst (λ y. IsLeaf (arena y) d.leaf) n leaf in
        next_map v s k forward (arena g.nodes.items) made.tree made.named us known c part (subst (IsSoFar v (Edge k) g0 g) now so us known m) d.leaf.slot d.is_lowered d.bound way (arena f.nodes.items) d.leaf.level l.down l.bare
        (subst (λ y. IsSplit (arena g.nodes.items) d.leaf.slot d.is_lowered (is_some d.bound) y (target_in v k) k (arena f.nodes.items)) L (subst (λ y. IsSplit (arena g.nodes.items) d.leaf.slot d.is_lowered (is_some d.bound) lw y k (arena f.nodes.items)) U split)))
