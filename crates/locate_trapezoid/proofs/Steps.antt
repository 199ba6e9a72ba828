-- What the code computes on an edge's way down.
use Rattle.std.proofs.Common.{◌≡◌, ℕ, Bool, true, false, sym, ap, ◌∙◌, subst}
use Rattle.std.specs.Prelude.{Option, Some, not, ◌||◌}
use Rattle.exact_plane.specs.Point.{Point}
use Rattle.plane_graphs.specs.Graph.{Edge as PlaneEdge}
use Rattle.slab_laws.specs.declared.names.VertexId.{VertexId}
use Rattle.slab_laws.specs.Skeleton.{precedes}
use Rattle.slab_laws.specs.View.{View, point_in}
use Rattle.locate_trapezoid.specs.declared.node.Slot.{Slot}
use Rattle.locate_trapezoid.specs.declared.node.Slot.TheVariants.{Child}
use Rattle.locate_trapezoid.specs.declared.node.Test.TheVariants.{Vertex}
use Rattle.locate_trapezoid.specs.Nodes.{Arena}
use Rattle.locate_trapezoid.specs.Descents.{bound_of, Descends, bounded, beyond, after}

-- at a node that asks for a vertex, whose point was read
module _ (v : View) (a : Arena) (e : PlaneEdge) (c : Point) (s : Slot) (l : Bool) (b : Option Point) (i : ℕ) (w : VertexId) (d : Descends v a e c s l b) (ch : a.child s ≡ Some i) (t : a.test i ≡ Vertex w) (p : Point) (is : point_in v w ≡ p) where
  pub goes_after : (x m : Bool) → x ≡ precedes c p → x ≡ false → m ≡ (l || not (precedes p e.low)) → Descends v a e c (Child i true) m b
  goes_after x m h k n =
      subst (λ z. Descends v a e c (Child i true) z b) (ap (λ z. l || not (precedes z e.low)) is ∙ sym n)
      (after s l b i w d ch t (ap (precedes c) is ∙ sym h ∙ k))

  pub goes_beyond : (x y : Bool) → x ≡ precedes c p → x ≡ true → y ≡ precedes (bound_of e b) p → y ≡ true → Descends v a e c (Child i false) l b
  goes_beyond x y h k m n = beyond s l b i w d ch t (ap (precedes c) is ∙ sym h ∙ k) (ap (precedes (bound_of e b)) is ∙ sym m ∙ n)

  pub goes_bounded : (x y : Bool) → x ≡ precedes c p → x ≡ true → y ≡ precedes (bound_of e b) p → y ≡ false → Descends v a e c (Child i false) l (Some p)
  goes_bounded x y h k m n =
      subst (λ z. Descends v a e c (Child i false) l (Some z)) is
      (bounded s l b i w d ch t (ap (precedes c) is ∙ sym h ∙ k) (ap (precedes (bound_of e b)) is ∙ sym m ∙ n))
