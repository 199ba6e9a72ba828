-- The curves of edges, by name, and what each change makes of them.
use Rattle.std.specs.Prelude.{◌≡◌, ◌≢◌, ◌==◌, ℕ, List, [], ◌∷◌, Bool, cond, not, true, false}
use Rattle.std.specs.List.{filter}
use Rattle.std.specs.Ordering.{nat_cmp}
use Rattle.plane_graphs.specs.Ascending.{place, IsAscending}
use Rattle.plane_graphs.specs.Graph.{same_curve}
use Rattle.plane_graphs.specs.Line.{precedes}
use Rattle.slab_laws.specs.declared.names.DartId.{DartId}
use Rattle.slab_laws.specs.View.{View, HasDart, point_in, source_in, target_in, twin_in}
use Rattle.arr_notes.specs.declared.change.Change.{Change}
use Rattle.arr_notes.specs.declared.change.Change.TheVariants.{SplitEdge, MergeEdge, AddEdge, RemoveEdge, AddCurve, RemoveCurve, Clear}

-- the numbers of the curves along each edge, by the name of its dart from the lower to the upper end (CGAL manual, originating curves)
abbrev pub Curves : Type 0
Curves = DartId → List ℕ

-- the dart goes from the lower to the upper end of its edge (CGAL manual, direction of a halfedge)
abbrev pub is_forward : View → DartId → Bool
is_forward v d = precedes (point_in v (source_in v d)) (point_in v (target_in v d))

-- a name that is that of a forward dart (this project)
abbrev pub IsForward : View → DartId → Type 0
IsForward v d = HasDart v d × (is_forward v d ≡ true)

-- of two twins one is forward (this project)
abbrev pub IsDirected : View → Type 0
IsDirected v = (d : DartId) → HasDart v d → is_forward v (twin_in v d) ≡ not (is_forward v d)

-- the curves are those of the records' edges: each edge has some, ascending, and no other name has any (this project)
pub record AreCurvesOf (v : View) (h : Curves) : Type 0 where
  pub some : (d : DartId) → IsForward v d → h d ≢ []
  pub ascend : (d : DartId) → IsAscending nat_cmp (h d)
  pub without_dart : (d : DartId) → ¬ HasDart v d → h d ≡ []
  pub backward : (d : DartId) → is_forward v d ≡ false → h d ≡ []

-- the curves of edges after a change: a new edge has its one curve, both parts of an edge have its curves, and two edges in one have those that both had (CGAL manual, arrangements with history)
abbrev pub step_curves : Curves → Change → Curves
step_curves h (SplitEdge d w p n m) x = cond (x.0 == n.0) (h d) (h x)
step_curves h (MergeEdge w d n) x = cond (x.0 == n.0) [] (h x)
step_curves h (AddEdge d m u w at_u at_w l c faces) x = cond (x.0 == d.0) (c.0 ∷ []) (h x)
step_curves h (RemoveEdge d m faces) x = cond (x.0 == d.0) [] (h x)
step_curves h (AddCurve d c) x = cond (x.0 == d.0) (place nat_cmp c.0 (h x)) (h x)
step_curves h (RemoveCurve d c) x = cond (x.0 == d.0) (filter (λ k. not (same_curve k c.0)) (h x)) (h x)
step_curves h (Clear face) x = []
step_curves h other x = h x
