-- Graphs whose lists ascend are told by what they hold; a step keeps them ascending.
use Rattle.std.proofs.Common.{◌≡◌, ◌≢◌, ◌⊎◌, List, not, ◌&&◌}
use Rattle.exact_plane.specs.Point.{Point}
use Rattle.exact_plane.specs.PointOrder.{point_cmp}
use Rattle.exact_plane.specs.PointOrderLaws.{point_cmp_total, same_point as point_cmp_exact}
use Rattle.plane_graphs.specs.Ascending.{Member, IsAscending, place}
use Rattle.plane_graphs.specs.Line.{same_point}
use Rattle.plane_graphs.specs.Graph.{Graph, Mark, mark, mark_cmp, is_at, same_curve}
use Rattle.plane_graphs.proofs.Ascending.{ascending_unique, IsAscending-ascending, IsAscending-place}
use Rattle.plane_graphs.proofs.Lists.{IsAscending-filter, in_filter, of_filter, in_place, of_place, not_in, not_out, clash}
use Rattle.plane_graphs.proofs.Order.{mark_cmp_total, mark_cmp_exact, same_in, same_out}
use Rattle.edit_steps.specs.Steps.{Step, AddVertex, RemoveVertex, SplitEdge, MergeEdge, AddEdge, RemoveEdge, AddCurve, RemoveCurve, SetPin, ClearPin, Clear, points_without, apply}
use Rattle.slab_laws.specs.View.{View}
use Rattle.arr_notes.specs.declared.change.Change.{Change}
use Rattle.arr_notes.specs.Curves.{Curves, AreCurvesOf, step_curves}
use Rattle.arr_notes.specs.Step.{step}
use Rattle.arr_notes.specs.RecordGraph.{drawn_graph}
use Rattle.sound_changes.specs.StepOfChange.{step_of_change}
use Rattle.sound_changes.specs.StepLaws.{IsApplied}

-- its three lists ascend
pub record IsOrdered (g : Graph) : Type 0 where
  pub points : IsAscending point_cmp g.points
  pub marks : IsAscending mark_cmp g.marks
  pub pins : IsAscending point_cmp g.pins

-- the second graph holds what the first does
pub record IsWithin (g k : Graph) : Type 0 where
  pub points : (p : Point) → Member p g.points → Member p k.points
  pub marks : (m : Mark) → Member m g.marks → Member m k.marks
  pub pins : (p : Point) → Member p g.pins → Member p k.pins

pub same_graph : (g k : Graph) → IsOrdered g → IsOrdered k → IsWithin g k → IsWithin k g → g ≡ k
same_graph g k a b x y =
    let ps = ascending_unique point_cmp point_cmp_total g.points k.points a.points b.points x.points y.points in
    let ms = ascending_unique mark_cmp mark_cmp_total g.marks k.marks a.marks b.marks x.marks y.marks in
    let ns = ascending_unique point_cmp point_cmp_total g.pins k.pins a.pins b.pins x.pins y.pins in
    λ i. record { points = ps i; marks = ms i; pins = ns i }

pub drawn_ordered : (v : View) (h : Curves) → IsOrdered (drawn_graph v h)
unfolding drawn_graph
drawn_ordered v h = record {
  points = IsAscending-ascending point_cmp point_cmp_total _;
  marks = IsAscending-ascending mark_cmp mark_cmp_total _;
  pins = IsAscending-ascending point_cmp point_cmp_total _;
}

pub step_ordered : (s : Step) (g : Graph) → IsOrdered g → IsOrdered (apply s g)
unfolding apply
step_ordered (AddVertex p) g o = record { points = IsAscending-place point_cmp point_cmp_total p g.points o.points; marks = o.marks; pins = o.pins }
step_ordered (RemoveVertex p) g o = record { points = IsAscending-filter point_cmp (λ q. not (same_point q p)) g.points o.points; marks = o.marks; pins = o.pins }
step_ordered (SplitEdge p q r) g o = record { points = IsAscending-place point_cmp point_cmp_total r g.points o.points; marks = IsAscending-ascending mark_cmp mark_cmp_total _; pins = o.pins }
step_ordered (MergeEdge r) g o = record { points = IsAscending-filter point_cmp (λ q. not (same_point q r)) g.points o.points; marks = IsAscending-ascending mark_cmp mark_cmp_total _; pins = o.pins }
step_ordered (AddEdge p q c) g o = record { points = o.points; marks = IsAscending-place mark_cmp mark_cmp_total (mark p q c) g.marks o.marks; pins = o.pins }
step_ordered (RemoveEdge p q) g o = record { points = o.points; marks = IsAscending-filter mark_cmp (λ m. not (is_at p q m)) g.marks o.marks; pins = o.pins }
step_ordered (AddCurve p q c) g o = record { points = o.points; marks = IsAscending-place mark_cmp mark_cmp_total (mark p q c) g.marks o.marks; pins = o.pins }
step_ordered (RemoveCurve p q c) g o = record { points = o.points; marks = IsAscending-filter mark_cmp (λ m. not (is_at p q m && same_curve m.curve c)) g.marks o.marks; pins = o.pins }
step_ordered (SetPin p) g o = record { points = o.points; marks = o.marks; pins = IsAscending-place point_cmp point_cmp_total p g.pins o.pins }
step_ordered (ClearPin p) g o = record { points = o.points; marks = o.marks; pins = IsAscending-filter point_cmp (λ q. not (same_point q p)) g.pins o.pins }
step_ordered Clear g o = record { points = tt; marks = tt; pins = tt }

-- ---- points but one
pub in_without : (q r : Point) (ps : List Point) → Member q ps → q ≢ r → Member q (points_without r ps)
in_without q r ps m ne = in_filter (λ x. not (same_point x r)) q ps m (not_in (same_point q r) (λ e. ne (same_out q r e)))

pub of_without : (q r : Point) (ps : List Point) → Member q (points_without r ps) → Member q ps × (q ≢ r)
of_without q r ps m = let k = of_filter (λ x. not (same_point x r)) q ps m in (k.0, λ e. clash (same_in q r e) (not_out (same_point q r) k.1))

-- ---- points and marks, and one more
pub in_points : (q r : Point) (ps : List Point) → (q ≡ r) ⊎ Member q ps → Member q (place point_cmp r ps)
in_points q r ps k = in_place point_cmp point_cmp_total point_cmp_exact q r ps k

pub of_points : (q r : Point) (ps : List Point) → Member q (place point_cmp r ps) → (q ≡ r) ⊎ Member q ps
of_points q r ps k = of_place point_cmp point_cmp_total point_cmp_exact q r ps k

pub in_marks : (m n : Mark) (ms : List Mark) → (m ≡ n) ⊎ Member m ms → Member m (place mark_cmp n ms)
in_marks m n ms k = in_place mark_cmp mark_cmp_total mark_cmp_exact m n ms k

pub of_marks : (m n : Mark) (ms : List Mark) → Member m (place mark_cmp n ms) → (m ≡ n) ⊎ Member m ms
of_marks m n ms k = of_place mark_cmp mark_cmp_total mark_cmp_exact m n ms k

-- ---- the graph that is drawn after a change is that after its step
pub applied : (v : View) (h : Curves) (c : Change) → AreCurvesOf (step v c) (step_curves h c) → IsWithin (drawn_graph (step v c) (step_curves h c)) (apply (step_of_change v c) (drawn_graph v h)) → IsWithin (apply (step_of_change v c) (drawn_graph v h)) (drawn_graph (step v c) (step_curves h c)) → IsApplied v h c
applied v h c a x y = record {
  graph = same_graph (drawn_graph (step v c) (step_curves h c)) (apply (step_of_change v c) (drawn_graph v h)) (drawn_ordered (step v c) (step_curves h c)) (step_ordered (step_of_change v c) (drawn_graph v h) (drawn_ordered v h)) x y;
  curves = a;
}
