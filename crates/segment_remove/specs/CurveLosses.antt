-- What takes a curve from an edge.
use Rattle.std.specs.Prelude.{◌≡◌, ◌==◌, ℕ, Bool, not, cond, map, [], ◌∷◌}
use Rattle.std.specs.List.{list_any, filter}
use Rattle.exact_plane.specs.Point.{Point}
use Rattle.plane_graphs.specs.Graph.{Graph, same_curve}
use Rattle.edit_steps.specs.EditLaws.{curve_of}
use Rattle.edit_steps.specs.Steps.{Step, RemoveEdge as EdgeGoes, RemoveCurve as CurveGoes, less_step}
use Rattle.slab_laws.specs.declared.names.CurveId.{CurveId}
use Rattle.slab_laws.specs.declared.names.DartId.{DartId}
use Rattle.slab_laws.specs.View.{View, point_in, source_in, target_in, twin_in}
use Rattle.arr_notes.specs.Curves.{Curves}
use Rattle.arr_notes.specs.MapView.{MapView}
use Rattle.arr_notes.specs.Step.{remove_edge}
use Rattle.arr_notes.specs.RecordGraph.{drawn_graph}
use Rattle.curve_history.specs.Past.{Past}
use Rattle.observer_bus.specs.Rounds.{BusRow}
use Rattle.told_steps.specs.StrandRuns.{strand_graph}
use Rattle.told_steps.specs.ToldRuns.{IsToldRun}

-- another curve than c runs along the edge of d
abbrev pub is_shared : Curves → DartId → ℕ → Bool
is_shared h d c = list_any (λ k. not (same_curve k c)) (h d)

-- what the loss of a curve makes of the view: the edge of the dart goes where no other curve runs along it; the flag: one does (CGAL manual, `remove_curve`)
abbrev pub view_lost : Bool → View → DartId → View
view_lost shared v d = cond shared v (remove_edge v d (twin_in v d))

-- and of the curves along edges: the edge loses the curve, or all that it has
abbrev pub curves_lost : Bool → Curves → DartId → CurveId → Curves
curves_lost shared h d c x = cond (x.0 == d.0) (cond shared (filter (λ k. not (same_curve k c.0)) (h x)) []) (h x)

-- the view with the loss of a curve at the edge of a dart
abbrev pub HasLost : View → Curves → DartId → CurveId → View → Type 0
HasLost v h d c w = w ≡ view_lost (is_shared h d c.0) v d

-- the curves along all edges with that loss
abbrev pub HaveLost : Curves → DartId → CurveId → Curves → Type 0
HaveLost h d c k = (x : DartId) → k x ≡ curves_lost (is_shared h d c.0) h d c x

-- the step that takes the curve c from the edge from p to q; the flag: another curve runs along it
abbrev pub loss_between : Bool → Point → Point → ℕ → Step
loss_between shared p q c = cond shared (CurveGoes p q c) (EdgeGoes p q)

-- the step that takes a curve from the edge of a dart
abbrev pub loss_step : View → Curves → DartId → CurveId → Step
loss_step v h d c = loss_between (is_shared h d c.0) (point_in v (source_in v d)) (point_in v (target_in v d)) c.0

-- just that step is made, and told to observers (CGAL manual, `Arr_observer`)
abbrev pub IsLossTold : MapView → Curves → BusRow → DartId → CurveId → MapView → Curves → BusRow → Type 0
IsLossTold m h b d c w k e = IsToldRun m h b (loss_step m.graph h d c ∷ []) w k e

-- the curve is gone from all its edges, in order, from each by the step of the model, which is told to observers (CGAL manual, `remove_curve`)
abbrev pub IsCurveGone : MapView → Curves → BusRow → CurveId → MapView → Curves → BusRow → Type 0
IsCurveGone m h b c w k e =
    IsToldRun m h b (map (less_step (drawn_graph m.graph h)) (filter (λ n. same_curve n.curve c.0) (drawn_graph m.graph h).marks)) w k e

-- the graph without all sides of a curve, where sides are told apart (this project)
abbrev pub without_sides : ℕ → Graph → Graph
without_sides c g = record g { marks = filter (λ m. not (same_curve (curve_of m.curve) c)) g.marks }

-- all sides of the curve are gone from all edges, and nothing else is (this project)
abbrev pub AreSidesGone : View → Past → ℕ → View → Past → Type 0
AreSidesGone v p c w q = strand_graph w q ≡ without_sides c (strand_graph v p)
