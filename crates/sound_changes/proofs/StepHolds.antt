-- What the graph that records draw holds, for records whose names ascend.
use Rattle.std.proofs.Common.{◌≡◌, true, refl, subst}
use Rattle.exact_plane.specs.Point.{Point}
use Rattle.plane_graphs.specs.Ascending.{Member}
use Rattle.plane_graphs.specs.Graph.{Graph, Mark}
use Rattle.slab_laws.specs.declared.names.DartId.{DartId}
use Rattle.slab_laws.specs.declared.names.VertexId.{VertexId}
use Rattle.slab_laws.specs.Sound.{IsNamed}
use Rattle.slab_laws.specs.View.{View, HasVertex, point_in, pinned_in}
use Rattle.arr_notes.specs.Curves.{Curves}
use Rattle.arr_notes.specs.RecordGraph.{drawn_graph}
use Rattle.sound_views.specs.RecordGraphLaws.{IsVertexAt, IsMarkOf}
use Rattle.sound_views.proofs.GraphHolds.{graph_holds}
use Rattle.sound_changes.proofs.StepGraphs.{IsWithin}

module _ (v : View) (named : IsNamed v) (h : Curves) where
  pub point_held : (w : VertexId) → HasVertex v w → Member (point_in v w) (drawn_graph v h).points
  point_held w has = ((graph_holds v h named).points (point_in v w)).1 (w, record { has = has; at = refl })

  pub held_point : (p : Point) → Member p (drawn_graph v h).points → (w : VertexId) × IsVertexAt v p w
  held_point p m = ((graph_holds v h named).points p).0 m

  pub mark_held : (m : Mark) (d : DartId) → IsMarkOf v h m d → Member m (drawn_graph v h).marks
  mark_held m d k = ((graph_holds v h named).marks m).1 (d, k)

  pub held_mark : (m : Mark) → Member m (drawn_graph v h).marks → (d : DartId) × IsMarkOf v h m d
  held_mark m k = ((graph_holds v h named).marks m).0 k

  pub pin_held : (w : VertexId) → HasVertex v w → pinned_in v w ≡ true → Member (point_in v w) (drawn_graph v h).pins
  pin_held w has e = ((graph_holds v h named).pins (point_in v w)).1 (w, record { has = has; at = refl }, e)

  pub held_pin : (p : Point) → Member p (drawn_graph v h).pins → (w : VertexId) × IsVertexAt v p w × (pinned_in v w ≡ true)
  held_pin p m = ((graph_holds v h named).pins p).0 m

  -- a graph that has the point of each vertex, each dart's marks, and the point of each pinned vertex holds what is drawn
  pub drawn_within : (k : Graph) → ((w : VertexId) → HasVertex v w → Member (point_in v w) k.points) → ((m : Mark) (d : DartId) → IsMarkOf v h m d → Member m k.marks) → ((w : VertexId) → HasVertex v w → pinned_in v w ≡ true → Member (point_in v w) k.pins) → IsWithin (drawn_graph v h) k
  drawn_within k points marks pins = record {
    points = λ p m. let r = held_point p m in subst (λ z. Member z k.points) r.1.at (points r.0 r.1.has);
    marks = λ m n. let r = held_mark m n in marks m r.0 r.1;
    pins = λ p m. let r = held_pin p m in subst (λ z. Member z k.pins) r.1.at (pins r.0 r.1.has (r.2));
  }
