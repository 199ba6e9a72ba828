-- What changes of the records leave sound, and what they make.
use Rattle.std.proofs.Common.{◌≡◌, ◌≢◌, Bool, subst, sym}
use Rattle.exact_plane.specs.Point.{Point}
use Rattle.plane_graphs.specs.Line.{IsProper}
use Rattle.plane_graphs.specs.Plane.{IsPlane}
use Rattle.edit_steps.specs.Steps.{AddVertex as AddVertexAt, apply}
use Rattle.slab_laws.specs.declared.names.VertexId.{VertexId}
use Rattle.slab_laws.specs.Sound.{IsGraphSound}
use Rattle.slab_laws.specs.View.{View, HasVertex, face_id, point_in}
use Rattle.arr_notes.specs.Curves.{Curves, AreCurvesOf}
use Rattle.arr_notes.specs.RecordGraph.{drawn_graph}
use Rattle.arr_notes.specs.ViewChanges.{with_pin, with_vertex, without_vertex}
use Rattle.arr_notes.specs.declared.change.Change.TheVariants.{AddVertex}
use Rattle.arr_notes.proofs.VertexReads.{vertex_is_added}
use Rattle.rotation_order.specs.VertexRings.{IsBare}
use Rattle.sound_changes.specs.ChangeFits.{IsNewVertex}
use Rattle.sound_changes.proofs.ChangesAreSteps.{changes_keep_views_sound}
use Rattle.sound_changes.proofs.VertexAdded.{pinned}
use Rattle.sound_changes.proofs.VertexRemoved.{vertex_fewer}
use Rattle.sound_views.specs.RecordGraphLaws.{IsVertexAt}

pub pinned_now : (v : View) (u : VertexId) (b : Bool) → IsGraphSound v → (w : View) → w ≡ with_pin v u b → IsGraphSound w
pinned_now v u b s w e = subst IsGraphSound (sym e) (pinned v u b s)

-- ---- vertices
pub new_vertex : (v : View) (u : VertexId) (p : Point) → ¬ HasVertex v u → IsProper p → ((x : VertexId) → HasVertex v x → point_in v x ≢ p) → IsNewVertex v u p
new_vertex v u p n k f = record { name = n; proper = k; free = f }

pub vertex_added : (v : View) (h : Curves) (u : VertexId) (p : Point) → IsGraphSound v → AreCurvesOf v h → IsNewVertex v u p → IsPlane (apply (AddVertexAt p) (drawn_graph v h)) → (w : View) → w ≡ with_vertex v u p → IsGraphSound w
vertex_added v h u p s a n k w e = subst IsGraphSound (sym e) (changes_keep_views_sound v h (AddVertex u p (face_id 0)) s a n k)

pub vertex_there : (v : View) (u : VertexId) (p : Point) (w : View) → w ≡ with_vertex v u p → IsVertexAt w p u
vertex_there v u p w e = let i = vertex_is_added v u p in subst (λ z. IsVertexAt z p u) (sym e) (record { has = i.has; at = i.point })

pub vertex_gone : (v : View) (u : VertexId) → IsGraphSound v → IsBare v u → (w : View) → w ≡ without_vertex v u → IsGraphSound w
vertex_gone v u s b w e = subst IsGraphSound (sym e) (vertex_fewer v u s b)
