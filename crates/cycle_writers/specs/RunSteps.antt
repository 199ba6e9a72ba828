-- Runs that are written are what the steps write (this project).
use Rattle.std.specs.Prelude.{◌≡◌, ◌≢◌, List}
use Rattle.exact_plane.specs.Line.{Line}
use Rattle.slab_laws.specs.declared.names.CycleId.{CycleId}
use Rattle.slab_laws.specs.declared.names.DartId.{DartId}
use Rattle.slab_laws.specs.declared.names.VertexId.{VertexId}
use Rattle.slab_laws.specs.View.{View, Faces, next_in, cycle_in}
use Rattle.arr_notes.specs.FaceWriters.{on_cycle, off_cycles, recycled}
use Rattle.face_steps.specs.EdgePairs.{IsEdgeApart}
use Rattle.face_steps.specs.RowsWritten.{AreDartRows, all_on}
use Rattle.face_steps.specs.StepPremises.{IsBetween}
use Rattle.face_steps.specs.Tabled.{AreTabled}
use Rattle.cycle_writers.specs.Runs.{IsRun}

-- v is the view without the edge, w the one with it; d and its twin m come after a and b
pub record RunsAreSteps : Type 0 where
  -- just the darts have rows: with the edge's darts on a cycle, and without them
  pub rows_linked : (v w : View) (f : Faces) (d m : DartId) (p q : VertexId) (l : Line) (c : CycleId) → IsEdgeApart v w d m p q l → AreDartRows v f → AreDartRows w (on_cycle m c (on_cycle d c f))
  pub rows_unlinked : (v w : View) (s : Faces) (d m : DartId) (p q : VertexId) (l : Line) → IsEdgeApart v w d m p q l → AreDartRows w s → AreDartRows v (off_cycles m (off_cycles d s))
  -- two cycles are joined: the one at the second place goes, or the one at the first
  pub second_goes : (v w : View) (f : Faces) (d m : DartId) (p q : VertexId) (a b : DartId) (ds : List DartId) → IsBetween v w d m p q a b → AreTabled v f → cycle_in f a ≢ cycle_in f b → IsRun w (next_in w d) m ds → let kept = cycle_in f a in let s = on_cycle m kept (on_cycle d kept f) in all_on ds kept s ≡ recycled (cycle_in f b) kept s
  pub first_goes : (v w : View) (f : Faces) (d m : DartId) (p q : VertexId) (a b : DartId) (ds : List DartId) → IsBetween v w d m p q a b → AreTabled v f → cycle_in f a ≢ cycle_in f b → IsRun w (next_in w m) d ds → let kept = cycle_in f b in let s = on_cycle m kept (on_cycle d kept f) in all_on ds kept s ≡ recycled (cycle_in f a) kept s
  -- two faces are united: the cycle of d goes, or that of m
  pub first_united : (v w : View) (s : Faces) (d m : DartId) (p q : VertexId) (a b : DartId) (kept : CycleId) (ds : List DartId) → IsBetween v w d m p q a b → AreTabled w s → cycle_in s d ≢ cycle_in s m → IsRun v (next_in w d) (next_in w m) ds → let f = off_cycles m (off_cycles d s) in all_on ds kept f ≡ recycled (cycle_in s d) kept f
  pub second_united : (v w : View) (s : Faces) (d m : DartId) (p q : VertexId) (a b : DartId) (kept : CycleId) (ds : List DartId) → IsBetween v w d m p q a b → AreTabled w s → cycle_in s d ≢ cycle_in s m → IsRun v (next_in w m) (next_in w d) ds → let f = off_cycles m (off_cycles d s) in all_on ds kept f ≡ recycled (cycle_in s m) kept f
