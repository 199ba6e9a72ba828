-- The faces named for points stay theirs where a point becomes a vertex.
use Rattle.std.proofs.Common.{◌≡◌, [], ◌∷◌, sym, subst}
use Rattle.exact_plane.specs.Point.{Point}
use Rattle.plane_graphs.specs.Line.{IsProper}
use Rattle.edit_steps.specs.Steps.{Step, AddVertex as AddVertexAt, SplitEdge as SplitEdgeAt}
use Rattle.slab_laws.specs.declared.names.FaceId.{FaceId}
use Rattle.slab_laws.specs.FacesSound.{IsSound}
use Rattle.slab_laws.specs.View.{View, Faces}
use Rattle.arr_notes.specs.declared.change.Change.{Change}
use Rattle.arr_notes.specs.declared.change.Change.TheVariants.{AddVertex, RemoveVertex, SplitEdge, MergeEdge, AddEdge, RemoveEdge, AddCurve, RemoveCurve, SetPin, ClearPin, Clear}
use Rattle.arr_notes.specs.Curves.{Curves}
use Rattle.arr_notes.specs.MapView.{MapView, step_map}
use Rattle.dcel_records.specs.declared.spot.Spot.{Spot}
use Rattle.dcel_records.specs.declared.spot.Spot.TheVariants as spot
use Rattle.face_location.specs.Spots.{IsFaceNamed}
use Rattle.face_steps.specs.ChangeLaws.{MakesVertex}
use Rattle.face_steps.specs.VertexSteps.{IsFaceRound}
use Rattle.face_steps.proofs.FacesStay.{faces_stay_named}
use Rattle.observer_bus.specs.Rounds.{BusRow}
use Rattle.sound_changes.specs.StepOfChange.{step_of_change}
use Rattle.told_steps.specs.ToldRuns.{IsToldRun}

-- the step by which the point becomes a vertex where it is none
abbrev pub IsStepFor : Point → Step → Type 0
IsStepFor p (AddVertexAt o) = o ≡ p
IsStepFor p (SplitEdgeAt q r o) = o ≡ p
IsStepFor p other = ⊥

makes : (v : View) (p : Point) (x : Change) → IsStepFor p (step_of_change v x) → MakesVertex x
makes v p (AddVertex u o a) e = tt
makes v p (SplitEdge d u o n m) e = tt
makes v p (RemoveVertex u) e = absurd e
makes v p (MergeEdge u d n) e = absurd e
makes v p (AddEdge d m u w at_u at_w l c n) e = absurd e
makes v p (RemoveEdge d m n) e = absurd e
makes v p (AddCurve d c) e = absurd e
makes v p (RemoveCurve d c) e = absurd e
makes v p (SetPin u) e = absurd e
makes v p (ClearPin u) e = absurd e
makes v p (Clear a) e = absurd e

-- a spot is right of faces where its own face is
by_face : (v w : View) (f g : Faces) (q : Point) (s : Spot) → ((a : FaceId) → IsFaceRound v f a q → IsFaceRound w g a q) → IsFaceNamed v f q s → IsFaceNamed w g q s
by_face v w f g q (spot.Vertex u) k n = tt
by_face v w f g q (spot.Edge d) k n = tt
by_face v w f g q (spot.Face a) k n = k a n

-- the faces named for points of the plane stay theirs
abbrev pub FacesStay : MapView → MapView → Type 0
FacesStay v w = (q : Point) (s : Spot) → IsProper q → IsFaceNamed v.graph v.faces q s → IsFaceNamed w.graph w.faces q s

module _ (v : MapView) (h : Curves) (b : BusRow) (w : MapView) (k : Curves) (c : BusRow) where
  pub named_same : IsToldRun v h b [] w k c → FacesStay v w
  unfolding IsToldRun
  named_same r q s proper n = subst (λ (z : MapView). IsFaceNamed z.graph z.faces q s) (sym r.0) n

  pub named_after : IsSound v.graph v.faces → (p : Point) (t : Step) → IsStepFor p t → IsToldRun v h b (t ∷ []) w k c → FacesStay v w
  unfolding IsToldRun
  named_after sound p t e (x, m, told, heard, before, after, rest) q s proper n =
      subst (λ (z : MapView). IsFaceNamed z.graph z.faces q s) (sym rest.0)
      (by_face v.graph (step_map v x).graph v.faces (step_map v x).faces q s (λ a i. faces_stay_named v.graph h v.faces x sound m.made.fits m.made.sound m.fits (makes v.graph p x (subst (IsStepFor p) (sym m.made.tells) e)) a q proper.positive i) n)
