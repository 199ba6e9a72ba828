-- A meeting's point becomes a vertex: it is one, or its edge goes in two, or it comes inside a face.
use Rattle.std.proofs.Common.{arith, ◌≡◌, ◌*◌, ℕ, cond, not, [], ◌∷◌, length, true, refl, sym, ap, ◌∙◌, subst}
use Rattle.std.proofs.lemmas.List.Sums.{sum_by-cons}
use Rattle.exact_plane.specs.Point.{Point}
use Rattle.plane_graphs.specs.Ascending.{Member}
use Rattle.plane_graphs.specs.Graph.{Graph}
use Rattle.plane_graphs.specs.Line.{IsProper, precedes}
use Rattle.plane_graphs.specs.Plane.{IsPlane}
use Rattle.plane_graphs.proofs.Order.{lt_out, lt_never, Lt}
use Rattle.edit_steps.specs.Allowed.{AreSound}
use Rattle.edit_steps.specs.Steps.{Step, AddVertex as AddVertexAt, SplitEdge as SplitEdgeAt, apply}
use Rattle.slab_laws.specs.declared.names.DartId.{DartId}
use Rattle.slab_laws.specs.declared.names.VertexId.{VertexId}
use Rattle.slab_laws.specs.FacesSound.{IsSound}
use Rattle.slab_laws.specs.Sound.{IsGraphSound}
use Rattle.slab_laws.specs.View.{View, HasVertex, HasDart, point_in, source_in, target_in, twin_in}
use Rattle.arr_notes.specs.ViewChanges.{with_vertex}
use Rattle.sound_changes.specs.ChangeFits.{FitsSplit}
use Rattle.sound_changes.specs.SplitHalves.{IsHalved}
use Rattle.sound_changes.proofs.SplitHalves.{not_n}
use Rattle.sound_changes.proofs.Splits.{halved}
use Rattle.arr_notes.specs.declared.change.Change.{Change}
use Rattle.arr_notes.specs.declared.change.Change.TheVariants.{AddVertex, RemoveVertex, SplitEdge, MergeEdge, AddEdge, RemoveEdge, AddCurve, RemoveCurve, SetPin, ClearPin, Clear}
use Rattle.arr_notes.specs.Curves.{Curves, AreCurvesOf, step_curves}
use Rattle.arr_notes.specs.Step.{split_edge, step}
use Rattle.dcel_records.specs.declared.spot.Met.{Met}
use Rattle.dcel_records.specs.declared.spot.Met.TheVariants.{Vertex, Edge, Nothing}
use Rattle.dcel_records.specs.Spots.{IsMet, IsInFace, met_of}
use Rattle.arr_notes.specs.MapView.{MapView}
use Rattle.arr_notes.specs.RecordGraph.{drawn_graph}
use Rattle.observer_bus.specs.Rounds.{BusRow}
use Rattle.sound_changes.specs.StepOfChange.{step_of_change, FitsChange}
use Rattle.sound_changes.proofs.StepHolds.{point_held}
use Rattle.sound_changes.proofs.StepCases.{at_other}
use Rattle.sound_views.specs.RecordGraphLaws.{IsVertexAt}
use Rattle.curve_history.specs.Past.{Past, curves_on, strands_on}
use Rattle.told_steps.specs.RecordLayers.{IsRunOfSteps}
use Rattle.told_steps.specs.SidedRuns.{IsSidedRun}
use Rattle.told_steps.specs.ToldRuns.{IsToldRun}
use Rattle.told_steps.specs.StrandRuns.{IsStrandRun}
use Rattle.told_steps.proofs.SidedRuns.{sided_as}
use Rattle.told_steps.proofs.ToldTogether.{told_runs_lawful}
use Rattle.zone_walk.specs.declared.plan.Meeting.{Meeting}
use Rattle.segment_insert.specs.Coming.{steps_at, IsMetNow, IsMetStill, IsMadeAt}
use Rattle.told_steps.specs.VertexMade.{IsPlaneWith, darts_at, pairs_at, steps_at as steps_here, vertices_at}
use Rattle.zone_walk.specs.Zone.{is_edge, is_vertex, splits_needed, vertices_needed}
use Rattle.segment_insert.proofs.VerticesAdded.{old_vertex, leads_too, face_too}
use Rattle.segment_insert.proofs.VerticesFound.{proper_by_step, face_step, edge_step, face_new, edge_new}
use Rattle.segment_insert.proofs.VerticesNamed.{FacesStay, IsStepFor, named_after, named_same}
use Rattle.segment_insert.proofs.VerticesSplit.{old_curves, leads_still, face_still}
use Rattle.segment_insert.proofs.SidesFollow.{none_apart, one_apart}
use Rattle.segment_insert.proofs.VerticesTurns.{none_there, one_there, one_sound}
use Rattle.segment_insert.proofs.VerticesWalk.{leads_forward, leads_inside, leads_once}

-- names of vertices, the curves of old edges, and what was told of points after p, stay
record IsKept (v : View) (h : Curves) (w : View) (k : Curves) (p : Point) : Type 0 where
  vertices : (u : VertexId) → HasVertex v u → HasVertex w u × (point_in w u ≡ point_in v u)
  curves : (d : DartId) → HasDart v d → k d ≡ h d
  later : (q : Point) (o : Met) → IsProper q → precedes p q ≡ true → IsMetStill v h q o → IsMetStill w k q o

-- ---- no step
kept_same : (v : View) (h : Curves) (w : View) (k : Curves) (p : Point) → IsRunOfSteps v h [] w k → IsKept v h w k p
kept_same v h w k p m =
    let e : k ≡ h = λ i d. m.1 d i in
    subst (λ z. IsKept v h z k p) (sym m.0) (subst (λ z. IsKept v h v z p) (sym e) (record { vertices = λ u o. (o, refl); curves = λ d o. refl; later = λ q o proper l y. y }))

-- ---- a vertex comes
module _ (v : View) (h : Curves) (s : IsGraphSound v) where
  -- inside a face
  module _ (p : Point) (x : VertexId) (new : ¬ HasVertex v x) where
    added_later : (q : Point) (o : Met) → IsProper q → precedes p q ≡ true → IsMetStill v h q o → IsMetStill (with_vertex v x p) h q o
    added_later q (Vertex u) proper l k = let r = old_vertex v x p s new u k.0 in (r.has k.0, r.point ∙ k.1)
    added_later q (Edge d) proper l k = (k.0, leads_too v x p s new q k.0 d k.1, k.2)
    added_later q Nothing proper l k = face_too v x p s new q (λ e. lt_never (subst (λ z. Lt p z) (sym e) (lt_out p q l))) k

    kept_beside : IsKept v h (with_vertex v x p) h p
    kept_beside = record {
      vertices = λ u o. let r = old_vertex v x p s new u o in (r.has o, r.point);
      curves = λ d o. refl;
      later = added_later;
    }

  -- an edge goes in two
  module _ (p : Point) (b : DartId) (x : VertexId) (n t : DartId) (c : FitsSplit v b x p n t) where
    abbrev g : View
    g = split_edge v b x p n t

    abbrev parts : Curves
    parts = step_curves h (SplitEdge b x p n t)

    i : IsHalved v g b (twin_in v b) n t x
    i = halved v b x p n t s c

    split_later : (q : Point) (o : Met) → IsProper q → precedes p q ≡ true → IsMetStill v h q o → IsMetStill g parts q o
    split_later q (Vertex u) proper l y = (i.vertex_has u y.0, i.vertex_point u y.0 ∙ y.1)
    split_later q (Edge d) proper l y =
        let r = leads_still v b x p n t s c q proper (lt_out p q l) h y.0 d y.1 in
        (r.0, r.1, r.2 ∙ y.2 ∙ sym (old_curves v b x p n t s c q proper (lt_out p q l) h d (leads_forward v q y.0 d y.1).0))
    split_later q Nothing proper l y = face_still v b x p n t s c q proper (lt_out p q l) y

    kept_by_split : IsKept v h g parts p
    kept_by_split = record {
      vertices = λ u o. (i.vertex_has u o, i.vertex_point u o);
      curves = λ d o. at_other d n (h b) (h d) (not_n v g b (twin_in v b) n t x i d o);
      later = split_later;
    }

  -- by the step alone
  kept_by : (x : Change) (p : Point) → FitsChange v h x → IsStepFor p (step_of_change v x) → IsKept v h (step v x) (step_curves h x) p
  kept_by (AddVertex x o a) p f e = subst (IsKept v h (with_vertex v x o) h) e (kept_beside o x f.name)
  kept_by (SplitEdge d x o n t) p f e = subst (IsKept v h (split_edge v d x o n t) (step_curves h (SplitEdge d x o n t))) e (kept_by_split o d x n t f)
  kept_by (RemoveVertex x) p f e = absurd e
  kept_by (MergeEdge x d n) p f e = absurd e
  kept_by (AddEdge d m u x at_u at_x l c n) p f e = absurd e
  kept_by (RemoveEdge d m n) p f e = absurd e
  kept_by (AddCurve d c) p f e = absurd e
  kept_by (RemoveCurve d c) p f e = absurd e
  kept_by (SetPin x) p f e = absurd e
  kept_by (ClearPin x) p f e = absurd e
  kept_by (Clear a) p f e = absurd e

  kept_by_run : (p : Point) (t : Step) (w : View) (k : Curves) → IsStepFor p t → IsRunOfSteps v h (t ∷ []) w k → IsKept v h w k p
  kept_by_run p t w k b m =
      let e : k ≡ step_curves h m.0 = λ i d. m.2.1 d i in
      subst (λ z. IsKept v h z k p) (sym m.2.0) (subst (λ z. IsKept v h (step v m.0) z p) (sym e) (kept_by m.0 p m.1.fits (subst (IsStepFor p) (sym m.1.tells) b)))

-- ---- where the point lies now
pub lies_now : (v : View) (p : Point) (told now : Met) → IsMetNow v p told now → IsMet v p now
lies_now v p (Vertex w) now k = subst (IsMet v p) (sym k.0) k.1
lies_now v p (Edge d) now k = let i = leads_inside v p k.0 d k.2 in subst (IsMet v p) (sym k.1) (i.0.0, i.0.1, i.1)
lies_now v p Nothing now k = subst (IsMet v p) (sym k.0) k.1

-- it takes the room that the spot tells
vertices_now : (v : View) (p : Point) (told now : Met) → IsMetNow v p told now → vertices_at now ≡ cond (not (is_vertex told)) 1 0
vertices_now v p (Vertex w) now k = ap vertices_at k.0
vertices_now v p (Edge d) now k = ap vertices_at k.1
vertices_now v p Nothing now k = ap vertices_at k.0

darts_now : (v : View) (p : Point) (told now : Met) → IsMetNow v p told now → darts_at now ≡ 2 * cond (is_edge told) 1 0
darts_now v p (Vertex w) now k = ap darts_at k.0
darts_now v p (Edge d) now k = ap darts_at k.1
darts_now v p Nothing now k = ap darts_at k.0

pub pairs_now : (v : View) (h : Curves) (p : Point) (told now : Met) → IsGraphSound v → IsProper p → IsMetStill v h p told → IsMetNow v p told now → pairs_at h now ≡ pairs_at h told
pairs_now v h p (Vertex w) now s proper y k = ap (pairs_at h) k.0
pairs_now v h p (Edge d) now s proper y k = ap (pairs_at h) k.1 ∙ ap length (ap h (leads_once v p s proper k.0 y.0 d k.2 y.1) ∙ y.2)
pairs_now v h p Nothing now s proper y k = ap (pairs_at h) k.0

module _ (v : View) (m : Meeting) (now : Met) (k : IsMetNow v m.point (met_of m.spot) now) where
  pub vertices_there : vertices_at now ≡ vertices_needed (m ∷ [])
  vertices_there =
      let f : Meeting → ℕ = λ n. cond (not (is_vertex (met_of n.spot))) 1 0 in
      omega (arith, sum_by-cons f m [], vertices_now v m.point (met_of m.spot) now k)

  pub darts_there : darts_at now ≡ 2 * splits_needed (m ∷ [])
  darts_there =
      let f : Meeting → ℕ = λ n. cond (is_edge (met_of n.spot)) 1 0 in
      omega (arith, sum_by-cons f m [], darts_now v m.point (met_of m.spot) now k)

-- ---- the vertex is made there
module _ (v : MapView) (p : Past) (s : IsGraphSound v.graph) (a : AreCurvesOf v.graph (curves_on p)) (m : Meeting) where
  abbrev here : Graph
  here = drawn_graph v.graph (curves_on p)

  steps_are : (now : Met) → IsMet v.graph m.point now → IsProper m.point → steps_here v.graph m.point now ≡ steps_at v.graph (curves_on p) (m.point ∷ [])
  steps_are (Vertex u) o proper = none_there v.graph (curves_on p) s a m.point [] tt (subst (λ r. Member r here.points) o.1 (point_held v.graph s.named (curves_on p) u o.0))
  steps_are (Edge e) o proper =
      one_there v.graph (curves_on p) s a m.point [] tt (edge_new v.graph (curves_on p) s m.point e o.0 o.2) (SplitEdgeAt (point_in v.graph (source_in v.graph e)) (point_in v.graph (target_in v.graph e)) m.point)
      (edge_step v.graph (curves_on p) s m.point proper a e (o.0, o.1) o.2)
  steps_are Nothing o proper = one_there v.graph (curves_on p) s a m.point [] tt (face_new v.graph (curves_on p) s m.point o) (AddVertexAt m.point) (face_step v.graph (curves_on p) s m.point proper o)

  module _ (y : AreSound (steps_at v.graph (curves_on p) (m.point ∷ [])) here) where
    added_plane : IsInFace v.graph m.point → IsPlane (apply (AddVertexAt m.point) here)
    added_plane o =
        let one = one_sound v.graph (curves_on p) s a m.point [] tt (face_new v.graph (curves_on p) s m.point o) y in
        subst (λ z. IsPlane (apply z here)) (face_step v.graph (curves_on p) s m.point (proper_by_step m.point here one) o) one.plane

    pub plane_there : (now : Met) → IsMet v.graph m.point now → IsPlaneWith v.graph (curves_on p) m.point now
    plane_there (Vertex u) o = tt
    plane_there (Edge e) o = tt
    plane_there Nothing o = added_plane o

  -- ---- the sides of curves
  module _ (w : MapView) (q : Past) where
    apart_there : (now : Met) → IsRunOfSteps v.graph (curves_on p) (steps_here v.graph m.point now) w.graph (curves_on q) → IsStrandRun v.graph p (steps_here v.graph m.point now) w.graph q →
        IsRunOfSteps v.graph (strands_on p) (steps_here v.graph m.point now) w.graph (strands_on q)
    apart_there (Vertex u) r t = none_apart v.graph p w.graph q s a r t
    apart_there (Edge e) r t = one_apart v.graph p w.graph q s a (SplitEdgeAt (point_in v.graph (source_in v.graph e)) (point_in v.graph (target_in v.graph e)) m.point) tt r t
    apart_there Nothing r t = one_apart v.graph p w.graph q s a (AddVertexAt m.point) tt r t

    kept_there : (now : Met) → IsRunOfSteps v.graph (strands_on p) (steps_here v.graph m.point now) w.graph (strands_on q) → IsKept v.graph (strands_on p) w.graph (strands_on q) m.point
    kept_there (Vertex u) r = kept_same v.graph (strands_on p) w.graph (strands_on q) m.point r
    kept_there (Edge e) r = kept_by_run v.graph (strands_on p) s m.point (SplitEdgeAt (point_in v.graph (source_in v.graph e)) (point_in v.graph (target_in v.graph e)) m.point) w.graph (strands_on q) refl r
    kept_there Nothing r = kept_by_run v.graph (strands_on p) s m.point (AddVertexAt m.point) w.graph (strands_on q) refl r

    faces_there : (f : IsSound v.graph v.faces) (b c : BusRow) (now : Met) → IsToldRun v (curves_on p) b (steps_here v.graph m.point now) w (curves_on q) c → FacesStay v w
    faces_there f b c (Vertex u) r = named_same v (curves_on p) b w (curves_on q) c r
    faces_there f b c (Edge e) r = named_after v (curves_on p) b w (curves_on q) c f m.point (SplitEdgeAt (point_in v.graph (source_in v.graph e)) (point_in v.graph (target_in v.graph e)) m.point) refl r
    faces_there f b c Nothing r = named_after v (curves_on p) b w (curves_on q) c f m.point (AddVertexAt m.point) refl r

    pub made_there : {b c : BusRow} (f : IsSound v.graph v.faces) (now : Met) → IsMet v.graph m.point now → IsProper m.point → (x : VertexId) → IsSidedRun v p b (steps_here v.graph m.point now) w q c → IsVertexAt w.graph m.point x → IsMadeAt v p b w q c m x
    made_there {b} {c} f now o proper x t at =
        let ss = steps_here v.graph m.point now in
        let k = kept_there now (apart_there now (told_runs_lawful.steps v (curves_on p) b ss w (curves_on q) c t.told) t.strands) in
        record {
          told = sided_as v p b ss (steps_at v.graph (curves_on p) (m.point ∷ [])) w q c t (steps_are now o proper);
          has = at.has;
          point = at.at;
          vertices = k.vertices;
          sides = k.curves;
          later = k.later;
          faces = faces_there f b c now t.told;
        }
