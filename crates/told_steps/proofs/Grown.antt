-- What steps that grow leave: vertices stay, and each dart too, unless a vertex divides its edge.
use Rattle.std.proofs.Common.{◌≡◌, ◌⊎◌, List, [], ◌∷◌, refl, sym, ap, ◌∙◌, subst, inl, inr, Bool, true, false, Option}
use Rattle.exact_plane.specs.Line.{Line}
use Rattle.exact_plane.specs.Point.{Point}
use Rattle.edit_steps.specs.Steps.{Step}
use Rattle.slab_laws.specs.declared.names.DartId.{DartId}
use Rattle.slab_laws.specs.declared.names.VertexId.{VertexId}
use Rattle.slab_laws.specs.Skeleton.{inside}
use Rattle.slab_laws.specs.Sound.{edge_in, IsGraphSound}
use Rattle.slab_laws.specs.View.{View, HasVertex, HasDart, source_in, twin_in}
use Rattle.sound_views.proofs.NamedDarts.{twin_dart}
use Rattle.arr_notes.specs.Reads.{IsVertexMore, IsPinSet}
use Rattle.arr_notes.specs.ViewChanges.{with_vertex, with_pin}
use Rattle.arr_notes.proofs.VertexReads.{vertex_is_added, pin_is_set}
use Rattle.arr_notes.specs.declared.change.Change.{Change}
use Rattle.arr_notes.specs.declared.change.Change.TheVariants.{AddVertex, RemoveVertex, SplitEdge, MergeEdge, AddEdge, RemoveEdge, AddCurve, RemoveCurve, SetPin, ClearPin, Clear}
use Rattle.arr_notes.specs.Curves.{Curves, AreCurvesOf, step_curves}
use Rattle.arr_notes.specs.Step.{step, split_edge, add_edge}
use Rattle.arr_notes.proofs.Names.{cases_dart}
use Rattle.sound_changes.specs.EdgePlaces.{FitsAddedEdge}
use Rattle.sound_changes.proofs.EdgeAdded.{more}
use Rattle.sound_changes.proofs.RingsKept.{up, start_old, end_old, point_same, vertex_up}
use Rattle.sound_changes.specs.ChangeFits.{IsNewVertex, FitsSplit}
use Rattle.sound_changes.proofs.Splits.{halved, at_w, cut}
use Rattle.sound_changes.specs.StepOfChange.{step_of_change, FitsChange}
use Rattle.sound_changes.proofs.ChangesAreSteps.{changes_are_steps}
use Rattle.sound_changes.proofs.StepSplitEdge.{IsPartedAt, way}
use Rattle.sound_changes.proofs.StepCases.{IsSameWay, unchanged_way}
use Rattle.told_steps.specs.RecordLayers.{IsRunOfSteps}
use Rattle.told_steps.specs.LayerSteps.{Grows, AllGrow}
use Rattle.told_steps.proofs.Stays.{IsSamePlace, IsDivided, way_on, way_edge, same_way, pin_way}

-- every vertex of v is one of w; so is every dart, but where its edge was parted, and then a vertex is inside for good
pub record IsGrown (v w : View) : Type 0 where
  pub vertex : (u : VertexId) → HasVertex v u → IsSamePlace v w u
  pub dart : (d : DartId) → HasDart v d → IsSameWay v w d ⊎ IsDivided w (edge_in v d)

-- no step, and steps one after the other
grown_same : (v : View) → IsGrown v v
grown_same v = record { vertex = λ u o. record { has = o; point = refl }; dart = λ d o. inl (unchanged_way v d o) }

grown_on : (v g w : View) → IsGrown v g → IsGrown g w → IsGrown v w
grown_on v g w a b = record {
  vertex = λ u o. let x = a.vertex u o in let y = b.vertex u x.has in record { has = y.has; point = y.point ∙ x.point };
  dart = λ d o. elim (a.dart d o) [
    | inl x ↦ elim (b.dart d x.after) [ inl y ↦ inl (way_on v g w d x y) | inr y ↦ inr (subst (IsDivided w) (way_edge v g d x) y) ]
    | inr x ↦ let y = b.vertex x.vertex x.has in inr (record { vertex = x.vertex; has = y.has; within = subst (λ z. inside (edge_in v d) z ≡ true) (sym y.point) x.within })
  ];
}

-- ---- each step
vertex_added : (v : View) (w : VertexId) (p : Point) → IsGraphSound v → IsNewVertex v w p → IsGrown v (with_vertex v w p)
vertex_added v w p s n =
    let k : IsVertexMore v (with_vertex v w p) w p = vertex_is_added v w p in
    let old = λ (u : VertexId) (o : HasVertex v u). k.others u (λ q. n.name (subst (HasVertex v) q o)) in
    record {
      vertex = λ u o. record { has = (old u o).has o; point = (old u o).point };
      dart = λ d o. inl (same_way v (with_vertex v w p) s.twinned k.darts (λ d o. (old (source_in v d) (s.linked.source d o)).point) d o);
    }

pin_grown : (v : View) (w : VertexId) (b : Bool) → IsGraphSound v → IsGrown v (with_pin v w b)
pin_grown v w b s =
    let k : IsPinSet v (with_pin v w b) w b = pin_is_set v w b in
    record { vertex = λ u o. record { has = k.has u o; point = k.point u }; dart = λ d o. inl (pin_way v w b s.twinned d o) }

edge_added : (v : View) (d m : DartId) (u w : VertexId) (at_u at_w : Option DartId) (l : Line) → IsGraphSound v → FitsAddedEdge v d m u w at_u at_w l → IsGrown v (add_edge v d m u w at_u at_w l)
edge_added v d m u w at_u at_w l s f =
    let g = add_edge v d m u w at_u at_w l in
    let k = more v d m u w at_u at_w l s f in
    record {
      vertex = λ x o. record { has = vertex_up v g d m u w l k x o; point = point_same v g d m u w l k x };
      dart = λ x o. inl (record { before = o; after = up v g d m u w l k x o; start = start_old v g d m u w l k x o; end = end_old v g d m u w l k s.twinned x o });
    }

edge_split : (v : View) (d : DartId) (w : VertexId) (p : Point) (n m : DartId) → IsGraphSound v → FitsSplit v d w p n m → IsGrown v (split_edge v d w p n m)
edge_split v d w p n m s c =
    let g = split_edge v d w p n m in
    let t = twin_in v d in
    let i = halved v d w p n m s c in
    let at = at_w v d w p n m s c in
    let k = cut v d w p n m s c in
    let parts : IsPartedAt v g d t n m w p = record { halved = i; twinned = s.twinned; sourced = s.linked.source; at_w = at; before = k.before; behind = k.behind } in
    let divided : IsDivided g (edge_in v d) = record { vertex = w; has = i.w_has; within = subst (λ z. inside (edge_in v d) z ≡ true) (sym at) c.inside_edge } in
    record {
      vertex = λ u o. record { has = i.vertex_has u o; point = i.vertex_point u o };
      dart = λ x o. elim (cases_dart x d) [
        | inl q ↦ inr (subst (λ z. IsDivided g (edge_in v z)) (sym q) divided)
        | inr nd ↦ elim (cases_dart x t) [
          | inl q ↦ inr (subst (IsDivided g) (sym (ap (edge_in v) q ∙ ap (λ z. z.edge) (twin_dart v s d c.dart))) divided)
          | inr nt ↦ inl (way v g d t n m w p parts x o nt nd)
        ]
      ];
    }

-- ---- and all of them
grown_step : (v : View) (h : Curves) (c : Change) → IsGraphSound v → FitsChange v h c → Grows (step_of_change v c) → IsGrown v (step v c)
grown_step v h (AddVertex w p a) s f g = vertex_added v w p s f
grown_step v h (RemoveVertex w) s f g = absurd g
grown_step v h (SplitEdge d w p n m) s f g = edge_split v d w p n m s f
grown_step v h (MergeEdge w d n) s f g = absurd g
grown_step v h (AddEdge d m u w at_u at_w l c n) s f g = edge_added v d m u w at_u at_w l s f.0
grown_step v h (RemoveEdge d m n) s f g = absurd g
grown_step v h (AddCurve d c) s f g = grown_same v
grown_step v h (RemoveCurve d c) s f g = grown_same v
grown_step v h (SetPin w) s f g = pin_grown v w true s
grown_step v h (ClearPin w) s f g = pin_grown v w false s
grown_step v h (Clear a) s f g = absurd g

pub all_grown : (v : View) (h : Curves) (ss : List Step) (w : View) (k : Curves) → IsGraphSound v → AreCurvesOf v h → IsRunOfSteps v h ss w k → AllGrow ss → IsGrown v w
all_grown v h [] w k s a m g = subst (IsGrown v) (sym m.0) (grown_same v)
all_grown v h (x ∷ xs) w k s a m g =
    let c = m.0 in
    grown_on v (step v c) w
    (grown_step v h c s m.1.fits (subst Grows (sym m.1.tells) g.0))
    (all_grown (step v c) (step_curves h c) xs w k m.1.sound (changes_are_steps v h c s a m.1.fits).curves m.2 g.1)
