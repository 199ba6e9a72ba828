-- What steps that shrink leave: no vertex comes, an edge that comes was divided before, and each dart stays, unless its edge is gone.
use Rattle.std.proofs.Common.{◌≡◌, ◌≢◌, ◌⊎◌, List, [], ◌∷◌, Bool, true, false, refl, sym, ap, ◌∙◌, subst, inl, inr}
use Rattle.std.specs.List.{Contains}
use Rattle.exact_plane.specs.Point.{Point}
use Rattle.plane_graphs.specs.Graph.{Edge}
use Rattle.edit_steps.specs.Steps.{Step}
use Rattle.slab_laws.specs.declared.names.DartId.{DartId}
use Rattle.slab_laws.specs.declared.names.VertexId.{VertexId}
use Rattle.slab_laws.specs.Skeleton.{inside}
use Rattle.slab_laws.specs.Sound.{edge_in, edge_between, skeleton_of, IsGraphSound}
use Rattle.slab_laws.specs.View.{View, HasVertex, HasDart, point_in, source_in, target_in, twin_in, line_in}
use Rattle.sound_views.proofs.NamedDarts.{twin_dart}
use Rattle.arr_notes.specs.Reads.{IsVertexLess, IsPinSet}
use Rattle.arr_notes.specs.ViewChanges.{no_rows, without_vertex, with_pin}
use Rattle.arr_notes.proofs.VertexReads.{vertex_is_removed, pin_is_set, nothing_is_there}
use Rattle.arr_notes.specs.declared.change.Change.{Change}
use Rattle.arr_notes.specs.declared.change.Change.TheVariants.{AddVertex, RemoveVertex, SplitEdge, MergeEdge, AddEdge, RemoveEdge, AddCurve, RemoveCurve, SetPin, ClearPin, Clear}
use Rattle.arr_notes.specs.Curves.{Curves, AreCurvesOf, step_curves}
use Rattle.arr_notes.specs.Step.{step, merge_edge, remove_edge}
use Rattle.arr_notes.proofs.Names.{cases_dart}
use Rattle.rotation_order.specs.VertexRings.{IsBare}
use Rattle.sound_changes.specs.EdgePlaces.{IsEdgeMore, IsDrawnLess}
use Rattle.sound_changes.specs.SplitHalves.{IsHalved}
use Rattle.sound_changes.proofs.RingsKept.{up, start_old, end_old, point_same, vertex_up, twinned_down}
use Rattle.sound_changes.proofs.EdgeRemoved.{fewer, drawn_less}
use Rattle.sound_changes.specs.ChangeFits.{FitsMerge}
use Rattle.sound_changes.proofs.KnownNames.{edge_known, known_edge}
use Rattle.sound_changes.proofs.Merges.{between, straight, merge_drawn}
use Rattle.sound_changes.specs.StepOfChange.{step_of_change, FitsChange}
use Rattle.sound_changes.proofs.ChangesAreSteps.{changes_are_steps}
use Rattle.sound_changes.proofs.StepMergeEdges.{joined}
use Rattle.sound_changes.proofs.StepSplitEdge.{IsPartedAt, way}
use Rattle.sound_changes.proofs.StepCases.{IsSameWay, unchanged_way, turned_way}
use Rattle.told_steps.specs.RecordLayers.{IsRunOfSteps}
use Rattle.told_steps.specs.LayerSteps.{Shrinks, AllShrink}
use Rattle.told_steps.proofs.Stays.{IsSamePlace, IsDivided, not_divided, way_on, way_edge, same_way, pin_way}

-- every vertex of w is one of v; an edge of w is one of v, or had a vertex of v inside; and a dart of v is one of w, unless its edge is no longer drawn
pub record IsShrunk (v w : View) : Type 0 where
  pub vertex : (u : VertexId) → HasVertex w u → IsSamePlace w v u
  pub edge : (e : Edge) → Contains (skeleton_of w).edges e → Contains (skeleton_of v).edges e ⊎ IsDivided v e
  pub dart : (d : DartId) → HasDart v d → IsSameWay v w d ⊎ ¬ Contains (skeleton_of w).edges (edge_in v d)

-- no step, and steps one after the other: an edge that is gone doesn't come again, since no vertex was inside it
shrunk_same : (v : View) → IsShrunk v v
shrunk_same v = record { vertex = λ u o. record { has = o; point = refl }; edge = λ e m. inl m; dart = λ d o. inl (unchanged_way v d o) }

divided_before : (v g : View) (e : Edge) → IsShrunk v g → IsDivided g e → IsDivided v e
divided_before v g e a x = let y = a.vertex x.vertex x.has in record { vertex = x.vertex; has = y.has; within = subst (λ z. inside e z ≡ true) (sym y.point) x.within }

shrunk_on : (v g w : View) → IsGraphSound v → IsShrunk v g → IsShrunk g w → IsShrunk v w
shrunk_on v g w s a b = record {
  vertex = λ u o. let x = b.vertex u o in let y = a.vertex u x.has in record { has = y.has; point = y.point ∙ x.point };
  edge = λ e m. elim (b.edge e m) [ inl x ↦ a.edge e x | inr x ↦ inr (divided_before v g e a x) ];
  dart = λ d o. elim (a.dart d o) [
    | inl x ↦ elim (b.dart d x.after) [ inl y ↦ inl (way_on v g w d x y) | inr y ↦ inr (λ m. y (subst (Contains (skeleton_of w).edges) (sym (way_edge v g d x)) m)) ]
    | inr x ↦ inr (λ m. elim (b.edge (edge_in v d) m) [ inl y ↦ x y | inr y ↦ not_divided v (edge_in v d) s (edge_known v d o) (divided_before v g (edge_in v d) a y) ])
  ];
}

-- ---- each step
-- where every dart of the new view goes the same way in the old one, the old view has its edges
same_edges : (v g : View) → ((d : DartId) → HasDart g d → IsSameWay g v d) → (e : Edge) → Contains (skeleton_of g).edges e → Contains (skeleton_of v).edges e
same_edges v g ways e m =
    let d = known_edge g e m in
    let x = ways d.0 d.1 in
    subst (Contains (skeleton_of v).edges) (way_edge g v d.0 x ∙ sym d.2) (edge_known v d.0 x.after)

vertex_removed : (v : View) (w : VertexId) → IsGraphSound v → IsBare v w → IsShrunk v (without_vertex v w)
vertex_removed v w s bare =
    let g = without_vertex v w in
    let k : IsVertexLess v g w = vertex_is_removed v w s.named in
    let ways = same_way v g s.twinned k.darts (λ d o. (k.others (source_in v d) (λ q. bare d (o, q))).point) in
    record {
      vertex = λ u o. let x = k.others u (λ q. k.gone (subst (HasVertex g) q o)) in record { has = x.had o; point = sym x.point };
      edge = λ e m. inl (same_edges v g (λ d o. turned_way v g d (ways d ((k.darts d).had o))) e m);
      dart = λ d o. inl (ways d o);
    }

pin_changed : (v : View) (w : VertexId) (b : Bool) → IsGraphSound v → IsShrunk v (with_pin v w b)
pin_changed v w b s =
    let g = with_pin v w b in
    let k : IsPinSet v g w b = pin_is_set v w b in
    record {
      vertex = λ u o. record { has = k.had u o; point = sym (k.point u) };
      edge = λ e m. inl (same_edges v g (λ d o. turned_way v g d (pin_way v w b s.twinned d ((k.darts d).had o))) e m);
      dart = λ d o. inl (pin_way v w b s.twinned d o);
    }

all_removed : (v : View) → IsShrunk v no_rows
all_removed v =
    let none = λ (e : Edge) (m : Contains (skeleton_of no_rows).edges e). let d = known_edge no_rows e m in nothing_is_there.1 d.0 d.1 in
    record {
      vertex = λ u o. absurd (nothing_is_there.0 u o);
      edge = λ e m. absurd (none e m);
      dart = λ d o. inr (none (edge_in v d));
    }

edge_removed : (v : View) (d : DartId) → IsGraphSound v → HasDart v d → IsShrunk v (remove_edge v d (twin_in v d))
edge_removed v d s has =
    let t = twin_in v d in
    let g = remove_edge v d t in
    let u = source_in v d in
    let w = target_in v d in
    let l = line_in v d in
    let k : IsEdgeMore g v d t u w l = fewer v d s has in
    let drawn : IsDrawnLess v g (edge_in v d) = drawn_less v d s has in
    let gone = λ (e : Edge) (q : e ≡ edge_in v d) (m : Contains (skeleton_of g).edges e). ((drawn.edges e).0 m).1 q in
    let twinned = twinned_down g v d t u w l k s.twinned in
    let back = λ (x : DartId) (o : HasDart g x). turned_way g v x (record { before = o; after = up g v d t u w l k x o; start = start_old g v d t u w l k x o; end = end_old g v d t u w l k twinned x o }) in
    record {
      vertex = λ x o. record { has = vertex_up g v d t u w l k x o; point = point_same g v d t u w l k x };
      edge = λ e m. inl ((drawn.edges e).0 m).0;
      dart = λ x o. elim (cases_dart x d) [
        | inl q ↦ inr (gone (edge_in v x) (ap (edge_in v) q))
        | inr nd ↦ elim (cases_dart x t) [
          | inl q ↦ inr (gone (edge_in v x) (ap (edge_in v) q ∙ ap (λ z. z.edge) (twin_dart v s d has)))
          | inr nt ↦ inl (back x ((k.others x nd nt).had o))
        ]
      ];
    }

-- ---- two edges in one
module _ (v : View) (w : VertexId) (d n : DartId) (s : IsGraphSound v) (c : FitsMerge v w d n) where
  abbrev g : View
  g = merge_edge v w d n

  abbrev t : DartId
  t = twin_in v d

  abbrev m : DartId
  m = twin_in v n

  abbrev A : Point
  A = point_in v (source_in v d)

  abbrev P : Point
  P = point_in v w

  abbrev B : Point
  B = point_in v (target_in v n)

  parts : IsPartedAt g v d t n m w P
  parts = joined v w d n s c

  i : IsHalved g v d t n m w
  i = parts.halved

  -- the joined edge has w inside, and so it wasn't there before
  divided : IsDivided v (edge_between A B)
  divided = record { vertex = w; has = i.w_has; within = subst (λ e. inside e P ≡ true) (sym (straight v w d n s c)) (between v w d n s c) }

  come : (e : Edge) → Contains (skeleton_of g).edges e → (Contains (skeleton_of v).edges e × (e ≢ edge_in v d) × (e ≢ edge_in v n)) ⊎ IsDivided v e
  come e k = elim (((merge_drawn v w d n s c).1 e).0 k) [ inl x ↦ inl x | inr q ↦ inr (subst (IsDivided v) (sym q) divided) ]

  gone : (x : DartId) → HasDart v x → (edge_in v x ≡ edge_in v d) ⊎ (edge_in v x ≡ edge_in v n) → ¬ Contains (skeleton_of g).edges (edge_in v x)
  gone x o which k =
      elim (come (edge_in v x) k) [
        | inl y ↦ elim which [ inl q ↦ y.1 q | inr q ↦ y.2 q ]
        | inr y ↦ not_divided v (edge_in v x) s (edge_known v x o) y
      ]

  twin_edge : (k x : DartId) → HasDart v k → x ≡ twin_in v k → edge_in v x ≡ edge_in v k
  twin_edge k x o q = ap (edge_in v) q ∙ ap (λ z. z.edge) (twin_dart v s k o)

  merged_dart : (x : DartId) → HasDart v x → IsSameWay v g x ⊎ ¬ Contains (skeleton_of g).edges (edge_in v x)
  merged_dart x o =
      elim (cases_dart x d) [
        | inl q ↦ inr (gone x o (inl (ap (edge_in v) q)))
        | inr nd ↦ elim (cases_dart x t) [
          | inl q ↦ inr (gone x o (inl (twin_edge d x c.first q)))
          | inr nt ↦ elim (cases_dart x n) [
            | inl q ↦ inr (gone x o (inr (ap (edge_in v) q)))
            | inr nn ↦ elim (cases_dart x m) [
              | inl q ↦ inr (gone x o (inr (twin_edge n x c.second q)))
              | inr nm ↦ inl (turned_way g v x (way g v d t n m w P parts x (i.had x o nn nm) nt nd))
            ]
          ]
        ]
      ]

  edges_merged : IsShrunk v g
  edges_merged = record {
    vertex = λ u o. record { has = i.vertex_has u o; point = i.vertex_point u o };
    edge = λ e k. elim (come e k) [ inl x ↦ inl x.0 | inr x ↦ inr x ];
    dart = merged_dart;
  }

-- ---- and all of them
shrunk_step : (v : View) (h : Curves) (c : Change) → IsGraphSound v → FitsChange v h c → Shrinks (step_of_change v c) → IsShrunk v (step v c)
shrunk_step v h (AddVertex w p a) s f g = absurd g
shrunk_step v h (RemoveVertex w) s f g = vertex_removed v w s f.1
shrunk_step v h (SplitEdge d w p n m) s f g = absurd g
shrunk_step v h (MergeEdge w d n) s f g = edges_merged v w d n s f.0
shrunk_step v h (AddEdge d m u w at_u at_w l c n) s f g = absurd g
shrunk_step v h (RemoveEdge d m n) s f g = subst (λ x. IsShrunk v (remove_edge v d x)) (sym f.1) (edge_removed v d s f.0.0)
shrunk_step v h (AddCurve d c) s f g = shrunk_same v
shrunk_step v h (RemoveCurve d c) s f g = shrunk_same v
shrunk_step v h (SetPin w) s f g = pin_changed v w true s
shrunk_step v h (ClearPin w) s f g = pin_changed v w false s
shrunk_step v h (Clear a) s f g = all_removed v

pub all_shrunk : (v : View) (h : Curves) (ss : List Step) (w : View) (k : Curves) → IsGraphSound v → AreCurvesOf v h → IsRunOfSteps v h ss w k → AllShrink ss → IsShrunk v w
all_shrunk v h [] w k s a m g = subst (IsShrunk v) (sym m.0) (shrunk_same v)
all_shrunk v h (x ∷ xs) w k s a m g =
    let c = m.0 in
    shrunk_on v (step v c) w s
    (shrunk_step v h c s m.1.fits (subst Shrinks (sym m.1.tells) g.0))
    (all_shrunk (step v c) (step_curves h c) xs w k m.1.sound (changes_are_steps v h c s a m.1.fits).curves m.2 g.1)
