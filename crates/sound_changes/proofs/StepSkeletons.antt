-- The vertices and edges of the graph that records draw are those of the records' own drawing, where each dart has a twin that goes back.
use Rattle.std.proofs.Common.{◌≡◌, ◌≢◌, List, [], ◌∷◌, Bool, true, false, not, refl, sym, ap, ap₂, ◌∙◌, subst, inl, inr}
use Rattle.std.proofs.lemmas.Bool.{cases_Bool, false≢true}
use Rattle.exact_plane.specs.Point.{Point}
use Rattle.plane_graphs.specs.Ascending.{Member}
use Rattle.plane_graphs.specs.Graph.{Edge, edge_cmp, edge_of, edges}
use Rattle.plane_graphs.specs.Line.{precedes}
use Rattle.plane_graphs.specs.Plane.{IsPlane}
use Rattle.plane_graphs.proofs.Ascending.{ascending_unique, IsAscending-ascending, to_member, from_member}
use Rattle.plane_graphs.proofs.Meaning.{edge_cmp_total, edges_ascend, edge_out, edge_in as edge_there}
use Rattle.slab_laws.specs.declared.names.DartId.{DartId}
use Rattle.slab_laws.specs.Skeleton.{IsPlaneSkeleton}
use Rattle.slab_laws.specs.Sound.{skeleton_of, points_of, edge_in, edge_between, IsNamed, IsGraphSound}
use Rattle.slab_laws.specs.Text.{skeleton}
use Rattle.slab_laws.specs.View.{View, HasDart, point_in, source_in, twin_in, target_in}
use Rattle.slab_faces.proofs.PlaneGraphs.{counts}
use Rattle.sound_views.proofs.NamedDarts.{row_edges, twin_dart, twin_by}
use Rattle.sound_changes.proofs.KnownNames.{edge_known, known_edge}
use Rattle.arr_notes.specs.Curves.{Curves, AreCurvesOf, is_forward}
use Rattle.arr_notes.specs.RecordGraph.{drawn_graph}
use Rattle.sound_views.proofs.GraphDrawn.{between_forward}
use Rattle.sound_changes.proofs.StepHolds.{mark_held, held_mark}

-- names ascend, each dart has a twin, of which it is the twin, and its ends are two points
pub record IsPaired (v : View) : Type 0 where
  pub named : IsNamed v
  pub has : (d : DartId) → HasDart v d → HasDart v (twin_in v d)
  pub back : (d : DartId) → HasDart v d → twin_in v (twin_in v d) ≡ d
  pub apart : (d : DartId) → HasDart v d → point_in v (source_in v d) ≢ point_in v (target_in v d)

not_both : (b : Bool) → b ≢ not b
not_both true q = false≢true (sym q)
not_both false q = false≢true q

pub ends_apart : (v : View) (d : DartId) → IsGraphSound v → HasDart v d → point_in v (source_in v d) ≢ point_in v (target_in v d)
ends_apart v d s has q =
    let back = ap (λ z. point_in v (source_in v z)) (s.twinned.back d has) in
    not_both (is_forward v d) (ap₂ precedes q (sym q) ∙ sym (ap (precedes (point_in v (target_in v d))) back) ∙ ap (λ x. x.forward) (twin_dart v s d has))

module _ (v : View) (h : Curves) (paired : IsPaired v) (a : AreCurvesOf v h) where
  -- the edge of a forward dart is in the graph: some curve runs along it
  forward_edge : (d : DartId) → HasDart v d → is_forward v d ≡ true → (cs : List _) → h d ≡ cs → Member (edge_in v d) (edges (drawn_graph v h))
  forward_edge d has e [] q = absurd (a.some d (has, e) q)
  forward_edge d has e (c ∷ cs) q =
      let p = point_in v (source_in v d) in
      let r = point_in v (target_in v d) in
      subst (λ x. Member x (edges (drawn_graph v h))) (sym (between_forward p r e))
      (edge_there (drawn_graph v h) (record { low = p; high = r; curve = c }) (mark_held v paired.named h (record { low = p; high = r; curve = c }) d (record { forward = (has, e); low = refl; high = refl; curve = subst (Member c) (sym q) (inl refl) })))

  edge_back : (d : DartId) → HasDart v d → edge_in v (twin_in v d) ≡ edge_in v d
  edge_back d has =
      let p = point_in v (source_in v d) in
      let r = point_in v (target_in v d) in
      ap (λ z. edge_between r (point_in v (source_in v z))) (paired.back d has) ∙ ap (λ x. x.edge) (twin_by p r (paired.apart d has))

  some_edge : (d : DartId) → HasDart v d → Member (edge_in v d) (edges (drawn_graph v h))
  some_edge d has =
      elim (cases_Bool (is_forward v d)) [
        | inl e ↦ forward_edge d has e (h d) refl
        | inr e ↦
            let p = point_in v (source_in v d) in
            let r = point_in v (target_in v d) in
            let t = twin_in v d in
            let f : is_forward v t ≡ true = ap (λ z. precedes r (point_in v (source_in v z))) (paired.back d has) ∙ ap (λ x. x.forward) (twin_by p r (paired.apart d has)) ∙ ap not e in
            subst (λ x. Member x (edges (drawn_graph v h))) (edge_back d has) (forward_edge t (paired.has d has) f (h t) refl)
      ]

  from : (e : Edge) → Member e (skeleton_of v).edges → Member e (edges (drawn_graph v h))
  from e m = let r = known_edge v e (from_member (skeleton_of v).edges e m) in subst (λ x. Member x (edges (drawn_graph v h))) (sym r.2) (some_edge r.0 r.1)

  into : (e : Edge) → Member e (edges (drawn_graph v h)) → Member e (skeleton_of v).edges
  into e m =
      let r = edge_out (drawn_graph v h) e m in
      let k = held_mark v paired.named h r.0 r.1 in
      let f = k.1 in
      let q : edge_in v k.0 ≡ edge_of r.0 = between_forward _ _ f.forward.1 ∙ (λ i. record { low = f.low i; high = f.high i }) in
      subst (λ x. Member x (skeleton_of v).edges) (q ∙ sym r.2) (to_member (skeleton_of v).edges (edge_in v k.0) (edge_known v k.0 f.forward.0))

  points_same : (drawn_graph v h).points ≡ points_of v
  unfolding drawn_graph
  points_same = refl

  pub drawn_skeleton : skeleton (drawn_graph v h) ≡ skeleton_of v
  drawn_skeleton = ap₂ (λ (ps : List Point) (es : List Edge). record { vertices = ps; edges = es }) points_same
      (ascending_unique edge_cmp edge_cmp_total (edges (drawn_graph v h)) (skeleton_of v).edges (edges_ascend (drawn_graph v h)) (IsAscending-ascending edge_cmp edge_cmp_total (row_edges v)) into from)

  pub plane_skeleton : IsPlane (drawn_graph v h) → IsPlaneSkeleton (skeleton_of v)
  plane_skeleton pl = subst IsPlaneSkeleton drawn_skeleton (counts (drawn_graph v h) pl)
