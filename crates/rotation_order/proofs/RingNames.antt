-- The names of a view that draws a plane graph, and the darts that they name.
use Rattle.std.proofs.Common.{◌≡◌, ℕ, Bool, true, false, not, refl, sym, ap, ◌∙◌, subst}
use Rattle.std.specs.List.{Contains}
use Rattle.plane_graphs.specs.Graph.{Edge}
use Rattle.rotation_order.specs.Ring.{Out}
use Rattle.slab_laws.specs.declared.names.DartId.{DartId}
use Rattle.slab_laws.specs.declared.names.VertexId.{VertexId}
use Rattle.slab_laws.specs.Darts.{Dart, start}
use Rattle.slab_laws.specs.Rotation.{twin, OutOf}
use Rattle.slab_laws.specs.Skeleton.{Skeleton, left_of, lower_than, IsPlaneSkeleton}
use Rattle.slab_laws.specs.Sound.{skeleton_of, edge_in, dart_in, IsTwinned, IsDrawn}
use Rattle.slab_laws.specs.View.{View, HasVertex, HasDart, vertex_id, dart_id, point_in, source_in, twin_in, target_in}
use Rattle.sound_views.proofs.NamedDarts.{source_by, target_by, edge_known, twin_drawn, named_along}
use Rattle.rotation_order.specs.VertexRings.{turns_in}
use Rattle.slab_faces.proofs.DartOrder.{lower_both}

-- an edge whose two ends, taken either way round, are one point has one end
pub ends_meet : (e : Edge) (f : Bool) → start e f ≡ start e (not f) → e.low ≡ e.high
ends_meet e true q = q
ends_meet e false q = sym q

-- an edge of a plane graph has two ends
pub edge_has_two_ends : (g : Skeleton) → IsPlaneSkeleton g → (e : Edge) → Contains g.edges e → e.low ≡ e.high → ⊥
edge_has_two_ends g plane e E q =
    let here : left_of e.low e.low ≡ false = subst (λ z. left_of z e.low ≡ false) (sym q) (plane.forward e E) in
    let there : left_of e.low e.high ≡ false = subst (λ z. left_of e.low z ≡ false) q here in
    let back : left_of e.high e.low ≡ false = plane.forward e E in
    let up : lower_than e.low e.high ≡ true = plane.upright e E (rw (there, back) refl) in
    lower_both e.low e.high up (subst (λ z. lower_than z e.low ≡ true) q (subst (λ z. lower_than e.low z ≡ true) (sym q) up))

module _ (v : View) (twinned : IsTwinned v) (plane : IsPlaneSkeleton (skeleton_of v)) where
  ends_differ : (d : DartId) → HasDart v d → point_in v (source_in v d) ≡ point_in v (target_in v d) → ⊥
  ends_differ d has q =
      let a = point_in v (source_in v d) in
      let b = point_in v (target_in v d) in
      edge_has_two_ends (skeleton_of v) plane (edge_in v d) (edge_known v d has) (ends_meet (edge_in v d) (dart_in v d).forward (source_by a b ∙ q ∙ sym (target_by a b)))

  pub twin_dart : (d : DartId) → HasDart v d → dart_in v (twin_in v d) ≡ twin (dart_in v d)
  twin_dart = twin_drawn v twinned ends_differ

  -- ---- the darts named out of a vertex are the graph's darts out of its point
  pub out_of : (w : VertexId) (n : ℕ) → Out (turns_in v) w.0 n → OutOf (skeleton_of v) (point_in v w) (dart_in v (dart_id n))
  out_of w n o = record {
    in' = edge_known v (dart_id n) o.0;
    at = source_by (point_in v (source_in v (dart_id n))) (point_in v (target_in v (dart_id n))) ∙ ap (λ m. point_in v (vertex_id m)) o.1;
  }

  pub named_out : IsDrawn v → ((d : DartId) → HasDart v d → HasVertex v (source_in v d)) → (w : VertexId) → HasVertex v w → (h : Dart) → OutOf (skeleton_of v) (point_in v w) h → (n : ℕ) × Out (turns_in v) w.0 n × (dart_in v (dart_id n) ≡ h)
  named_out drawn sourced w has h o =
      let d = named_along v twinned ends_differ h o.in' in
      let p = point_in v (source_in v d.0) in
      let q : p ≡ point_in v w = sym (source_by p (point_in v (target_in v d.0))) ∙ ap (λ k. start k.edge k.forward) d.2 ∙ o.at in
      (d.0.0, (d.1, ap (λ u. u.0) (drawn.points (source_in v d.0) w (sourced d.0 d.1) has q)), d.2)
