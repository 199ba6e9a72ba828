-- A vertex without darts, by names and in the graph.
use Rattle.std.proofs.Common.{◌≡◌, Bool, true, false, ◌||◌, sym, ap, ◌∙◌, subst, ⊎_elim}
use Rattle.integers.proofs.Decisions.{or_out}
use Rattle.plane_graphs.proofs.Lists.{or_left, or_right}
use Rattle.exact_plane.specs.Point.{Point}
use Rattle.plane_graphs.specs.Graph.{Edge}
use Rattle.slab_laws.specs.declared.names.DartId.{DartId}
use Rattle.slab_laws.specs.declared.names.VertexId.{VertexId}
use Rattle.slab_laws.specs.Darts.{Dart, darts, start}
use Rattle.slab_laws.specs.Skeleton.{same_point}
use Rattle.slab_laws.specs.Subdivision.{has_dart}
use Rattle.slab_laws.specs.View.{View, HasVertex, IsOutOf, point_in, source_in, target_in}
use Rattle.slab_laws.specs.Sound.{skeleton_of, dart_in, IsGraphSound}
use Rattle.slab_faces.proofs.Member.{Member, member_in, in_member, none_passes, none_passing}
use Rattle.slab_faces.proofs.NextLemmas.{dart_in as dart_there}
use Rattle.slab_faces.proofs.Parity.{same_point_is, same_point_refl}
use Rattle.sound_views.specs.OrderLaws.{BareIsBare}
use Rattle.sound_views.proofs.NamedDarts.{source_by, edge_known, there}
use Rattle.integers.proofs.Tests.{not_true}

-- the point is an end of the edge
abbrev ends_at : Point → Edge → Bool
ends_at p e = same_point e.low p || same_point e.high p

starts_there : (e : Edge) (f : Bool) (p : Point) → start e f ≡ p → ends_at p e ≡ true
starts_there e true p q = or_left (same_point e.low p) (same_point e.high p) (subst (λ r. same_point e.low r ≡ true) q (same_point_refl e.low))
starts_there e false p q = or_right (same_point e.low p) (same_point e.high p) (subst (λ r. same_point e.high r ≡ true) q (same_point_refl e.high))

module _ (v : View) (s : IsGraphSound v) (w : VertexId) where
  none_leaves : has_dart (skeleton_of v) (point_in v w) ≡ false → (d : DartId) → IsOutOf v w d → ⊥
  unfolding has_dart
  none_leaves h d out =
      let p = point_in v (source_in v d) in
      let at : start (dart_in v d).edge (dart_in v d).forward ≡ point_in v w = source_by p (point_in v (target_in v d)) ∙ ap (point_in v) out.1 in
      let m : Member (skeleton_of v).edges (dart_in v d).edge = in_member (skeleton_of v).edges (dart_in v d).edge (edge_known v d out.0) in
      let a = none_passes (ends_at (point_in v w)) (skeleton_of v).edges h (dart_in v d).edge m in
      let b = starts_there (dart_in v d).edge (dart_in v d).forward (point_in v w) at in
      cc

  -- an edge that begins or ends at the vertex has a dart that leaves it
  leaves : HasVertex v w → (e : Edge) (f : Bool) → Member (skeleton_of v).edges e → start e f ≡ point_in v w → (d : DartId) × IsOutOf v w d
  leaves has e f m at =
      let h : Dart = record { edge = e; forward = f } in
      let d = there v s h (member_in (darts (skeleton_of v)) h (dart_there (skeleton_of v) e f (member_in (skeleton_of v).edges e m))) in
      let p = point_in v (source_in v d.0) in
      let q : p ≡ point_in v w = sym (source_by p (point_in v (target_in v d.0))) ∙ ap (λ k. start k.edge k.forward) d.2 ∙ at in
      (d.0, (d.1, s.drawn.points (source_in v d.0) w (s.linked.source d.0 d.1) has q))

  none_ends : HasVertex v w → ((d : DartId) → IsOutOf v w d → ⊥) → has_dart (skeleton_of v) (point_in v w) ≡ false
  unfolding has_dart
  none_ends has f =
      none_passing (ends_at (point_in v w)) (skeleton_of v).edges (λ e m.
      not_true (ends_at (point_in v w) e) (λ k.
      ⊎_elim (λ a. let d = leaves has e true m (same_point_is e.low (point_in v w) a) in f d.0 d.1)
      (λ b. let d = leaves has e false m (same_point_is e.high (point_in v w) b) in f d.0 d.1)
      (or_out (same_point e.low (point_in v w)) (same_point e.high (point_in v w)) k)))

pub bare_is_bare : BareIsBare
bare_is_bare v w s has = (λ h d out. none_leaves v s w h d out, λ f. none_ends v s w has f)
