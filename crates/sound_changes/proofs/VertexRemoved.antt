-- One vertex fewer.
use Rattle.std.proofs.Common.{◌≡◌, Bool, true, false, List, sym, ap, ap₂, ◌∙◌, subst}
use Rattle.std.specs.Prelude.{if◌then◌else◌}
use Rattle.std.specs.List.{Contains}
use Rattle.exact_plane.specs.Point.{Point}
use Rattle.exact_plane.specs.PointOrder.{point_cmp}
use Rattle.exact_plane.specs.PointOrderLaws.{point_cmp_total}
use Rattle.plane_graphs.specs.Ascending.{IsAscending, ascending}
use Rattle.plane_graphs.specs.Graph.{Edge, edge_cmp}
use Rattle.plane_graphs.specs.Line.{IsProper, precedes}
use Rattle.plane_graphs.proofs.Ascending.{IsAscending-ascending, to_member}
use Rattle.plane_graphs.proofs.Lists.{in_map, map_same}
use Rattle.slab_laws.specs.declared.names.DartId.{DartId}
use Rattle.slab_laws.specs.declared.names.VertexId.{VertexId}
use Rattle.slab_laws.specs.Skeleton.{Skeleton, IsPlaneSkeleton, same_point}
use Rattle.slab_laws.specs.Sound.{skeleton_of, points_of, edge_in, edge_between, IsNamed, IsGraphSound}
use Rattle.slab_laws.specs.View.{View, HasVertex, HasDart, dart_id, point_in, source_in, target_in, twin_in}
use Rattle.slab_faces.proofs.PlaneGraphs.{once}
use Rattle.slab_faces.proofs.Parity.{same_point_is, same_point_refl}
use Rattle.sound_views.proofs.NameTables.{name_has}
use Rattle.arr_notes.specs.Reads.{IsSameVertex}
use Rattle.arr_notes.specs.ViewChanges.{without_vertex}
use Rattle.arr_notes.proofs.PairReads.{names_stay}
use Rattle.arr_notes.proofs.VertexReads.{vertex_is_removed}
use Rattle.rotation_order.specs.VertexRings.{IsBare}
use Rattle.sound_changes.specs.SplitLaws.{VertexFewerKeepsViewsSound}
use Rattle.sound_changes.proofs.AlikeViews.{alike_sound}
use Rattle.sound_changes.proofs.KnownNames.{point_known, known_point, known_edge}

-- ---- fewer vertices of a plane graph, with all ends of edges among them
plane_fewer : (g : Skeleton) (ps : List Point) → IsPlaneSkeleton g → IsAscending point_cmp ps → ((q : Point) → Contains ps q → Contains g.vertices q) → ((e : Edge) → Contains g.edges e → Contains ps e.low × Contains ps e.high) → IsPlaneSkeleton (record { vertices = ps; edges = g.edges })
plane_fewer g ps pl up old ends = record {
  proper = λ q c. pl.proper q (old q c);
  lower_in = λ e c. (ends e c).0;
  upper_in = λ e c. (ends e c).1;
  lower_once = λ e c. once point_cmp point_cmp_total (λ v. same_point e.low v) e.low ps up (to_member ps e.low (ends e c).0) (same_point_refl e.low) (λ z k. sym (same_point_is e.low z k));
  upper_once = λ e c. once point_cmp point_cmp_total (λ v. same_point e.high v) e.high ps up (to_member ps e.high (ends e c).1) (same_point_refl e.high) (λ z k. sym (same_point_is e.high z k));
  proper_edge = pl.proper_edge;
  forward = pl.forward;
  upright = pl.upright;
  edge_once = pl.edge_once;
  distinct = λ q x c k. pl.distinct q x (old q c) (old x k);
  clear = λ e q c k. pl.clear e q c (old q k);
  uncrossed = pl.uncrossed;
}

-- what holds of two points holds of the ends of their edge
pub both_ends : (P : Point → Type 0) (b : Bool) (p q : Point) → P p → P q → (e : Edge) → e ≡ (if b then record { low = p; high = q } else record { low = q; high = p }) → P e.low × P e.high
both_ends P true p q x y e k = (subst P (ap (λ z. z.low) (sym k)) x, subst P (ap (λ z. z.high) (sym k)) y)
both_ends P false p q x y e k = (subst P (ap (λ z. z.low) (sym k)) y, subst P (ap (λ z. z.high) (sym k)) x)

module _ (v : View) (w : VertexId) (s : IsGraphSound v) (bare : IsBare v w) where
  abbrev h : View
  h = without_vertex v w

  named : IsNamed h
  named = (names_stay v s.named).vertex_less w

  left : (u : VertexId) → HasVertex h u → IsSameVertex v h u
  left u hu = (vertex_is_removed v w s.named).others u (λ q. (vertex_is_removed v w s.named).gone (subst (HasVertex h) q hu))

  at_source : (d : DartId) → HasDart v d → IsSameVertex v h (source_in v d)
  at_source d has = (vertex_is_removed v w s.named).others (source_in v d) (λ q. bare d (has, q))

  at_target : (d : DartId) → HasDart v d → IsSameVertex v h (target_in v d)
  at_target d has = at_source (twin_in v d) (s.twinned.has d has)

  edge_same : (d : DartId) → HasDart v d → edge_in h d ≡ edge_in v d
  edge_same d has = ap₂ edge_between (at_source d has).point (at_target d has).point

  edges_same : (skeleton_of h).edges ≡ (skeleton_of v).edges
  edges_same =
      ap (ascending edge_cmp) (map_same (λ r. edge_in h (dart_id r.0)) (λ r. edge_in v (dart_id r.0)) v.darts (λ r m. edge_same (dart_id r.0) (name_has v.darts r.0 (in_map (λ r. r.0) r v.darts m))))

  source_known : (d : DartId) → HasDart v d → Contains (points_of h) (point_in v (source_in v d))
  source_known d has = subst (Contains (points_of h)) (at_source d has).point (point_known h named (source_in v d) ((at_source d has).has (s.linked.source d has)))

  old_point : (q : Point) → Contains (points_of h) q → Contains (points_of v) q
  old_point q c =
      let r = known_point h named q c in
      subst (Contains (points_of v)) (sym (r.2 ∙ (left r.0 r.1).point)) (point_known v s.named r.0 ((left r.0 r.1).had r.1))

  ends_known : (e : Edge) → Contains (skeleton_of v).edges e → Contains (points_of h) e.low × Contains (points_of h) e.high
  ends_known e c =
      let r = known_edge v e c in
      both_ends (Contains (points_of h)) (precedes (point_in v (source_in v r.0)) (point_in v (target_in v r.0))) (point_in v (source_in v r.0)) (point_in v (target_in v r.0)) (source_known r.0 r.1) (source_known (twin_in v r.0) (s.twinned.has r.0 r.1)) e r.2

  plane : IsPlaneSkeleton (skeleton_of h)
  plane =
      subst (λ es. IsPlaneSkeleton (record { vertices = points_of h; edges = es })) (sym edges_same)
      (plane_fewer (skeleton_of v) (points_of h) s.plane (IsAscending-ascending point_cmp point_cmp_total _) old_point ends_known)

  fewer : IsGraphSound h
  fewer = alike_sound v h s (record {
    named = named;
    darts = (vertex_is_removed v w s.named).darts;
    there = λ d has. (at_source d has).has (s.linked.source d has);
    at = λ d has. (at_source d has).point;
    proper = λ u hu. subst IsProper (sym (left u hu).point) (s.drawn.proper u ((left u hu).had hu));
    points = λ u x hu hx q. s.drawn.points u x ((left u hu).had hu) ((left x hx).had hx) (sym (left u hu).point ∙ q ∙ (left x hx).point);
    plane = plane;
  })

pub vertex_fewer : VertexFewerKeepsViewsSound
vertex_fewer v w s bare = fewer v w s bare
