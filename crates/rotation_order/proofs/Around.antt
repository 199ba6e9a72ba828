-- The darts out of a vertex of a sound view, by the directions in which they leave it.
use Rattle.std.proofs.Common.{◌≡◌, ◌≢◌, Bool, true, false, sym, ap, ◌∙◌, inl, inr}
use Rattle.std.specs.Prelude.{◌*ℤ◌, neg_ℤ, if◌then◌else◌}
use Rattle.integers.proofs.Signs.{mul_pos, neg_above, neg_below, more, more_right}
use Rattle.exact_plane.specs.Line.{Line, IsOn}
use Rattle.exact_plane.specs.Plane.{RunsForward}
use Rattle.exact_plane.specs.Point.{Point}
use Rattle.exact_plane.proofs.Directions.{square_nonneg}
use Rattle.plane_graphs.specs.Graph.{Edge}
use Rattle.plane_graphs.specs.Line.{precedes}
use Rattle.rotation_order.specs.RingOrder.{IsStrictOn}
use Rattle.rotation_order.specs.Ring.{Out}
use Rattle.slab_laws.specs.declared.names.DartId.{DartId}
use Rattle.slab_laws.specs.declared.names.VertexId.{VertexId}
use Rattle.slab_laws.specs.Rotation.{earlier, OutOf}
use Rattle.slab_laws.specs.Sound.{skeleton_of, edge_in, dart_in, IsGraphSound}
use Rattle.slab_laws.specs.View.{View, HasVertex, HasDart, IsOutOf, vertex_id, dart_id, point_in, source_in, target_in, line_in}
use Rattle.rotation_order.specs.Directions.{direction_before, dart_direction, IsAlong}
use Rattle.rotation_order.proofs.ClockwiseEdges.{by_directions}
use Rattle.rotation_order.specs.VertexRings.{turns_in, RingOf}
use Rattle.sound_views.proofs.NamedDarts.{edge_known}
use Rattle.rotation_order.proofs.RingNames.{out_of}
use Rattle.rotation_order.proofs.RingTurned.{strict_at}
use Rattle.rotation_order.proofs.SoundRings.{sound_views_have_rings}
use Rattle.rotation_order.specs.Place.{direction_in, sooner_way}
use Rattle.arr_notes.specs.AfterAround.{after_in}
use Rattle.rotation_order.proofs.Turning.{soon}
use Rattle.rotation_order.proofs.LineDirections.{IsWay, square_up}

-- ---- a line goes some way

line_way : (l : Line) (f : Bool) → RunsForward l.a l.b → IsWay (dart_direction l f)
line_way l true (inl h) = more (l.b *ℤ l.b) (neg_ℤ l.a *ℤ neg_ℤ l.a) (mul_pos h h) (square_nonneg (neg_ℤ l.a))
line_way l true (inr h) = let k = neg_above l.a h.1 in more_right (l.b *ℤ l.b) (neg_ℤ l.a *ℤ neg_ℤ l.a) (square_nonneg l.b) (mul_pos k k)
line_way l false (inl h) = more (neg_ℤ l.b *ℤ neg_ℤ l.b) (neg_ℤ (neg_ℤ l.a) *ℤ neg_ℤ (neg_ℤ l.a)) (square_up (neg_ℤ l.b) (neg_below l.b h)) (square_nonneg (neg_ℤ (neg_ℤ l.a)))
line_way l false (inr h) = more_right (neg_ℤ l.b *ℤ neg_ℤ l.b) (neg_ℤ (neg_ℤ l.a) *ℤ neg_ℤ (neg_ℤ l.a)) (square_nonneg (neg_ℤ l.b)) (square_up (neg_ℤ (neg_ℤ l.a)) (neg_below (neg_ℤ l.a) (neg_above l.a h.1)))

-- ---- an edge lies on a line that holds its ends
abbrev pub edge_by : Bool → Point → Point → Edge
edge_by b p q = if b then record { low = p; high = q } else record { low = q; high = p }

pub ends_on : (l : Line) (b : Bool) (p q : Point) → IsOn l p → IsOn l q → IsOn l (edge_by b p q).low × IsOn l (edge_by b p q).high
ends_on l true p q x y = (x, y)
ends_on l false p q x y = (y, x)

module _ (v : View) (s : IsGraphSound v) where
  pub some_way : (d : DartId) → HasDart v d → IsWay (direction_in v d)
  some_way d has = let p = s.drawn.line d has in line_way (line_in v d) (dart_in v d).forward p.runs

  pub along_line : (d : DartId) → HasDart v d → IsAlong (dart_in v d) (line_in v d)
  along_line d has =
      let E = edge_known v d has in
      let p = point_in v (source_in v d) in
      let q = point_in v (target_in v d) in
      let on = ends_on (line_in v d) (precedes p q) p q (s.drawn.starts d has) (s.drawn.ends d has) in
      let W = s.plane.proper_edge (edge_in v d) E in
      record {
        edge = record { low_weight = W.0; high_weight = W.1; forward = s.plane.forward (edge_in v d) E; upright = s.plane.upright (edge_in v d) E };
        line = s.drawn.line d has;
        low_on = on.0;
        high_on = on.1;
      }

  module _ (w : VertexId) (known : HasVertex v w) where
    ring : RingOf v w
    ring = sound_views_have_rings v w s known

    by_name : (d : DartId) → IsOutOf v w d → Out (turns_in v) w.0 d.0
    by_name d o = (o.0, ap (λ u. u.0) o.1)

    in_graph : (d : DartId) → IsOutOf v w d → OutOf (skeleton_of v) (point_in v w) (dart_in v d)
    in_graph d o = out_of v s.twinned s.plane w d.0 (by_name d o)

    pub same_order : (c d : DartId) → IsOutOf v w c → IsOutOf v w d → earlier (dart_in v c) (dart_in v d) ≡ direction_before (direction_in v c) (direction_in v d)
    same_order c d oc od =
        let a = in_graph c oc in
        let b = in_graph d od in
        by_directions (dart_in v c) (dart_in v d) (line_in v c) (line_in v d) (along_line c oc.0) (along_line d od.0) (a.at ∙ sym b.at)

    followed : (d : DartId) → IsOutOf v w d → Out (turns_in v) w.0 (after_in v d).0
    followed d o = let f = ring.follows d.0 (by_name d o) in f.out

    -- the dart after leaves the vertex too
    pub after_out : (d : DartId) → IsOutOf v w d → IsOutOf v w (after_in v d)
    after_out d o = let f = followed d o in (f.0, ap vertex_id f.1)

    -- and is the first of all clockwise
    pub first_after : (d c : DartId) → IsOutOf v w d → IsOutOf v w c → c ≢ after_in v d → sooner_way (direction_in v d) (direction_in v (after_in v d)) (direction_in v c) ≡ true
    first_after d c od oc ne =
        let a = after_in v d in
        let oa = after_out d od in
        let f = ring.follows d.0 (by_name d od) in
        (λ i. soon (sym (same_order d a od oa) i) (sym (same_order d c od oc) i) (sym (same_order a c oa oc) i)) ∙ f.first c.0 (by_name c oc) (λ q. ne (ap dart_id q))

    -- two darts of which neither comes before the other are one
    pub one_dart : (c d : DartId) → IsOutOf v w c → IsOutOf v w d → direction_before (direction_in v c) (direction_in v d) ≡ false → direction_before (direction_in v d) (direction_in v c) ≡ false → c ≡ d
    one_dart c d oc od h k =
        let strict : IsStrictOn earlier (OutOf (skeleton_of v) (point_in v w)) = strict_at (skeleton_of v) (point_in v w) (dart_in v c) s.plane (in_graph c oc) in
        s.turned.differ c d oc.0 od.0 (strict.total (dart_in v c) (dart_in v d) (in_graph c oc) (in_graph d od) (same_order c d oc od ∙ h) (same_order d c od oc ∙ k))
