-- Where a new edge leaves a vertex, by directions and by darts.
use Rattle.std.proofs.Common.{◌≡◌, ◌≢◌, true, ap, sym, ◌∙◌, subst}
use Rattle.exact_plane.specs.Direction.{Direction}
use Rattle.exact_plane.specs.Line.{Line, IsOn}
use Rattle.exact_plane.specs.Point.{Point}
use Rattle.plane_graphs.specs.Line.{IsProper, IsProperLine, precedes}
use Rattle.rotation_order.specs.RingOrder.{sooner_by}
use Rattle.slab_laws.specs.declared.names.DartId.{DartId}
use Rattle.slab_laws.specs.declared.names.VertexId.{VertexId}
use Rattle.slab_laws.specs.Darts.{Dart, source}
use Rattle.slab_laws.specs.Rotation.{earlier}
use Rattle.slab_laws.specs.Sound.{dart_in, IsGraphSound}
use Rattle.slab_laws.specs.View.{View, HasVertex, IsOutOf, point_in, source_in, target_in, line_in}
use Rattle.rotation_order.specs.Directions.{direction_before, dart_direction, IsAlong}
use Rattle.rotation_order.proofs.ClockwiseEdges.{by_directions, one_way}
use Rattle.arr_notes.specs.AfterAround.{after_in}
use Rattle.sound_views.proofs.NamedDarts.{source_by}
use Rattle.rotation_order.specs.declared.places.Place.{Place}
use Rattle.rotation_order.specs.declared.places.Place.TheVariants.{Between, Along, Bare}
use Rattle.rotation_order.specs.Place.{direction_in, sooner_way, IsPlaceOf}
use Rattle.rotation_order.proofs.Turning.{soon}
use Rattle.rotation_order.proofs.Around.{along_line, same_order, after_out}
use Rattle.sound_changes.specs.EdgePlaces.{dart_between}
use Rattle.edge_link.specs.EdgePlaces.{IsPlaceOfEdge}
use Rattle.edge_link.proofs.DartLines.{dart_along, forward_edge}

module _ (v : View) (s : IsGraphSound v) where
  source_at : (u : VertexId) (d : DartId) → IsOutOf v u d → source (dart_in v d) ≡ point_in v u
  source_at u d o = source_by (point_in v (source_in v d)) (point_in v (target_in v d)) ∙ ap (point_in v) o.1

  -- ---- towards a point
  module _ (u : VertexId) (q : Point) (l : Line) (start : HasVertex v u) (end : IsProper q) (apart : point_in v u ≢ q) (line : IsProperLine l) (through_start : IsOn l (point_in v u)) (through_end : IsOn l q) where
    abbrev new_dart : Dart
    new_dart = dart_between (point_in v u) q

    abbrev new_way : Direction
    new_way = dart_direction l new_dart.forward

    new_along : IsAlong new_dart l
    new_along = dart_along l (point_in v u) q (forward_edge (point_in v u) q (s.drawn.proper u start) end apart) line through_start through_end

    new_source : source new_dart ≡ point_in v u
    new_source = source_by (point_in v u) q

    -- the order of darts out of the vertex, the new one among them, is the order of their directions
    before_new : (d : DartId) → IsOutOf v u d → earlier (dart_in v d) new_dart ≡ direction_before (direction_in v d) new_way
    before_new d o = by_directions (dart_in v d) new_dart (line_in v d) l (along_line v s d o.0) new_along (source_at u d o ∙ sym new_source)

    new_before : (d : DartId) → IsOutOf v u d → earlier new_dart (dart_in v d) ≡ direction_before new_way (direction_in v d)
    new_before d o = by_directions new_dart (dart_in v d) l (line_in v d) new_along (along_line v s d o.0) (new_source ∙ sym (source_at u d o))

    comes_after : (a : DartId) → IsOutOf v u a → sooner_way (direction_in v a) new_way (direction_in v (after_in v a)) ≡ true → sooner_by earlier (dart_in v a) new_dart (dart_in v (after_in v a)) ≡ true
    comes_after a oa met =
        let n = after_in v a in
        let on = after_out v s u start a oa in
        (λ i. soon (before_new a oa i) (same_order v s u start a n oa on i) (new_before n on i)) ∙ met

    pub place_to_point : (p : Place) → IsPlaceOf v u new_way p → IsPlaceOfEdge v u l new_dart p
    place_to_point Bare h = h
    place_to_point (Between a b) h = (h.out, comes_after a h.out (subst (λ n. sooner_way (direction_in v a) new_way (direction_in v n) ≡ true) h.neighbours h.met))
    place_to_point (Along a) h =
        let on : IsOn (line_in v a) (point_in v u) = subst (λ z. IsOn (line_in v a) (point_in v z)) h.out.1 (s.drawn.starts a h.out.0) in
        let one = one_way (line_in v a) l (dart_in v a).forward new_dart.forward (point_in v u) (s.drawn.line a h.out.0) line (s.drawn.proper u start).positive on through_start h.way in
        record { out = h.out; line = one.0; way = one.1 }

  -- ---- to another vertex
  pub place_of_edge : (u w : VertexId) (l : Line) → HasVertex v u → HasVertex v w → u ≢ w → IsProperLine l → IsOn l (point_in v u) → IsOn l (point_in v w) → (p : Place) → IsPlaceOf v u (dart_direction l (precedes (point_in v u) (point_in v w))) p → IsPlaceOfEdge v u l (dart_between (point_in v u) (point_in v w)) p
  place_of_edge u w l start end two_ends line through_start through_end = place_to_point u (point_in v w) l start (s.drawn.proper w end) (λ q. two_ends (s.drawn.points u w start end q)) line through_start through_end
