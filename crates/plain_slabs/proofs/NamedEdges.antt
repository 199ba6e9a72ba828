-- The forward darts of records are the edges that the records draw, in order and with their lines.
use Rattle.std.proofs.Common.{◌≡◌, sym, ap, ◌∙◌, subst, map}
use Rattle.std.specs.Prelude.{filter}
use Rattle.exact_plane.specs.Line.{IsOn}
use Rattle.exact_plane.specs.Span.{AreOnWay}
use Rattle.plane_graphs.specs.Graph.{Edge}
use Rattle.plane_graphs.proofs.Lists.{of_filter, map_map, filter_of_map, map_same}
use Rattle.plane_graphs.proofs.Order.{lt_out}
use Rattle.slab_laws.specs.SpansDrawn.{edge_of}
use Rattle.slab_laws.specs.Sound.{IsGraphSound, edge_in, skeleton_of}
use Rattle.slab_laws.specs.View.{View, point_in, source_in, target_in, line_in}
use Rattle.sound_views.specs.Orders.{dart_order}
use Rattle.sound_views.proofs.NamesOrdered.{edges_in_order}
use Rattle.sound_views.proofs.GraphDrawn.{between_forward}
use Rattle.arr_notes.specs.Curves.{is_forward}
use Rattle.record_orders.specs.declared.darts.DartKey.{DartKey}
use Rattle.record_orders.specs.Keys.{dart_key}
use Rattle.plain_slabs.specs.ByName.{goes_forward, forward_keys, span_along}
use Rattle.plain_slabs.proofs.ReadKeys.{IsForwardKey}
use Rattle.subdivision_rows.proofs.SpanLines.{IsAlongLine}

module _ (v : View) (k : DartKey) (s : IsGraphSound v) (f : IsForwardKey v k) where
  source_on : IsOn (line_in v k.name) k.source
  source_on = subst (λ (m : DartKey). IsOn (line_in v k.name) m.source) (sym f.key) (s.drawn.starts k.name f.has)

  target_on : IsOn (line_in v k.name) k.target
  target_on = subst (λ (m : DartKey). IsOn (line_in v k.name) m.target) (sym f.key) (s.drawn.ends k.name f.has)

  pub key_way : AreOnWay k.source k.target (line_in v k.name)
  key_way = record { ascending = (lt_out k.source k.target f.forward).is; lower_on = source_on; upper_on = target_on }

  pub key_line : IsAlongLine (span_along v k)
  key_line = record { is_line = s.drawn.line k.name f.has; lower_on = source_on; upper_on = target_on }

abbrev along : DartKey → Edge
along k = record { low = k.source; high = k.target }

pub spans_are : (v : View) → IsGraphSound v → map edge_of (map (span_along v) (forward_keys v)) ≡ (skeleton_of v).edges
spans_are v s =
    let ds = filter (is_forward v) (dart_order v) in
    map_map (span_along v) edge_of (forward_keys v)
    ∙ ap (map along) (filter_of_map (dart_key v) goes_forward (dart_order v))
    ∙ map_map (dart_key v) along ds
    ∙ map_same (λ d. along (dart_key v d)) (edge_in v) ds (λ d m. sym (between_forward (point_in v (source_in v d)) (point_in v (target_in v d)) (of_filter (is_forward v) d (dart_order v) m).1))
    ∙ edges_in_order v s
