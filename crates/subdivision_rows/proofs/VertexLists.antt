-- What the lists of vertices say of a name that has a record, and which dart goes out of one.
use Rattle.std.proofs.Common.{◌≡◌, ◌<◌, Bool, sym, ap, subst, ◌∙◌, map, length, get_or}
use Rattle.std.specs.List.{list_any}
use Rattle.std.specs.Option.{option_map}
use Rattle.std.proofs.lemmas.Option.{get_or_from_slice_get, slice_get_within, slice_get-map}
use Rattle.exact_plane.specs.Point.{Point}
use Rattle.slab_laws.specs.Skeleton.{same_point}
use Rattle.slab_laws.specs.declared.names.VertexId.{VertexId}
use Rattle.slab_laws.specs.View.{HasVertex, point_in, pinned_in, pin_or}
use Rattle.subdivision_rows.specs.Listed.{Drawing, vertex_record, view_of}
use Rattle.sound_views.proofs.ListedRows.{numbered_row}
use Rattle.subdivision_rows.proofs.ListedRecords.{IsVertex, vertex_of, point_of}
use Rattle.subdivision_rows.specs.declared.lists.RowLists.{RowLists}
use Rattle.subdivision_rows.specs.RowsInMemory.{drawing_of, AreSoundRows}
use Rattle.subdivision_rows.proofs.Items.{within, item_is}

pub pin_of : (d : Drawing) (w : VertexId) (p : Point) → IsVertex d w p → pinned_in (view_of d) w ≡ list_any (same_point p) d.graph.pins
unfolding view_of
pin_of d w p i = ap pin_or (numbered_row (map (vertex_record d) d.graph.points) w.0 ∙ slice_get-map (vertex_record d) d.graph.points w.0 ∙ ap (option_map (vertex_record d)) i)

module _ (a : RowLists) (k : AreSoundRows a) where
  abbrev D : Drawing
  D = drawing_of a

  vertex_below : (w : VertexId) → HasVertex (view_of D) w → w.0 < length a.points.items
  vertex_below w H = let x = vertex_of D w H in slice_get_within a.points.items w.0 x.0 x.1

  pin_below : (w : VertexId) → HasVertex (view_of D) w → w.0 < length a.pinned.items
  pin_below w H = let x = vertex_of D w H in within (λ p. list_any (same_point p) a.pins.items) a.points.items a.pinned.items k.pinned w.0 x.0 x.1

  point_there : (w : VertexId) (p : Point) → HasVertex (view_of D) w → p ≡ get_or a.points.items w.0 p → p ≡ point_in (view_of D) w
  point_there w p H e = let x = vertex_of D w H in e ∙ get_or_from_slice_get a.points.items w.0 x.0 p x.1 ∙ sym (point_of D w x.0 x.1)

  pin_there : (w : VertexId) (b c : Bool) → HasVertex (view_of D) w → b ≡ get_or a.pinned.items w.0 c → b ≡ pinned_in (view_of D) w
  pin_there w b c H e = let x = vertex_of D w H in item_is (λ p. list_any (same_point p) a.pins.items) a.points.items a.pinned.items k.pinned w.0 x.0 x.1 b c e ∙ sym (pin_of D w x.0 x.1)

-- ---- the same of the value that is seen
module _ (a : RowLists) (d : Drawing) (k : AreSoundRows a) (is : drawing_of a ≡ d) where
  before : (w : VertexId) → HasVertex (view_of d) w → HasVertex (view_of (drawing_of a)) w
  before w H = subst (λ (d : Drawing). HasVertex (view_of d) w) (sym is) H

  pub vertex_within : (w : VertexId) → HasVertex (view_of d) w → w.0 < length a.points.items
  vertex_within w H = vertex_below a k w (before w H)

  pub pin_within : (w : VertexId) → HasVertex (view_of d) w → w.0 < length a.pinned.items
  pin_within w H = pin_below a k w (before w H)

  pub point_reads : (w : VertexId) (p : Point) → HasVertex (view_of d) w → p ≡ get_or a.points.items w.0 p → p ≡ point_in (view_of d) w
  point_reads w p H e = subst (λ (d : Drawing). p ≡ point_in (view_of d) w) is (point_there a k w p (before w H) e)

  pub pin_reads : (w : VertexId) (b c : Bool) → HasVertex (view_of d) w → b ≡ get_or a.pinned.items w.0 c → b ≡ pinned_in (view_of d) w
  pin_reads w b c H e = subst (λ (d : Drawing). b ≡ pinned_in (view_of d) w) is (pin_there a k w b c (before w H) e)
