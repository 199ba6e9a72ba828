-- What each change makes of a view.
use Rattle.std.specs.Prelude.{◌==◌, cond, false, true, Option, Some, None}
use Rattle.exact_plane.specs.Point.{Point}
use Rattle.exact_plane.specs.Line.{Line}
use Rattle.slab_laws.specs.declared.names.DartId.{DartId}
use Rattle.slab_laws.specs.declared.names.VertexId.{VertexId}
use Rattle.slab_laws.specs.View.{View, source_in, twin_in, next_in, line_in}
use Rattle.arr_notes.specs.AfterAround.{after_in}
use Rattle.arr_notes.specs.ViewChanges.{with_vertex, without_vertex, with_pin, with_pair, without_pair, with_next, with_source, redirect, no_rows}
use Rattle.arr_notes.specs.declared.change.Change.{Change}
use Rattle.arr_notes.specs.declared.change.Change.TheVariants.{AddVertex, RemoveVertex, SplitEdge, MergeEdge, AddEdge, RemoveEdge, AddCurve, RemoveCurve, SetPin, ClearPin, Clear}

-- ---- one more edge, directly after a dart at each end, or at a bare end
-- what follows a new dart that comes back to this end: the dart that came after the place, or, at a bare end, the new dart out of it
abbrev pub followed : View → Option DartId → DartId → DartId
followed v None x = x
followed v (Some a) x = after_in v a

-- the dart that comes in before the place is followed by the new dart out
abbrev pub led : View → Option DartId → DartId → View → View
led v None x h = h
led v (Some a) x h = with_next h (twin_in v a) x

-- d from u to w and its twin m, between the darts that follow the places at both ends
abbrev pub add_edge : View → DartId → DartId → VertexId → VertexId → Option DartId → Option DartId → Line → View
add_edge v d m u w at_u at_w l =
    led v at_w m (led v at_u d (with_pair v d m
    (record { source = u; twin = m; next = followed v at_w m; line = l })
    (record { source = w; twin = d; next = followed v at_u d; line = l })))

-- ---- one edge fewer: the order round both ends closes up
abbrev pub remove_edge : View → DartId → DartId → View
remove_edge v d m = without_pair (redirect (redirect v d (next_in v m)) m (next_in v d)) d m

-- ---- an edge in two: d and its twin t end and begin at w now, n and m have the rest. What t followed is followed by m before m has its row, which t follows (CGAL manual, splitting an edge)
abbrev pub split_edge : View → DartId → VertexId → Point → DartId → DartId → View
split_edge v d w p n m =
    let t : DartId = twin_in v d in
    with_next (with_source (with_pair (redirect (with_vertex v w p) t m) n m
    (record { source = w; twin = m; next = cond ((next_in v d).0 == t.0) m (next_in v d); line = line_in v d })
    (record { source = source_in v t; twin = n; next = t; line = line_in v d })) t w) d n

-- ---- two edges in one: d takes over the way of n, and w goes
abbrev pub merge_edge : View → VertexId → DartId → DartId → View
merge_edge v w d n =
    let t : DartId = twin_in v d in
    let m : DartId = twin_in v n in
    without_vertex (without_pair (with_next (with_source (redirect v m t) t (source_in v m)) d (cond ((next_in v n).0 == m.0) t (next_in v n))) n m) w

-- ---- the view after a change; the curves of edges aside (CGAL manual, `Arr_observer`; the list is this project's)
abbrev pub step : View → Change → View
step v (AddVertex w p face) = with_vertex v w p
step v (RemoveVertex w) = without_vertex v w
step v (SplitEdge d w p n m) = split_edge v d w p n m
step v (MergeEdge w d n) = merge_edge v w d n
step v (AddEdge d m u w at_u at_w l c faces) = add_edge v d m u w at_u at_w l
step v (RemoveEdge d m faces) = remove_edge v d m
step v (AddCurve d c) = v
step v (RemoveCurve d c) = v
step v (SetPin w) = with_pin v w true
step v (ClearPin w) = with_pin v w false
step v (Clear face) = no_rows
