-- What a mirror's maps say, as tables by name, and how an entry of a dart is written.
use Rattle.std.specs.Prelude.{ℕ, Bool, ◌==◌, cond, List, [], map, Option, Some, None}
use Rattle.slab_laws.specs.declared.names.CurveId.{CurveId}
use Rattle.slab_laws.specs.declared.names.DartId.{DartId}
use Rattle.slab_laws.specs.declared.names.VertexId.{VertexId}
use Rattle.slab_laws.specs.Tables.{row_at}
use Rattle.slab_laws.specs.View.{View, Faces, VertexRecord, DartRecord, twin_in, next_in, source_in, line_in}
use Rattle.exact_plane.specs.Line.{Line}
use Rattle.arr_notes.specs.NamedRows.{put, del, each, edit}
use Rattle.arr_notes.specs.Step.{followed}
use Rattle.arr_notes.specs.CurvedView.{CurvedView}
use Rattle.mirror_observer.specs.declared.tables.VertexEntry.{VertexEntry}
use Rattle.mirror_observer.specs.declared.tables.DartEntry.{DartEntry}

-- the entries of a map, each value read as a row
abbrev pub rows : {X Y : Type 0} → (X → Y) → List (ℕ × X) → List (ℕ × Y)
rows f es = map (λ e. (e.0, f e.1)) es

-- what a view says of a vertex
abbrev pub vertex_of : VertexEntry → VertexRecord
vertex_of e = record { point = e.point; pinned = e.pinned }

-- what a view says of a dart; the dart before isn't told
abbrev pub dart_of : DartEntry → DartRecord
dart_of e = record { source = e.source; twin = e.twin; next = e.next; line = e.line }

-- the numbers of curves
abbrev pub numbers_in : List CurveId → List ℕ
numbers_in cs = map (λ c. c.0) cs

-- vertices and darts by name
abbrev pub graph_of : List (ℕ × VertexEntry) → List (ℕ × DartEntry) → View
graph_of vs ds = record { vertices = rows vertex_of vs; darts = rows dart_of ds }

-- darts alone
abbrev pub darts_of : List (ℕ × DartEntry) → View
darts_of ds = graph_of [] ds

-- what the maps say (this project)
abbrev pub view_of : List (ℕ × VertexEntry) → List (ℕ × DartEntry) → List (ℕ × List CurveId) → Faces → CurvedView
view_of vs ds cs f = record { graph = graph_of vs ds; faces = f; curves = rows numbers_in cs }

-- the dart before, by the entry; without one, the dart itself
abbrev pub previous_or : DartId → Option DartEntry → DartId
previous_or d None = d
previous_or d (Some e) = e.previous

-- the dart that an entry names as the one before; without an entry, the dart itself
abbrev pub previous_at : List (ℕ × DartEntry) → DartId → DartId
previous_at ds d = previous_or d (row_at ds d.0)

-- ---- single entries
-- the dart with another follower
abbrev pub with_follower : DartId → DartEntry → DartEntry
with_follower n e = record { source = e.source; twin = e.twin; next = n; previous = e.previous; line = e.line }

-- the dart with another dart before it
abbrev pub with_previous : DartId → DartEntry → DartEntry
with_previous p e = record { source = e.source; twin = e.twin; next = e.next; previous = p; line = e.line }

-- the dart with another source
abbrev pub with_start : VertexId → DartEntry → DartEntry
with_start w e = record { source = w; twin = e.twin; next = e.next; previous = e.previous; line = e.line }

-- the dart followed by y, if it was followed by x
abbrev pub diverted : DartId → DartId → DartEntry → DartEntry
diverted x y e = cond (e.next.0 == x.0) (with_follower y e) e

-- the vertex with another pin
abbrev pub with_pinned : Bool → VertexEntry → VertexEntry
with_pinned b e = record { point = e.point; pinned = b }

-- ---- tables of darts after each change that links them anew
-- the dart before a new dart out at an end: the one that comes in before the place, or, at a bare end, the new dart that comes back
abbrev pub led_from : View → Option DartId → DartId → DartId
led_from v None back = back
led_from v (Some a) back = twin_in v a

-- an end closed: x is followed by the dart out, and y by which the dart back is followed names it
abbrev pub joined : DartId → DartId → DartId → DartId → List (ℕ × DartEntry) → List (ℕ × DartEntry)
joined x out back y ds = edit y.0 (with_previous back) (edit x.0 (with_follower out) ds)

-- one edge more (this project)
abbrev pub linked : List (ℕ × DartEntry) → DartId → DartId → VertexId → VertexId → Option DartId → Option DartId → Line → List (ℕ × DartEntry)
linked ds d m u w at_u at_w l =
    let v : View = darts_of ds in
    joined (led_from v at_w d) m d (followed v at_w m) (joined (led_from v at_u m) d m (followed v at_u d) (put m.0
    (record { source = w; twin = d; next = followed v at_u d; previous = led_from v at_w d; line = l }) (put d.0
    (record { source = u; twin = m; next = followed v at_w m; previous = led_from v at_u m; line = l }) ds)))

-- one edge fewer (this project)
abbrev pub unlinked : List (ℕ × DartEntry) → DartId → DartId → List (ℕ × DartEntry)
unlinked ds d m =
    let v : View = darts_of ds in
    del m.0 (del d.0 (edit (next_in v d).0 (with_previous (previous_at ds m)) (edit (next_in v m).0 (with_previous (previous_at ds d))
    (each (λ n e. diverted m (next_in v d) e) (each (λ n e. diverted d (next_in v m) e) ds)))))

-- an edge in two (this project)
abbrev pub parted : List (ℕ × DartEntry) → DartId → VertexId → DartId → DartId → List (ℕ × DartEntry)
parted ds d w n m =
    let v : View = darts_of ds in
    let t : DartId = twin_in v d in
    let y : DartId = next_in v d in
    edit t.0 (with_previous m) (edit y.0 (with_previous n) (edit d.0 (with_follower n) (edit t.0 (with_start w) (put m.0
    (record { source = source_in v t; twin = n; next = t; previous = cond (y.0 == t.0) n (previous_at ds t); line = line_in v d }) (put n.0
    (record { source = w; twin = m; next = cond (y.0 == t.0) m y; previous = d; line = line_in v d })
    (each (λ k e. diverted t m e) ds))))))

-- two edges in one (this project)
abbrev pub merged : List (ℕ × DartEntry) → DartId → DartId → List (ℕ × DartEntry)
merged ds d n =
    let v : View = darts_of ds in
    let t : DartId = twin_in v d in
    let m : DartId = twin_in v n in
    let y : DartId = next_in v n in
    del m.0 (del n.0 (edit t.0 (with_previous (cond (y.0 == m.0) d (previous_at ds m))) (edit y.0 (with_previous d) (edit d.0 (with_follower (cond (y.0 == m.0) t y)) (edit t.0 (with_start (source_in v m))
    (each (λ k e. diverted m t e) ds))))))
