-- What edits keep a view sound, and what it draws afterwards.
use Rattle.std.specs.Prelude.{◌≡◌, ◌≢◌, ◌⊎◌, ◌↔◌, Bool}
use Rattle.std.specs.List.{Contains}
use Rattle.exact_plane.specs.Point.{Point}
use Rattle.plane_graphs.specs.Graph.{Edge}
use Rattle.rotation_order.specs.EdgeParts.{lower_part, upper_part}
use Rattle.slab_laws.specs.declared.names.DartId.{DartId}
use Rattle.slab_laws.specs.declared.names.VertexId.{VertexId}
use Rattle.slab_laws.specs.Skeleton.{IsPlaneSkeleton}
use Rattle.slab_laws.specs.Sound.{skeleton_of, edge_in, edge_between, IsGraphSound}
use Rattle.slab_laws.specs.View.{View, point_in, source_in, target_in}
use Rattle.arr_notes.specs.ViewChanges.{no_rows, with_vertex, without_vertex, with_pin}
use Rattle.arr_notes.specs.Step.{merge_edge, split_edge}
use Rattle.rotation_order.specs.VertexRings.{IsBare}
use Rattle.sound_changes.specs.ChangeFits.{IsNewVertex, FitsSplit, FitsMerge}

-- a view without rows is sound (this project)
abbrev pub NoRowsAreSound : Type 0
NoRowsAreSound = IsGraphSound no_rows

-- one more vertex, at a point of its own, keeps a view sound where the graph stays plane (this project)
abbrev pub VertexMoreKeepsViewsSound : Type 0
VertexMoreKeepsViewsSound = (v : View) (w : VertexId) (p : Point) → IsGraphSound v → IsNewVertex v w p → IsPlaneSkeleton (skeleton_of (with_vertex v w p)) → IsGraphSound (with_vertex v w p)

-- one vertex fewer, which no dart leaves, keeps a view sound (this project)
abbrev pub VertexFewerKeepsViewsSound : Type 0
VertexFewerKeepsViewsSound = (v : View) (w : VertexId) → IsGraphSound v → IsBare v w → IsGraphSound (without_vertex v w)

-- a pin, set or cleared, keeps a view sound (this project)
abbrev pub PinsKeepViewsSound : Type 0
PinsKeepViewsSound = (v : View) (w : VertexId) (b : Bool) → IsGraphSound v → IsGraphSound (with_pin v w b)

-- an edge in two keeps a view sound (this project)
abbrev pub EdgeInTwoKeepsViewsSound : Type 0
EdgeInTwoKeepsViewsSound =
    (v : View) (d : DartId) (w : VertexId) (p : Point) (n m : DartId) → IsGraphSound v → FitsSplit v d w p n m → IsGraphSound (split_edge v d w p n m)

-- the vertices are the old ones and p, the edges the old ones but the edge of d, and its two parts (CGAL manual, splitting an edge)
abbrev pub EdgeInTwoIsDrawn : Type 0
EdgeInTwoIsDrawn =
    (v : View) (d : DartId) (w : VertexId) (p : Point) (n m : DartId) → IsGraphSound v → FitsSplit v d w p n m → ((q : Point) → Contains (skeleton_of (split_edge v d w p n m)).vertices q ↔ (Contains (skeleton_of v).vertices q ⊎ (q ≡ p))) × ((e : Edge) → Contains (skeleton_of (split_edge v d w p n m)).edges e ↔ ((Contains (skeleton_of v).edges e × (e ≢ edge_in v d)) ⊎ ((e ≡ lower_part (edge_in v d) p) ⊎ (e ≡ upper_part (edge_in v d) p))))

-- two edges in one keep a view sound (this project)
abbrev pub TwoEdgesInOneKeepViewsSound : Type 0
TwoEdgesInOneKeepViewsSound = (v : View) (w : VertexId) (d n : DartId) → IsGraphSound v → FitsMerge v w d n → IsGraphSound (merge_edge v w d n)

-- the vertices are the old ones but the point of w, the edges the old ones but the two, and the edge between their far ends (CGAL manual, merging two edges)
abbrev pub TwoEdgesInOneAreDrawn : Type 0
TwoEdgesInOneAreDrawn =
    (v : View) (w : VertexId) (d n : DartId) → IsGraphSound v → FitsMerge v w d n → ((q : Point) → Contains (skeleton_of (merge_edge v w d n)).vertices q ↔ (Contains (skeleton_of v).vertices q × (q ≢ point_in v w))) × ((e : Edge) → Contains (skeleton_of (merge_edge v w d n)).edges e ↔ ((Contains (skeleton_of v).edges e × (e ≢ edge_in v d) × (e ≢ edge_in v n)) ⊎ (e ≡ edge_between (point_in v (source_in v d)) (point_in v (target_in v n)))))
