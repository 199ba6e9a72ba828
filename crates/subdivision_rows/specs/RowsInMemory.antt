-- What the rows of a subdivision in memory hold.
use Rattle.std.specs.Prelude.{◌≡◌, ℕ, map, length, cond}
use Rattle.std.specs.List.{list_any}
use Rattle.exact_plane.specs.Point.{Point}
use Rattle.plane_graphs.specs.Graph.{edges}
use Rattle.plane_graphs.specs.Plane.{IsPlane}
use Rattle.slab_laws.specs.declared.rows.CycleRow.{CycleRow}
use Rattle.slab_laws.specs.SpansDrawn.{edge_of}
use Rattle.slab_laws.specs.Faces.{face_labels, face_of}
use Rattle.slab_laws.specs.Skeleton.{same_point}
use Rattle.slab_laws.specs.Slabs.{left_cell}
use Rattle.slab_laws.specs.Subdivision.{rank, has_dart}
use Rattle.slab_laws.specs.Rows.{dart_rows, twin_places, next_places, cycle_places, cycle_rows}
use Rattle.subdivision_rows.specs.Listed.{Drawing, skeleton_in, subdivision_in, AreLinesOf}
use Rattle.subdivision_rows.specs.GraphInMemory.{drawing_in}
use Rattle.subdivision_rows.specs.declared.lists.RowLists.{RowLists}

-- the drawing that the lists are of
abbrev pub drawing_of : RowLists → Drawing
drawing_of a = drawing_in a.points.items a.marks.items a.pins.items a.edges.items

-- the rank of the face round a vertex without darts; of another vertex, 0
abbrev pub bare_rank : Drawing → Point → ℕ
bare_rank d p = cond (has_dart (skeleton_in d) p) 0 (rank (subdivision_in d) (face_of (face_labels (skeleton_in d)) (left_cell (skeleton_in d) p)))

-- the lists are those of the graph's subdivision: names are places, faces go by rank
pub record AreSoundRows (a : RowLists) : Type 0 where
  pub plane : IsPlane (drawing_of a).graph
  pub lines : AreLinesOf (drawing_of a)
  pub pinned : a.pinned.items ≡ map (λ p. list_any (same_point p) a.pins.items) a.points.items
  pub edges_are : map edge_of a.edges.items ≡ edges (drawing_of a).graph
  pub darts : a.darts.items ≡ dart_rows (skeleton_in (drawing_of a))
  pub twins : a.twins.items ≡ twin_places (skeleton_in (drawing_of a))
  pub nexts : a.nexts.items ≡ next_places (skeleton_in (drawing_of a))
  pub in_cycles : a.in_cycles.items ≡ cycle_places (skeleton_in (drawing_of a))
  pub kinds : a.kinds.items ≡ map (λ (c : CycleRow). c.kind) (cycle_rows (skeleton_in (drawing_of a)))
  pub cycle_ranks : a.cycle_ranks.items ≡ map (λ c. rank (subdivision_in (drawing_of a)) c.face) (subdivision_in (drawing_of a)).cycles
  pub bare_ranks : a.bare_ranks.items ≡ map (bare_rank (drawing_of a)) a.points.items
  pub faces : a.faces ≡ length (subdivision_in (drawing_of a)).faces
