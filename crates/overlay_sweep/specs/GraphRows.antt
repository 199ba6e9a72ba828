-- The rows of a subdivision from the graph of a present.
use Rattle.std.specs.Prelude.{◌≡◌, ◌<◌, ℕ, List, length, map}
use Rattle.std.specs.List.{list_any}
use Rattle.exact_plane.specs.Point.{Point}
use Rattle.plane_graphs.specs.Ascending.{Member}
use Rattle.plane_graphs.specs.Graph.{graph}
use Rattle.plane_graphs.specs.Piece.{Present}
use Rattle.present_graphs.specs.Marks.{mark_of}
use Rattle.slab_laws.specs.declared.names.CycleKind.{CycleKind}
use Rattle.slab_laws.specs.declared.rows.CycleRow.{CycleRow}
use Rattle.slab_laws.specs.Kinds.{kind_by}
use Rattle.slab_laws.specs.Overlay.{plane_of}
use Rattle.slab_laws.specs.Rows.{cycle_rows}
use Rattle.slab_laws.specs.Skeleton.{same_point}
use Rattle.slab_laws.specs.Subdivision.{subdivision}
use Rattle.face_roots.specs.declared.ranks.Root.{Root}
use Rattle.face_roots.specs.CycleRanks.{is_outer_root}
use Rattle.sweep_graphs.specs.declared.trace.Stretch.{Stretch}
use Rattle.sweep_graphs.specs.Edges.{curve_at}
use Rattle.overlay_sweep.specs.CycleFaces.{rank_round}
use Rattle.overlay_sweep.specs.declared.rows.More.{More}

-- the kind of a cycle, by its root
abbrev pub kind_of_root : Root → CycleKind
kind_of_root r = kind_by (is_outer_root r)

-- the curve of each piece has the number of the piece's place
abbrev pub AreNumberedByPlace : Present → Type 0
AreNumberedByPlace p = (i : ℕ) → i < length p.pieces → curve_at p i ≡ i

-- the ends of the stretch are among so many points, and its piece is one of the present
pub record IsWithin (p : Present) (points : List Point) (s : Stretch) : Type 0 where
  pub low : s.low < length points
  pub high : s.high < length points
  pub piece : s.piece < length p.pieces

-- so it is with each of them
abbrev pub AreWithin : Present → List Point → List Stretch → Type 0
AreWithin p points ss = (s : Stretch) → Member s ss → IsWithin p points s

-- what the rows have besides the graph's own tables: the edges with their curves, the pinned vertices, the kinds of cycles, the faces of vertices without darts, and how many faces there are
pub record AreMore (p : Present) (m : More) : Type 0 where
  pub marks : map mark_of m.marks.items ≡ (graph p).marks
  pub pinned : m.pinned.items ≡ map (λ r. list_any (same_point r) p.pins) (graph p).points
  pub kinds : m.kinds.items ≡ map (λ (c : CycleRow). c.kind) (cycle_rows (plane_of p))
  pub bare_ranks : m.bare_ranks.items ≡ map (rank_round (plane_of p)) (graph p).points
  pub faces : m.faces ≡ length (subdivision (plane_of p)).faces
