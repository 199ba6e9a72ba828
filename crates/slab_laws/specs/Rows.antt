-- A subdivision in lists: what is named goes by its place in an ascending list.
use Rattle.std.specs.Prelude.{ℕ, pos, List, map, false, slice_index_or}
use Rattle.std.specs.List.{position_or_len}
use Rattle.exact_plane.specs.Point.{Point}
use Rattle.plane_graphs.specs.Ascending.{ascending}
use Rattle.plane_graphs.specs.Graph.{Edge}
use Rattle.slab_laws.specs.declared.rows.ListedDart.{ListedDart}
use Rattle.slab_laws.specs.declared.rows.CycleRow.{CycleRow}
use Rattle.slab_laws.specs.Kinds.{kind_by}
use Rattle.slab_laws.specs.Skeleton.{Skeleton, same_point, same_edge}
use Rattle.slab_laws.specs.Darts.{Dart, source, target, darts}
use Rattle.slab_laws.specs.Rotation.{twin, dart_cmp, same_dart, next}
use Rattle.slab_laws.specs.Classes.{class_of}
use Rattle.slab_laws.specs.Cycles.{dart_labels, leads}
use Rattle.slab_laws.specs.Subdivision.{Cycle, subdivision}

-- the darts by source, then by target (this project)
unfoldable pub dart_list : Skeleton → List Dart
dart_list g = ascending dart_cmp (darts g)

-- a dart for the places where there is none
abbrev pub no_dart : Dart
no_dart = let p : Point = record { x = pos 0; y = pos 0; w = pos 1 } in record { edge = record { low = p; high = p }; forward = false }

-- the dart at a place
abbrev pub dart_at : Skeleton → ℕ → Dart
dart_at g k = slice_index_or (dart_list g) k no_dart

-- ---- places
abbrev pub vertex_place : Skeleton → Point → ℕ
vertex_place g p = position_or_len (same_point p) g.vertices

abbrev pub edge_place : Skeleton → Edge → ℕ
edge_place g e = position_or_len (same_edge e) g.edges

abbrev pub dart_place : Skeleton → Dart → ℕ
dart_place g d = position_or_len (same_dart d) (dart_list g)

-- the least dart of a dart's cycle (this project)
abbrev pub least_dart_of : Skeleton → Dart → Dart
least_dart_of g d = class_of same_dart (dart_labels (darts g)) d

-- the least darts of all cycles, ascending (this project)
abbrev pub lead_list : Skeleton → List Dart
lead_list g = leads (darts g) (dart_labels (darts g))

-- the place of a dart's cycle among all, by their least darts (this project)
abbrev pub cycle_place : Skeleton → Dart → ℕ
cycle_place g d = position_or_len (same_dart (least_dart_of g d)) (lead_list g)

-- ---- rows
abbrev pub dart_row : Skeleton → Dart → ListedDart
dart_row g d = record { source = vertex_place g (source d); target = vertex_place g (target d); edge = edge_place g d.edge; forward = d.forward }

-- the darts
unfoldable pub dart_rows : Skeleton → List ListedDart
dart_rows g = map (dart_row g) (dart_list g)

-- of each dart the place of its twin, of the next dart, of the least dart of its cycle, and of its cycle
unfoldable pub twin_places : Skeleton → List ℕ
twin_places g = map (λ d. dart_place g (twin d)) (dart_list g)

unfoldable pub next_places : Skeleton → List ℕ
next_places g = map (λ d. dart_place g (next (darts g) d)) (dart_list g)

unfoldable pub lead_places : Skeleton → List ℕ
lead_places g = map (λ d. dart_place g (least_dart_of g d)) (dart_list g)

unfoldable pub cycle_places : Skeleton → List ℕ
cycle_places g = map (cycle_place g) (dart_list g)

-- the cycles, by their least darts
abbrev pub cycle_row : Skeleton → Cycle → CycleRow
cycle_row g c = record { lead = dart_place g c.lead; kind = kind_by c.outer; face = c.face }

unfoldable pub cycle_rows : Skeleton → List CycleRow
cycle_rows g = map (cycle_row g) (subdivision g).cycles
