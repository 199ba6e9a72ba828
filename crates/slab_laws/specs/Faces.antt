-- Faces: classes of cells that meet across walls. A face goes by its least cell.
use Rattle.std.specs.Prelude.{ℕ, suc, List, ◌∷◌, ◌++◌, map, Bool, not, ◌&&◌, ◌==◌, ◌||◌, filter, flat_map}
use Rattle.std.specs.List.{list_any, range_with_len}
use lib.Dec.{ltb}
use Rattle.exact_plane.specs.Point.{Point}
use Rattle.plane_graphs.specs.Graph.{Edge}
use Rattle.slab_laws.specs.Skeleton.{Skeleton, left_of, lower_than, on_wall, foot}
use Rattle.slab_laws.specs.Meets.{covers_above}
use Rattle.slab_laws.specs.Slabs.{slab_left, slab_right, left_cell, right_cell, width}
use Rattle.slab_laws.specs.declared.slab_cell.SlabCell.{SlabCell}
use Rattle.slab_laws.specs.Classes.{Label, Link, classes, class_of}

-- the same slab and the same place (this project)
abbrev pub same_cell : SlabCell → SlabCell → Bool
same_cell c d = (c.slab == d.slab) && (c.place == d.place)

-- by slab, then by place
abbrev pub cell_below : SlabCell → SlabCell → Bool
cell_below c d = ltb c.slab d.slab || ((c.slab == d.slab) && ltb c.place d.place)

-- no vertex of its abscissa is lower
unfoldable pub is_lowest : List Point → Point → Bool
is_lowest vs v = not (list_any (λ u. on_wall u v && lower_than u v) vs)

-- for each abscissa of a vertex its lowest vertex
unfoldable pub walls : Skeleton → List Point
walls g = filter (is_lowest g.vertices) g.vertices

-- the edge passes through the wall of v (this project)
abbrev pub passes : Point → Edge → Bool
passes v e = left_of e.low v && left_of v e.high

-- no vertical edge goes up from t, or through it
unfoldable pub is_open : Skeleton → Point → Bool
is_open g t = not (list_any (λ e. covers_above e t) g.edges)

-- the interval of the wall with t as its lower stop borders these cells
abbrev pub link_at : Skeleton → Point → Link SlabCell
link_at g t = record { one = left_cell g t; other = right_cell g t }

-- the interval below all stops
abbrev pub lowest_link : Skeleton → Point → Link SlabCell
lowest_link g v = record { one = record { slab = slab_left g v; place = 0 }; other = record { slab = slab_right g v; place = 0 } }

-- the vertices of the wall of v at which it is open, and the points where edges pass through it
unfoldable pub corner_links : Skeleton → Point → List (Link SlabCell)
corner_links g v = map (link_at g) (filter (λ u. on_wall u v && is_open g u) g.vertices)

unfoldable pub foot_links : Skeleton → Point → List (Link SlabCell)
foot_links g v = map (λ e. link_at g (foot e v)) (filter (passes v) g.edges)

-- all meets across the wall of v (this project)
unfoldable pub wall_links : Skeleton → Point → List (Link SlabCell)
wall_links g v = lowest_link g v ∷ (corner_links g v ++ foot_links g v)

-- all meets across all walls (this project)
unfoldable pub links : Skeleton → List (Link SlabCell)
links g = flat_map (wall_links g) (walls g)

-- each cell of a link with the least cell of its face (this project)
unfoldable pub face_labels : Skeleton → List (Label SlabCell)
face_labels g = classes same_cell cell_below (links g)

-- the least cell of the face
abbrev pub face_of : List (Label SlabCell) → SlabCell → SlabCell
face_of ls c = class_of same_cell ls c

-- the cells of a slab from bottom to top (this project)
unfoldable pub slab_cells : Skeleton → ℕ → List SlabCell
slab_cells g i = map (λ j. record { slab = i; place = j }) (range_with_len 0 (suc (width g i)))

-- the cells of all slabs from left to right (this project)
unfoldable pub cells : Skeleton → List SlabCell
cells g = flat_map (slab_cells g) (0 ∷ map (slab_right g) (walls g))
