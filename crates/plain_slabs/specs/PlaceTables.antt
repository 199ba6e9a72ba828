-- Edges with the slabs that they span, and their places in one slab.
use Rattle.std.specs.Prelude.{◌≡◌, ℕ, List, Bool, true, not, ◌&&◌, ◌+◌, cond, map, filter}
use Rattle.std.specs.List.{count_by, range_with_len, Contains}
use lib.Dec.{ltb, leb}
use Rattle.exact_plane.specs.Point.{Point}
use Rattle.exact_plane.specs.Span.{Span}
use Rattle.plane_graphs.specs.Graph.{Edge}
use Rattle.slab_laws.specs.SpansDrawn.{edge_of}
use Rattle.slab_laws.specs.declared.slab_cell.SlabCell.{SlabCell}
use Rattle.slab_laws.specs.Skeleton.{left_of, below}
use Rattle.plain_slabs.specs.declared.reaches.Reach.{Reach}

-- how many of the points aren't to the right of the point: the number of the slab on the right of its wall
abbrev pub points_upto : List Point → Point → ℕ
points_upto vs t = count_by (λ v. not (left_of t v)) vs

-- the edge with its first slab, and the first that it no longer reaches
abbrev pub reach_in : List Point → Span → Reach
reach_in vs s = record { edge = s; first = points_upto vs s.lower; end = points_upto vs s.upper }

-- the edges with their slabs
abbrev pub table : List Point → List Span → List Reach
table vs ss = map (reach_in vs) ss

-- the edge goes from wall to wall of the slab
abbrev pub is_across : ℕ → Reach → Bool
is_across i r = leb r.first i && ltb i r.end

-- the cells of the slab from bottom to top: one more than edges go across
abbrev pub cells_across : List Reach → ℕ → List SlabCell
cells_across rs i = map (λ j. record { slab = i; place = j }) (range_with_len 0 (count_by (is_across i) rs + 1))

-- it is in slab j and not in slab i
abbrev pub is_new : ℕ → ℕ → Reach → Bool
is_new i j r = is_across j r && not (is_across i r)

-- it isn't vertical
abbrev pub IsSlanted : Span → Type 0
IsSlanted s = left_of s.lower s.upper ≡ true

-- none of the edges is vertical
pub record HasNoVertical (rs : List Reach) : Type 0 where
  pub slanted : (r : Reach) → Contains rs r → IsSlanted r.edge

-- none of the edges that are in a slab is vertical
pub record HasNoVerticalAcross (rs : List Reach) : Type 0 where
  pub slanted : (i : ℕ) (r : Reach) → Contains rs r → is_across i r ≡ true → IsSlanted r.edge

-- how many of the edges are below the edge
unfoldable pub count_below : List Reach → Edge → ℕ
count_below rs e = count_by (λ r. below (edge_of r.edge) e) rs

-- how many of the slab's edges are below the edge, which is one of them; 0 for others
unfoldable pub place_in : List Reach → ℕ → Reach → ℕ
place_in rs i r = cond (is_across i r) (count_below (filter (is_across i) rs) (edge_of r.edge)) 0

-- the places of all edges in the slab
unfoldable pub places_in : List Reach → ℕ → List ℕ
places_in rs i = map (place_in rs i) rs
