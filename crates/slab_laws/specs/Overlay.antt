-- The overlay of two layers, red and blue: the subdivision by the pieces and pins of both, and the face of each layer that holds a face of it.
use Rattle.std.specs.Prelude.{ℕ, ◌+◌, ◌*◌, Bool, ◌&&◌, List, ◌++◌, map}
use Rattle.std.specs.List.{filter, list_any, count_by}
use Rattle.std.specs.Ordering.{nat_cmp}
use lib.Dec.{ltb, leb}
use Rattle.exact_plane.specs.PointOrder.{point_cmp}
use Rattle.plane_graphs.specs.Ascending.{ascending}
use Rattle.plane_graphs.specs.Piece.{Piece, Present, on}
use Rattle.plane_graphs.specs.Graph.{Edge, graph}
use Rattle.slab_laws.specs.declared.slab_cell.SlabCell.{SlabCell}
use Rattle.slab_laws.specs.Skeleton.{Skeleton}
use Rattle.slab_laws.specs.Slabs.{slab_right, spans, place}
use Rattle.slab_laws.specs.Faces.{face_of}
use Rattle.slab_laws.specs.Subdivision.{Subdivision, subdivision, rank}
use Rattle.slab_laws.specs.Text.{skeleton}

-- ---- both layers together
-- the piece, its curve numbered anew
abbrev pub renamed : (ℕ → ℕ) → Piece → Piece
renamed name k = record { curve = name k.curve; side = k.side; segment = k.segment; from = k.from; to = k.to }

-- the numbers that keep the curves of both layers apart: even ones for red, odd ones for blue
abbrev pub red_name : ℕ → ℕ
red_name c = 2 * c

abbrev pub blue_name : ℕ → ℕ
blue_name c = 2 * c + 1

-- all pieces and all pins of both layers (CGAL manual, `overlay`)
abbrev pub both : Present → Present → Present
both red blue = record { pieces = map (renamed red_name) red.pieces ++ map (renamed blue_name) blue.pieces; pins = ascending point_cmp (red.pins ++ blue.pins) }

-- the plane graph of a present
abbrev pub plane_of : Present → Skeleton
plane_of p = skeleton (graph p)

-- the plane graph of both layers
abbrev pub overlay_skeleton : Present → Present → Skeleton
overlay_skeleton red blue = plane_of (both red blue)

-- the subdivision of the plane by both layers (CGAL manual, `overlay`)
abbrev pub overlay : Present → Present → Subdivision
overlay red blue = subdivision (overlay_skeleton red blue)

-- ---- one layer in the overlay
-- the piece holds both ends of the edge
abbrev pub runs_along : Edge → Piece → Bool
runs_along e k = on k e.low && on k e.high

-- the layer's curves along the edge, ascending (CGAL manual, originating curves)
unfoldable pub curves_along : Present → Edge → List ℕ
curves_along layer e = ascending nat_cmp (map (λ k. k.curve) (filter (runs_along e) layer.pieces))

-- the layer has a curve along the edge
unfoldable pub has_curve_along : Present → Edge → Bool
has_curve_along layer e = list_any (runs_along e) layer.pieces

-- the layer's cell that holds a cell of the overlay: its slab counts the layer's vertices at or left of the slab's left wall, its place the edges below the cell along which the layer has a curve (this project)
unfoldable pub cell_in : Present → Skeleton → SlabCell → SlabCell
cell_in layer g c = record {
  slab = count_by (λ v. leb (slab_right g v) c.slab) (plane_of layer).vertices;
  place = count_by (λ e. (spans g c.slab e && ltb (place g c.slab e) c.place) && has_curve_along layer e) g.edges;
}

-- the label of a face of the overlay, which goes by its least cell: the rank of the layer's face that holds it (CGAL manual, overlay traits)
unfoldable pub label : Present → Skeleton → SlabCell → ℕ
label layer g f =
    let s : Subdivision = subdivision (plane_of layer) in
    rank s (face_of s.labels (cell_in layer g f))
