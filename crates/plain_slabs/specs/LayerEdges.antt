-- What an overlay tells of one layer, and the edges that it is counted from.
use Rattle.std.specs.Prelude.{◌≡◌, ℕ, List, map, filter, Bool, true, not, ◌&&◌}
use Rattle.std.specs.List.{count_by, Contains}
use lib.Dec.{ltb, leb}
use Rattle.exact_plane.specs.Point.{Point}
use Rattle.exact_plane.specs.Span.{Span}
use Rattle.std.specs.Ordering.{nat_cmp}
use Rattle.plane_graphs.specs.Ascending.{ascending}
use Rattle.plane_graphs.specs.Graph.{Edge}
use Rattle.plane_graphs.specs.Piece.{Present}
use Rattle.slab_laws.specs.declared.names.CurveId.{CurveId}
use Rattle.slab_laws.specs.declared.present.Piece.{Piece as PieceInMemory}
use Rattle.slab_laws.specs.Pieces.{piece_of}
use Rattle.slab_laws.specs.declared.slab_cell.SlabCell.{SlabCell}
use Rattle.slab_laws.specs.SpansDrawn.{edge_of}
use Rattle.slab_laws.specs.Skeleton.{left_of, below}
use Rattle.slab_laws.specs.Faces.{face_of}
use Rattle.slab_laws.specs.Subdivision.{Subdivision, rank}
use Rattle.slab_laws.specs.Overlay.{runs_along, has_curve_along}
use Rattle.plain_slabs.specs.declared.layer_cells.LayerEdge.{LayerEdge}

-- the numbers of the curves of the pieces that run along the edge, ascending
abbrev pub numbers_along : List PieceInMemory → Edge → List ℕ
numbers_along ks e = ascending nat_cmp (map (λ (c : CurveId). c.0) (map (λ (k : PieceInMemory). k.curve) (filter (λ (k : PieceInMemory). runs_along e (piece_of k)) ks)))

-- the number of the slab on the right of a point's wall
abbrev pub slab_beside : List Point → Point → ℕ
slab_beside vs t = count_by (λ v. not (left_of t v)) vs

-- the edge with its first slab and the first that it no longer reaches, and whether a curve of the layer runs along it
abbrev pub layer_edge : Present → List Point → Span → LayerEdge
layer_edge layer vs s = record { edge = s; first = slab_beside vs s.lower; end = slab_beside vs s.upper; is_of_layer = has_curve_along layer (edge_of s) }

-- the edge goes from wall to wall of the slab
abbrev pub is_across : ℕ → LayerEdge → Bool
is_across i e = leb e.first i && ltb i e.end

-- none of the edges is vertical
pub record AreSlanted (es : List LayerEdge) : Type 0 where
  pub slanted : (e : LayerEdge) → Contains es e → left_of e.edge.lower e.edge.upper ≡ true

-- none of the edges that are in a slab is vertical
pub record AreSlantedAcross (es : List LayerEdge) : Type 0 where
  pub slanted : (i : ℕ) (e : LayerEdge) → Contains es e → is_across i e ≡ true → left_of e.edge.lower e.edge.upper ≡ true

-- how many of the edges are below the edge
unfoldable pub count_below : List LayerEdge → Edge → ℕ
count_below es e = count_by (λ (f : LayerEdge). below (edge_of f.edge) e) es

-- of the edges of a slab, how many of so many lowest ones are of the layer
abbrev pub count_layer : List LayerEdge → ℕ → ℕ
count_layer es j = count_by (λ (e : LayerEdge). e.is_of_layer && ltb (count_below es (edge_of e.edge)) j) es

-- the layer's cell that holds a cell, by the edges of all slabs and the numbers of the slabs beside the layer's vertices
abbrev pub cell_among : List LayerEdge → List ℕ → SlabCell → SlabCell
cell_among es ns c = record { slab = count_by (λ n. leb n c.slab) ns; place = count_layer (filter (is_across c.slab) es) c.place }

-- the rank of the face that holds a cell
abbrev pub rank_in : Subdivision → SlabCell → ℕ
rank_in s c = rank s (face_of s.labels c)
