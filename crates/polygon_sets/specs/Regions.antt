-- The region of two layers by the subdivision by both, and when there is none.
use Rattle.std.specs.Prelude.{◌≡◌, ◌%◌, ◌==◌, ℕ, List, map, Some, None}
use Rattle.std.specs.List.{Contains}
use Rattle.exact_plane.specs.Point.{Point}
use Rattle.plane_graphs.specs.Graph.{Edge}
use Rattle.plane_graphs.specs.Piece.{Present}
use Rattle.slab_laws.specs.declared.slab_cell.SlabCell.{SlabCell}
use Rattle.slab_laws.specs.Darts.{Dart, source, target}
use Rattle.slab_laws.specs.Faces.{cells}
use Rattle.slab_laws.specs.Overlay.{both, overlay_skeleton}
use Rattle.subdivision_rows.specs.Listed.{Drawing, skeleton_in}
use Rattle.subdivision_rows.specs.OverlayInMemory.{Overlaid}
use Rattle.set_laws.specs.declared.op.Op.{Op}
use Rattle.set_laws.specs.EvenOdd.{op_in, border, above_in}
use Rattle.set_laws.specs.EvenOddLaws.{IsOfFaces}
use Rattle.set_laws.specs.PolygonSets.{IsClosedLayer, odd_end, pieces_along, holds_at, region}
use Rattle.set_laws.specs.PolygonLaws.{IsSetOfFaces}
use Rattle.polygon_sets.specs.declared.region.Colour.TheVariants.{Red, Blue}
use Rattle.polygon_sets.specs.declared.region.RegionError.{RegionError}
use Rattle.polygon_sets.specs.declared.region.RegionError.TheVariants.{Open, NoMemory}
use Rattle.polygon_sets.specs.Weighted.{weight_by, odd_vertex}

-- where a dart begins and where it ends
abbrev pub dart_ends : Dart → Point × Point
dart_ends d = (source d, target d)

-- ---- by a drawing, and how many red and how many blue pieces hold each of its edges
-- how many pieces hold the edge, by the numbers of all edges
abbrev pub pieces_on : Drawing → List ℕ → Edge → ℕ
pieces_on d counts = weight_by (skeleton_in d) counts

-- both sets are closed and made of whole faces, the list is their border, and the border's edges above a cell are odd in number exactly where OP holds in it (CGAL manual, Boolean set operations; the count: even-odd rule)
pub record IsRegionBy (op : Op) (d : Drawing) (red blue : List ℕ) (ends : List (Point × Point)) : Type 0 where
  pub red_closed : odd_vertex (skeleton_in d) (pieces_on d red) ≡ None
  pub blue_closed : odd_vertex (skeleton_in d) (pieces_on d blue) ≡ None
  pub red_of_faces : IsOfFaces (skeleton_in d) (pieces_on d red)
  pub blue_of_faces : IsOfFaces (skeleton_in d) (pieces_on d blue)
  pub tells : (c : SlabCell) → Contains (cells (skeleton_in d)) c → (above_in (skeleton_in d) (border op (skeleton_in d) (pieces_on d red) (pieces_on d blue)) c % 2 == 1) ≡ op_in op (skeleton_in d) (pieces_on d red) (pieces_on d blue) c
  pub darts : ends ≡ map dart_ends (border op (skeleton_in d) (pieces_on d red) (pieces_on d blue))

-- the least odd vertex of the first set that isn't closed; where both are, there was no memory
abbrev pub IsErrorBy : Drawing → List ℕ → List ℕ → RegionError → Type 0
IsErrorBy d red blue (Open Red p) = odd_vertex (skeleton_in d) (pieces_on d red) ≡ Some p
IsErrorBy d red blue (Open Blue p) = (odd_vertex (skeleton_in d) (pieces_on d red) ≡ None) × (odd_vertex (skeleton_in d) (pieces_on d blue) ≡ Some p)
IsErrorBy d red blue NoMemory = (odd_vertex (skeleton_in d) (pieces_on d red) ≡ None) × (odd_vertex (skeleton_in d) (pieces_on d blue) ≡ None)

-- the drawing is of these layers: its graph is that of both, and the numbers tell of each edge how many of their pieces hold it (this project)
pub record AreCountsOf (red blue : Present) (d : Drawing) (red_counts blue_counts : List ℕ) : Type 0 where
  pub graph : skeleton_in d ≡ overlay_skeleton red blue
  pub of_red : red_counts ≡ map (pieces_along red) (skeleton_in d).edges
  pub of_blue : blue_counts ≡ map (pieces_along blue) (skeleton_in d).edges

-- ---- by what an overlay keeps
-- its region
abbrev pub IsRegionIn : Op → Overlaid → List (Point × Point) → Type 0
IsRegionIn op o ends = IsRegionBy op o.drawing o.red_pieces o.blue_pieces ends

-- and why it has none
abbrev pub IsErrorOf : Overlaid → RegionError → Type 0
IsErrorOf o e = IsErrorBy o.drawing o.red_pieces o.blue_pieces e

-- the overlay is of these layers
abbrev pub TellsPiecesOf : Present → Present → Overlaid → Type 0
TellsPiecesOf red blue o = AreCountsOf red blue o.drawing o.red_pieces o.blue_pieces

-- ---- of two layers
-- both are closed and their sets made of whole faces, the list is their region, and the region's edges above a cell are odd in number exactly where OP holds in it
pub record IsRegionOfLayers (op : Op) (red blue : Present) (ends : List (Point × Point)) : Type 0 where
  pub red_closed : IsClosedLayer red
  pub blue_closed : IsClosedLayer blue
  pub red_of_faces : IsSetOfFaces red (both red blue)
  pub blue_of_faces : IsSetOfFaces blue (both red blue)
  pub tells : (c : SlabCell) → Contains (cells (overlay_skeleton red blue)) c → (above_in (overlay_skeleton red blue) (region op red blue) c % 2 == 1) ≡ holds_at op red blue c
  pub darts : ends ≡ map dart_ends (region op red blue)

-- the least odd end of the first layer that isn't closed; where both are, there was no memory
abbrev pub IsErrorOfLayers : Present → Present → RegionError → Type 0
IsErrorOfLayers red blue (Open Red p) = odd_end red ≡ Some p
IsErrorOfLayers red blue (Open Blue p) = IsClosedLayer red × (odd_end blue ≡ Some p)
IsErrorOfLayers red blue NoMemory = IsClosedLayer red × IsClosedLayer blue
