-- The rings of a region's boundary.
use Rattle.std.specs.Prelude.{◌≡◌, ◌<◌, ℕ, Bool, true, false, List, length, slice_index_or, Option, Some, None, IfSome}
use Rattle.std.specs.List.{Contains}
use Rattle.exact_plane.specs.Point.{Point}
use Rattle.slab_laws.specs.Cycles.{left_of_dart}
use Rattle.slab_laws.specs.Darts.{Dart}
use Rattle.slab_laws.specs.Meets.{SameFace}
use Rattle.polygon_sets.specs.Boundaries.{IsBoundary, bounds_of}
use Rattle.polygon_sets.specs.ClosedBorders.{IsNextSide, dart_at}
use Rattle.polygon_sets.specs.Regions.{dart_ends}
use Rattle.region_rings.specs.Cycles.{AreCut, IsAfter}
use Rattle.region_rings.specs.Holes.{corner_in, AreHoles}
use Rattle.region_rings.specs.Nesting.{AreLeasts, AreOuters}

-- the corners of all rings, one ring after another, where each ring ends among them, which of them are holes, and of each its least corner and, of a hole, its outer ring
pub record RingTable : Type 0 where
  pub points : List Point
  pub ends : List ℕ
  pub holes : List Bool
  pub leasts : List Point
  pub outers : List (Option ℕ)

-- each ring has a corner at least, and is told of
pub record IsRingTable (t : RingTable) : Type 0 where
  pub cut : AreCut (length t.points) t.ends
  pub told : length t.holes ≡ length t.ends
  pub least : length t.leasts ≡ length t.ends
  pub nested : length t.outers ≡ length t.ends
  pub within : (r : ℕ) → r < length t.ends → IfSome (slice_index_or t.outers r None) (λ q. q < length t.ends)

-- the side from one corner to another
abbrev pub side : RingTable → ℕ → ℕ → Point × Point
side t i j = (corner_in t.points i, corner_in t.points j)

-- where a dart begins
abbrev pub source_at : List (Point × Point) → ℕ → Point
source_at ds k = (dart_at ds k).0

-- numbers below another
abbrev pub AreWithin : ℕ → List ℕ → Type 0
AreWithin n ks = (i : ℕ) → i < length ks → slice_index_or ks i 0 < n

-- the sides of the closed rings are the darts, each once; each side is followed by the next one of the boundary; and holes are told, with their outer rings (CGAL manual, polygons with holes)
pub record AreRingsOf (ds : List (Point × Point)) (t : RingTable) : Type 0 where
  pub counted : length t.points ≡ length ds
  pub cut : AreCut (length t.points) t.ends
  pub sides : (r i j : ℕ) → IsAfter t.ends r i j → (k : ℕ) × (k < length ds) × (dart_at ds k ≡ side t i j)
  pub all : (k : ℕ) → k < length ds → (r : ℕ) × (i : ℕ) × (j : ℕ) × IsAfter t.ends r i j × (side t i j ≡ dart_at ds k)
  pub once : (q r i j k l : ℕ) → IsAfter t.ends q i j → IsAfter t.ends r k l → side t i j ≡ side t k l → i ≡ k
  pub rule : (r i j k : ℕ) → IsAfter t.ends r i j → IsAfter t.ends r j k → IsNextSide ds (side t i j) (side t j k)
  pub holes : AreHoles t.points t.ends t.holes
  pub leasts : AreLeasts t.points t.ends t.leasts
  pub outers : AreOuters t.points t.ends t.holes t.leasts t.outers

-- each hole has an outer ring: one goes round its least corner (Open Geospatial Consortium, simple features: a polygon is an exterior ring and its interior rings)
abbrev pub AreAllNested : RingTable → Type 0
AreAllNested t = (r : ℕ) → r < length t.ends → slice_index_or t.holes r false ≡ true → (q : ℕ) × (slice_index_or t.outers r None ≡ Some q)

-- these are the ends of a side of the ring
pub record IsSideOf (t : RingTable) (r : ℕ) (x : Point × Point) : Type 0 where
  pub from : ℕ
  pub to : ℕ
  pub after : IsAfter t.ends r from to
  pub is : side t from to ≡ x

-- each hole and its outer ring bound one face of the border's own plane graph: what is inside between them is connected
abbrev pub AreOfOneFace : List (Point × Point) → RingTable → Type 0
AreOfOneFace ds t = (b : IsBoundary ds) (r q : ℕ) (d e : Dart) → slice_index_or t.holes r false ≡ true → slice_index_or t.outers r None ≡ Some q → Contains (bounds_of b.graph) d → Contains (bounds_of b.graph) e → IsSideOf t r (dart_ends d) → IsSideOf t q (dart_ends e) → SameFace b.graph (left_of_dart b.graph d) (left_of_dart b.graph e)
