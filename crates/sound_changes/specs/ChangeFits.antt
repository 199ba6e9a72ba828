-- What is asked of one more vertex, one vertex fewer, an edge in two, and two edges in one.
use Rattle.std.specs.Prelude.{◌≡◌, ◌≢◌, ◌⊎◌, true}
use Rattle.exact_plane.specs.Point.{Point}
use Rattle.plane_graphs.specs.Line.{IsProper}
use Rattle.slab_laws.specs.declared.names.DartId.{DartId}
use Rattle.slab_laws.specs.declared.names.VertexId.{VertexId}
use Rattle.slab_laws.specs.Skeleton.{inside}
use Rattle.slab_laws.specs.Sound.{edge_in, dart_in}
use Rattle.slab_laws.specs.View.{View, HasVertex, HasDart, point_in, source_in, twin_in, target_in, line_in}

-- w is a name without a record, and p a point of the plane where no vertex is (CGAL manual, inserting an isolated point)
pub record IsNewVertex (v : View) (w : VertexId) (p : Point) : Type 0 where
  pub name : ¬ HasVertex v w
  pub proper : IsProper p
  pub free : (u : VertexId) → HasVertex v u → point_in v u ≢ p

-- d goes forward along an edge, p lies inside it, and w, n and m are names without records (CGAL manual, splitting an edge)
pub record FitsSplit (v : View) (d : DartId) (w : VertexId) (p : Point) (n m : DartId) : Type 0 where
  pub dart : HasDart v d
  pub forward : (dart_in v d).forward ≡ true
  pub vertex : ¬ HasVertex v w
  pub first : ¬ HasDart v n
  pub second : ¬ HasDart v m
  pub differ : n ≢ m
  pub proper : IsProper p
  pub inside_edge : inside (edge_in v d) p ≡ true

-- d goes forward to w and n forward from it, on one line, and no other edge ends at w (CGAL manual, merging two edges)
pub record FitsMerge (v : View) (w : VertexId) (d n : DartId) : Type 0 where
  pub first : HasDart v d
  pub second : HasDart v n
  pub arrives : target_in v d ≡ w
  pub leaves : source_in v n ≡ w
  pub first_forward : (dart_in v d).forward ≡ true
  pub second_forward : (dart_in v n).forward ≡ true
  pub line : line_in v d ≡ line_in v n
  pub only : (k : DartId) → HasDart v k → source_in v k ≡ w → (k ≡ n) ⊎ (k ≡ twin_in v d)
