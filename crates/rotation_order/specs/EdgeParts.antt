-- Edges, the two parts of one at a point inside it, and darts that go round a vertex alike.
use Rattle.std.specs.Prelude.{◌≡◌, true, false}
use Rattle.exact_plane.specs.Point.{Point}
use Rattle.plane_graphs.specs.Graph.{Edge}
use Rattle.slab_laws.specs.Skeleton.{HasWeight, left_of, lower_than, on_wall}
use Rattle.slab_laws.specs.Darts.{Dart, source, ahead, back}
use Rattle.slab_laws.specs.Rotation.{turn, earlier}

-- two points, the lesser first, by abscissa and then by ordinate (Fogel, Halperin and Wein: x-monotone curve)
pub record IsForwardEdge (e : Edge) : Type 0 where
  pub low_weight : HasWeight e.low
  pub high_weight : HasWeight e.high
  pub forward : left_of e.high e.low ≡ false
  pub upright : on_wall e.low e.high ≡ true → lower_than e.low e.high ≡ true

-- the part of an edge from its lower end to a point (CGAL manual, splitting an edge)
abbrev pub lower_part : Edge → Point → Edge
lower_part e r = record { low = e.low; high = r }

-- the part from the point to the upper end (CGAL manual, splitting an edge)
abbrev pub upper_part : Edge → Point → Edge
upper_part e r = record { low = r; high = e.high }

-- d goes out of a vertex where w does: each dart from there stands to d in the clockwise order as it stands to w (this project)
pub record IsTurningAs (w d : Dart) : Type 0 where
  pub way : turn d ≡ turn w
  pub before : (c : Dart) → source c ≡ source w → earlier d c ≡ earlier w c
  pub behind : (c : Dart) → source c ≡ source w → earlier c d ≡ earlier c w

-- the parts of an edge at a point are edges; at the edge's ends they turn as it does, and they leave the point in its two ways (this project)
pub record IsParted (e : Edge) (r : Point) : Type 0 where
  pub lower_edge : IsForwardEdge (lower_part e r)
  pub upper_edge : IsForwardEdge (upper_part e r)
  pub at_low : IsTurningAs (ahead e) (ahead (lower_part e r))
  pub at_high : IsTurningAs (back e) (back (upper_part e r))
  pub onward : turn (ahead (upper_part e r)) ≡ turn (ahead e)
  pub backward : turn (back (lower_part e r)) ≡ turn (back e)
