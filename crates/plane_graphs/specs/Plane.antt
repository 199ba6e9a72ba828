-- Plane graphs.
use Rattle.std.specs.Prelude.{◌≡◌, ◌⊎◌, true, false}
use Rattle.exact_plane.specs.Point.{Point}
use Rattle.exact_plane.specs.PointOrder.{point_cmp}
use Rattle.plane_graphs.specs.Ascending.{Member, IsAscending}
use Rattle.plane_graphs.specs.Line.{IsProper, precedes}
use Rattle.plane_graphs.specs.Graph.{Mark, Graph, mark_cmp, inside, on_edge}

-- t is an end of the edge
abbrev pub IsEnd : Point → Mark → Type 0
IsEnd t m = (t ≡ m.low) ⊎ (t ≡ m.high)

-- each vertex and each mark once, both ends of an edge among the vertices, no vertex strictly inside an edge, and two edges share ends only (Fogel, Halperin and Wein: a straight-line embedding)
pub record IsPlane (g : Graph) : Type 0 where
  pub points_ascend : IsAscending point_cmp g.points
  pub marks_ascend : IsAscending mark_cmp g.marks
  pub proper : (p : Point) → Member p g.points → IsProper p
  pub low_in : (m : Mark) → Member m g.marks → Member m.low g.points
  pub high_in : (m : Mark) → Member m g.marks → Member m.high g.points
  pub forward : (m : Mark) → Member m g.marks → precedes m.low m.high ≡ true
  pub clear : (m : Mark) → Member m g.marks → (p : Point) → Member p g.points → inside p m ≡ false
  pub apart : (m n : Mark) → Member m g.marks → Member n g.marks → (t : Point) → IsProper t → on_edge t m ≡ true → on_edge t n ≡ true → ((m.low ≡ n.low) × (m.high ≡ n.high)) ⊎ (IsEnd t m × IsEnd t n)
