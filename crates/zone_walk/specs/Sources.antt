-- What a source of meeting points tells of a segment and a graph.
use Rattle.std.specs.Prelude.{◌≡◌, ◌⊎◌, true, List, Contains}
use Rattle.exact_plane.specs.Point.{Point}
use Rattle.exact_plane.specs.Segment.{Segment}
use Rattle.plane_graphs.specs.Ascending.{Member}
use Rattle.plane_graphs.specs.Line.{precedes}
use Rattle.slab_laws.specs.declared.names.DartId.{DartId}
use Rattle.slab_laws.specs.View.{View, HasDart}
use Rattle.zone_walk.specs.declared.plan.Meeting.{Meeting}
use Rattle.zone_walk.specs.Searches.{IsLedTo, IsOnEdge, IsThere}
use Rattle.zone_walk.specs.Zone.{meeting_points, points_of_meetings}

-- each is a meeting point with the vertex or edge that it meets, and among them are all on edges and at their ends that come after the segment's lower end, but for those to which an edge leads along the segment (Fogel, Halperin and Wein: the zone of a curve; the exception is this project's)
pub record AreAllOnEdges (v : View) (s : Segment) (ms : List Meeting) : Type 0 where
  pub meets : (m : Meeting) → Member m ms → Contains (meeting_points v s) m.point
  pub there : (m : Meeting) → Member m ms → IsThere v m.point m.spot
  pub all : (d : DartId) → HasDart v d → (p : Point) → IsOnEdge v d p → Contains (meeting_points v s) p → precedes s.lower p ≡ true → Member p (points_of_meetings ms) ⊎ IsLedTo v s p
