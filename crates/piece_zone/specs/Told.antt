-- What a piece of a layer tells of the points at which a segment meets its edges.
use Rattle.std.specs.Prelude.{◌≡◌, ◌⊎◌, ℕ, pos, ◌<ℤ◌, true, false, Option, Some, IfSome, List, Contains}
use Rattle.exact_plane.specs.Line.{Line, side_of}
use Rattle.exact_plane.specs.Point.{Point}
use Rattle.exact_plane.specs.Segment.{Segment, line_of_segment}
use Rattle.exact_plane.specs.Span.{Span}
use Rattle.exact_plane.specs.declared.whole_parts.BoundingBox.{BoundingBox}
use Rattle.plane_graphs.specs.Ascending.{Member}
use Rattle.plane_graphs.specs.Line.{precedes}
use Rattle.plane_graphs.specs.Strands.{strand}
use Rattle.slab_laws.specs.declared.names.DartId.{DartId}
use Rattle.slab_laws.specs.declared.present.Piece.{Piece as PieceInMemory}
use Rattle.slab_laws.specs.Tables.{names}
use Rattle.slab_laws.specs.View.{View, HasDart, point_in, source_in, target_in}
use Rattle.sound_views.specs.ForwardDarts.{IsForwardOf}
use Rattle.box_tree.specs.Entries.{is_met}
use Rattle.curve_pieces.specs.PieceRows.{entry_of}
use Rattle.curve_history.specs.Past.{Past, strands_on}
use Rattle.zone_walk.specs.declared.plan.Meeting.{Meeting}
use Rattle.zone_walk.specs.Searches.{IsLedTo, IsOnEdge, IsThere}
use Rattle.zone_walk.specs.Zone.{meeting_points, points_of_meetings}

-- the piece as a span
abbrev pub span_of : PieceInMemory → Span
span_of k = record { lower = k.from; upper = k.to; line = line_of_segment k.segment }

-- both points are strictly on the left of the line, or both on its right
abbrev pub AreAside : Line → Point → Point → Type 0
AreAside l p q = ((pos 0 <ℤ side_of l p) × (pos 0 <ℤ side_of l q)) ⊎ ((side_of l p <ℤ pos 0) × (side_of l q <ℤ pos 0))

-- the piece's side of its curve runs along the dart's edge, which lies between the piece's ends (this project)
pub record IsEdgeOf (v : View) (h : Past) (k : PieceInMemory) (d : DartId) : Type 0 where
  pub dart : DartId
  pub forward : IsForwardOf v d dart
  pub runs : Member (strand k.curve.0 k.side) (strands_on h dart)
  pub from : precedes (point_in v (source_in v dart)) k.from ≡ false
  pub to : precedes k.to (point_in v (target_in v dart)) ≡ false

-- of each meeting point on edges of the piece behind the segment's lower end, P is true, or an edge leads to it along the segment (this project)
abbrev pub AreTold : View → Past → Segment → PieceInMemory → (Point → Type 0) → Type 0
AreTold v h s k P = (d : DartId) → HasDart v d → IsEdgeOf v h k d → (q : Point) → IsOnEdge v d q → Contains (meeting_points v s) q → precedes s.lower q ≡ true → P q ⊎ IsLedTo v s q

-- ---- one piece
-- the meeting is at the point
abbrev pub IsToldAt : Option Meeting → Point → Type 0
IsToldAt o q = (m : Meeting) × (o ≡ Some m) × (q ≡ m.point)

-- a meeting point with the vertex or edge that it meets, if any: it is the only one on edges of the piece behind the segment's lower end, but for those to which an edge leads along the segment (this project)
pub record IsToldOf (v : View) (h : Past) (s : Segment) (k : PieceInMemory) (o : Option Meeting) : Type 0 where
  pub meets : IfSome o (λ m. Contains (meeting_points v s) m.point)
  pub there : IfSome o (λ m. IsThere v m.point m.spot)
  pub all : AreTold v h s k (IsToldAt o)

-- ---- many pieces
-- each is a meeting point, with the vertex or edge that it meets, and they are all on edges of the pieces of these names, but for those to which an edge leads (this project)
pub record AreToldOf (v : View) (h : Past) (s : Segment) (ns : List ℕ) (ms : List Meeting) : Type 0 where
  pub meets : (m : Meeting) → Member m ms → Contains (meeting_points v s) m.point
  pub there : (m : Meeting) → Member m ms → IsThere v m.point m.spot
  pub all : (n : ℕ) → Member n ns → (k : PieceInMemory) × Member (n, k) h.rows × AreTold v h s k (λ q. Member q (points_of_meetings ms))

-- they are the names of pieces, among them those of all pieces whose boxes meet the box (de Berg and others: windowing query)
pub record AreNamesIn (h : Past) (area : BoundingBox) (ns : List ℕ) : Type 0 where
  pub named : (n : ℕ) → Member n ns → Member n (names h.rows)
  pub all : (r : ℕ × PieceInMemory) → Member r h.rows → is_met area (entry_of r) ≡ true → Member r.0 ns
