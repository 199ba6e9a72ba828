-- What an outline tells: of all points of edges, and of all points of pieces, those of the outline are the outermost.
use Rattle.std.specs.Prelude.{◌≡◌, true, false, pos, List, [], ◌∷◌, Option, Some, None}
use Rattle.std.specs.List.{Contains}
use Rattle.exact_plane.specs.Point.{Point}
use Rattle.exact_plane.specs.PointOrder.{point_cmp}
use Rattle.plane_graphs.specs.Ascending.{Member, IsAscending}
use Rattle.plane_graphs.specs.Fit.{IsFit}
use Rattle.plane_graphs.specs.Graph.{Edge, graph}
use Rattle.plane_graphs.specs.Line.{IsProper}
use Rattle.plane_graphs.specs.Piece.{Piece, Present, on}
use Rattle.slab_laws.specs.Skeleton.{Skeleton, HasWeight, IsPlaneSkeleton, left_of, on_wall, side, precedes}
use Rattle.slab_laws.specs.Faces.{passes}
use Rattle.slab_laws.specs.Slabs.{slab_right}
use Rattle.slab_laws.specs.Text.{skeleton}
use Rattle.envelope_laws.specs.declared.which.Which.{Which}
use Rattle.envelope_laws.specs.Envelopes.{vertex_beyond, point_beyond, Outline, outline}
use Rattle.envelope_laws.specs.Outermost.{IsOutermostOf}

-- ---- points
-- the point is on the edge, ends included
pub record IsOnEdge (e : Edge) (t : Point) : Type 0 where
  pub proper : HasWeight t
  pub from : precedes t e.low ≡ false
  pub to : precedes e.high t ≡ false
  pub on : side e t ≡ pos 0

-- on an edge of the graph
pub record IsOnAnEdge (g : Skeleton) (t : Point) : Type 0 where
  pub edge : Edge
  pub is_edge : Contains g.edges edge
  pub on : IsOnEdge edge t

-- on a piece of the present
pub record IsOnAPiece (p : Present) (t : Point) : Type 0 where
  pub piece : Piece
  pub piece_in : Member piece p.pieces
  pub proper : IsProper t
  pub on : on piece t ≡ true

-- ---- an envelope of the points that are there
-- of those on the wall of v none is further out than v
abbrev pub IsOutermostPoint : Which → (Point → Type 0) → Point → Type 0
IsOutermostPoint w IsThere v = (t : Point) → IsThere t → on_wall t v ≡ true → vertex_beyond w t v ≡ false

-- the edge goes on at the point's abscissa, and the point isn't further out; in a gap no point is allowed
abbrev pub IsWithin : Which → Option Edge → Point → Type 0
IsWithin w None t = ⊥
IsWithin w (Some e) t = (passes t e ≡ true) × (point_beyond w t e ≡ false)

-- z is on the right of v; in each slab between them the edge is outermost, or no edge spans it; and at no abscissa strictly between is a point further out than the edge, or any point in the gap (CGAL manual, envelope diagram)
pub record IsBetween (w : Which) (g : Skeleton) (IsThere : Point → Type 0) (v z : Point) (o : Option Edge) : Type 0 where
  pub ahead : left_of v z ≡ true
  pub everywhere : (u : Point) → Contains g.vertices u → left_of u v ≡ false → left_of u z ≡ true → IsOutermostOf w g (slab_right g u) o
  pub none : (t : Point) → IsThere t → left_of v t ≡ true → left_of t z ≡ true → IsWithin w o t

-- so it is between each vertex and the next one
abbrev pub AreBetween : Which → Skeleton → (Point → Type 0) → List Point → List (Option Edge) → Type 0
AreBetween w g IsThere [] os = os ≡ []
AreBetween w g IsThere (v ∷ []) os = os ≡ []
AreBetween w g IsThere (v ∷ z ∷ vs) [] = ⊥
AreBetween w g IsThere (v ∷ z ∷ vs) (o ∷ os) = IsBetween w g IsThere v z o × AreBetween w g IsThere (z ∷ vs) os

-- `are`, `all`: its vertices are those vertices of the graph that are the outermost points of their walls; `between`: from each to the next; `before`, `after`: no point is on the left of all of them, or on the right (CGAL manual, envelopes; what becomes of pins and vertical edges: this project)
pub record IsEnvelope (w : Which) (g : Skeleton) (IsThere : Point → Type 0) (o : Outline) : Type 0 where
  pub are : (v : Point) → Contains o.vertices v → Contains g.vertices v × IsThere v × IsOutermostPoint w IsThere v
  pub all : (v : Point) → Contains g.vertices v → IsThere v → IsOutermostPoint w IsThere v → Contains o.vertices v
  pub between : AreBetween w g IsThere o.vertices o.between
  pub before : (t : Point) → IsThere t → (v : Point) × Contains o.vertices v × (left_of t v ≡ false)
  pub after : (t : Point) → IsThere t → (v : Point) × Contains o.vertices v × (left_of v t ≡ false)

-- the outline of a plane graph is the envelope of its edges
abbrev pub OutlinesAreEnvelopes : Type 0
OutlinesAreEnvelopes = (w : Which) (g : Skeleton) → IsPlaneSkeleton g → IsAscending point_cmp g.vertices → IsEnvelope w g (IsOnAnEdge g) (outline w g)

-- that of the graph of a fit present is the envelope of its pieces
abbrev pub PiecesHaveEnvelopes : Type 0
PiecesHaveEnvelopes = (w : Which) (p : Present) → IsFit p → IsEnvelope w (skeleton (graph p)) (IsOnAPiece p) (outline w (skeleton (graph p)))
