-- The vertices of an envelope, told by the ends of edges in their order and by the outermost edge of each slab.
use Rattle.std.specs.Prelude.{◌≡◌, ◌↔◌, ◌+◌, ◌-◌, ◌<◌, ◌==◌, ◌||◌, ◌&&◌, ℕ, zero, suc, pos, Bool, not, cond, List, [], ◌∷◌, ◌++◌, map, length, slice_index_or, Option, Some, None}
use Rattle.std.specs.List.{Contains}
use Rattle.std.specs.Option.{option_map}
use Rattle.exact_plane.specs.Point.{Point}
use Rattle.exact_plane.specs.PointOrder.{point_cmp}
use Rattle.exact_plane.specs.Span.{Span}
use Rattle.exact_plane.specs.WholeParts.{whole_parts}
use Rattle.plane_graphs.specs.Ascending.{Member, IsAscending}
use Rattle.plane_graphs.specs.Graph.{Edge}
use Rattle.slab_laws.specs.declared.names.DartId.{DartId}
use Rattle.slab_laws.specs.declared.names.VertexId.{VertexId}
use Rattle.slab_laws.specs.Skeleton.{Skeleton, on_wall}
use Rattle.slab_laws.specs.Slabs.{slab_right}
use Rattle.slab_laws.specs.Sound.{skeleton_of, edge_in}
use Rattle.slab_laws.specs.SpansDrawn.{edge_of}
use Rattle.slab_laws.specs.View.{View, Faces, dart_id, vertex_id, HasVertex, point_in, source_in}
use Rattle.arr_notes.specs.Curves.{IsForward}
use Rattle.envelope_laws.specs.declared.which.Which.{Which}
use Rattle.envelope_laws.specs.declared.which.Which.TheVariants.{Lower, Upper}
use Rattle.envelope_laws.specs.Envelopes.{outline}
use Rattle.envelope_laws.specs.Outermost.{IsOutermostOf, hides}
use Rattle.record_orders.specs.declared.vertices.VertexKey.{VertexKey}
use Rattle.record_orders.specs.Keys.{vertex_key}
use Rattle.lower_envelope.specs.declared.boundary.EndKey.{EndKey}
use Rattle.lower_envelope.specs.declared.corner.Corner.{Corner}
use Rattle.lower_envelope.specs.declared.corner.Envelope.{Envelope}
use Rattle.lower_envelope.specs.declared.slab_edges.SlabEdges.{SlabEdges}
use Rattle.lower_envelope.specs.Slabs.{span_at, ArePlaces}
use Rattle.lower_envelope.specs.Edges.{slab_right_of, AreOffered, IsInOrder, IsOuterDart}

-- the edge at a place, if there is one
abbrev pub edge_at : List Span → Option ℕ → Option Edge
edge_at edges None = None
edge_at edges (Some k) = Some (edge_of (span_at edges k))

abbrev pub dart_at : List DartId → Option ℕ → Option DartId
dart_at darts None = None
dart_at darts (Some k) = Some (slice_index_or darts k (dart_id 0))

-- the source of a dart, with its point
abbrev pub source_key : View → DartId → VertexKey
source_key v d = vertex_key v (source_in v d)

-- it, and before it the whole part of its abscissa
abbrev pub end_key : View → DartId → EndKey
end_key v d = record { whole = (whole_parts (source_key v d).point).x; vertex = source_key v d }

-- the vertices on the boundaries of the unbounded face, in the order of their points, each once
pub record AreOuterEnds (v : View) (f : Faces) (ks : List VertexKey) : Type 0 where
  pub ascend : IsAscending point_cmp (map (λ k. k.point) ks)
  pub just : (k : VertexKey) → Member k ks ↔ ((d : DartId) × IsOuterDart v f d × (k ≡ source_key v d))

abbrev pub key_at : List VertexKey → ℕ → VertexKey
key_at ends k = slice_index_or ends k (record { point = record { x = pos 0; y = pos 0; w = pos 0 }; name = vertex_id 0 })

-- no end before it, or after it, is on its wall
abbrev pub is_outer : Which → List VertexKey → ℕ → Bool
is_outer Lower ends k = (k == 0) || not (on_wall (key_at ends (k - 1)).point (key_at ends k).point)
is_outer Upper ends k = (k + 1 == length ends) || not (on_wall (key_at ends k).point (key_at ends (k + 1)).point)

-- what the slab on the right of the point's wall has
abbrev pub stands_right : List Point → List (Option ℕ) → Point → Option ℕ
stands_right points slabs p = slice_index_or slabs (slab_right_of points p) None

abbrev pub corner_of : List Point → List DartId → List (Option ℕ) → VertexKey → Corner
corner_of points darts slabs k = record { vertex = k.name; edge = dart_at darts (stands_right points slabs k.point) }

-- a list without its last element
unfoldable pub all_but_last : {X : Type 0} → List X → List X
all_but_last [] = []
all_but_last (x ∷ []) = []
all_but_last (x ∷ y ∷ ys) = x ∷ all_but_last (y ∷ ys)

-- on the right of each vertex stands the outermost edge there
pub record AreSlabsOf (w : Which) (g : Skeleton) (points : List Point) (edges : List Span) (slabs : List (Option ℕ)) : Type 0 where
  pub outermost : (v : Point) → Contains g.vertices v → IsOutermostOf w g (slab_right g v) (edge_at edges (stands_right points slabs v))
  pub places : (i a : ℕ) → slice_index_or slabs i None ≡ Some a → a < length edges

-- ---- the edges of slabs, as they are kept
-- the points are in their order, each edge has a dart, and what stands for slabs are places of edges
pub record AreFitted (s : SlabEdges) : Type 0 where
  pub order : IsInOrder s.points.items
  pub paired : length s.darts.items ≡ length s.edges.items
  pub places : ArePlaces s.edges.items s.outermost.items

-- those of a view, by some of its vertices: their points, the edges on offer, and of each slab the outermost
pub record AreSlabEdgesOf (w : Which) (v : View) (f : Faces) (ks : List VertexKey) (s : SlabEdges) : Type 0 where
  pub points : s.points.items ≡ map (λ k. k.point) ks
  pub darts : AreOffered w v f s.darts.items
  pub edges : map edge_of s.edges.items ≡ map (edge_in v) s.darts.items
  pub slabs : AreSlabsOf w (skeleton_of v) s.points.items s.edges.items s.outermost.items

-- the end at a place is the outermost of its wall, and what stands on its right doesn't pass further out
abbrev pub is_seen : Which → List VertexKey → List Point → List Span → List (Option ℕ) → ℕ → Bool
is_seen w ends points edges slabs k = is_outer w ends k && not (hides w (edge_at edges (stands_right points slabs (key_at ends k).point)) (key_at ends k).point)

-- it with the edge on its right, if it is
abbrev pub corner_at : Which → List VertexKey → SlabEdges → ℕ → Option Corner
corner_at w ends s k = cond (is_seen w ends s.points.items s.edges.items s.outermost.items k) (Some (corner_of s.points.items s.darts.items s.outermost.items (key_at ends k))) None

-- what is there
abbrev pub one_or_none : Option Corner → List Corner
one_or_none None = []
one_or_none (Some c) = c ∷ []

-- those at the first n places
unfoldable pub corners_upto : (ℕ → Option Corner) → ℕ → List Corner
corners_upto f zero = []
corners_upto f (suc n) = corners_upto f n ++ one_or_none (f n)

-- names of vertices and of forward darts, whose points and edges are the outline (CGAL manual, envelope diagram)
pub record IsEnvelopeOf (w : Which) (v : View) (e : Envelope) : Type 0 where
  pub have : (u : VertexId) → Member u e.vertices → HasVertex v u
  pub vertices : map (point_in v) e.vertices ≡ (outline w (skeleton_of v)).vertices
  pub forward : (d : DartId) → Member (Some d) e.between → IsForward v d
  pub between : map (option_map (edge_in v)) e.between ≡ (outline w (skeleton_of v)).between
