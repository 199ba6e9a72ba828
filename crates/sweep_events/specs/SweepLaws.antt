-- What a sweep has to do with the arrangement of its pieces, and with sweeps over some of them.
use Rattle.std.specs.Prelude.{◌≡◌, ◌↔◌, ◌+◌, ◌-◌, ℕ, List, map, length, not, nat_lt}
use Rattle.std.specs.List.{filter}
use Rattle.exact_plane.specs.Point.{Point, IsPoint}
use Rattle.exact_plane.specs.Span.{Span}
use Rattle.plane_graphs.specs.Ascending.{Member}
use Rattle.plane_graphs.specs.Fit.{IsFit}
use Rattle.plane_graphs.specs.Graph.{graph}
use Rattle.plane_graphs.specs.Meaning.{IsVertexOf}
use Rattle.plane_graphs.specs.Piece.{Present}
use Rattle.slab_laws.specs.Slabs.{slab_right}
use Rattle.slab_laws.specs.Text.{skeleton}
use Rattle.present_graphs.specs.Spans.{span_of_piece}
use Rattle.sweep_events.specs.Edges.{AreEdgesOfSlab}
use Rattle.sweep_events.specs.Events.{IsEvent}
use Rattle.sweep_events.specs.Places.{piece_at, AreSpans}
use Rattle.sweep_events.specs.Slab.{IsLastOfAbscissa, IsSlabList}
use Rattle.sweep_events.specs.Status.{IsStatus}

-- a sweep over the spans of a fit present has its vertices as events
abbrev pub EventsAreVertices : Type 0
EventsAreVertices = (p : Present) → IsFit p → AreSpans (map span_of_piece p.pieces) → (r : Point) → (IsEvent (piece_at (map span_of_piece p.pieces)) (length (map span_of_piece p.pieces)) p.pins r ↔ IsVertexOf p r)

-- the spans of a fit present, and its pins, are those of a sweep, which came to the last event of an abscissa
pub record IsSlabReached (p : Present) (q : Point) (places : List ℕ) : Type 0 where
  pub fit : IsFit p
  pub spans : AreSpans (map span_of_piece p.pieces)
  pub pins : (r : Point) → Member r p.pins → IsPoint r
  pub event : IsEvent (piece_at (map span_of_piece p.pieces)) (length (map span_of_piece p.pieces)) p.pins q
  pub final : IsLastOfAbscissa (piece_at (map span_of_piece p.pieces)) (length (map span_of_piece p.pieces)) p.pins q
  pub status : IsSlabList (piece_at (map span_of_piece p.pieces)) (length (map span_of_piece p.pieces)) p.pins q places

-- then the status is the model's list of the slab on the right: of its edges, each by the pieces that run along it
abbrev pub EdgesOfStatus : Type 0
EdgesOfStatus = (p : Present) (q : Point) (places : List ℕ) → IsSlabReached p q places → AreEdgesOfSlab (skeleton (graph p)) (slab_right (skeleton (graph p)) q) (piece_at (map span_of_piece p.pieces)) places

-- of one moment there is one status
abbrev pub StatusIsOne : Type 0
StatusIsOne = (piece : ℕ → Span) (n : ℕ) (p : Point) (xs ys : List ℕ) → IsStatus piece n p xs → IsStatus piece n p ys → xs ≡ ys

-- and what is in it of the first n pieces is the status of these alone, and what is in it of the k others that of these, by their own places
abbrev pub PartOfStatus : Type 0
PartOfStatus = (piece : ℕ → Span) (n k : ℕ) (p : Point) (xs : List ℕ) → IsStatus piece (n + k) p xs → IsStatus piece n p (filter (λ i. nat_lt i n) xs) × IsStatus (λ i. piece (n + i)) k p (map (λ i. i - n) (filter (λ i. not (nat_lt i n)) xs))
