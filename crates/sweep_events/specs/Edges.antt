-- The edges of the model's graph along which the pieces of a status run.
use Rattle.std.specs.Prelude.{◌≡◌, ◌↔◌, ◌<◌, ℕ, true, ◌&&◌, List, [], ◌∷◌, length, slice_index_or}
use Rattle.std.specs.List.{dedup, filter, flat_map}
use Rattle.exact_plane.specs.Span.{Span}
use Rattle.plane_graphs.specs.Ascending.{Member}
use Rattle.plane_graphs.specs.Graph.{Edge}
use Rattle.slab_laws.specs.Skeleton.{Skeleton, same_edge}
use Rattle.slab_laws.specs.Slabs.{spans, place}
use Rattle.present_graphs.specs.Spans.{lies_on}

-- the edges of a slab that a piece runs along: it holds both their ends
abbrev pub edges_along : Skeleton → ℕ → Span → List Edge
edges_along g i s = filter (λ e. spans g i e && (lies_on s e.low && lies_on s e.high)) g.edges

-- the edges that the pieces run along, in the order of the pieces, one that several in a row run along once
abbrev pub edges_of_places : Skeleton → ℕ → (ℕ → Span) → List ℕ → List Edge
edges_of_places g i piece places = dedup same_edge (flat_map (λ j. edges_along g i (piece j)) places)

-- all edges of the slab, from bottom to top: the k-th has place k (Fogel, Halperin and Wein: status order of the sweep)
pub record IsSlabFromBelow (g : Skeleton) (i : ℕ) (es : List Edge) : Type 0 where
  pub spanned : (e : Edge) → Member e es ↔ (Member e g.edges × (spans g i e ≡ true))
  pub placed : (k : ℕ) (d : Edge) → k < length es → place g i (slice_index_or es k d) ≡ k

-- each of the pieces runs along one edge of the slab, and together along all of them, in their order
pub record AreEdgesOfSlab (g : Skeleton) (i : ℕ) (piece : ℕ → Span) (places : List ℕ) : Type 0 where
  pub one_each : (j : ℕ) → Member j places → (e : Edge) × (edges_along g i (piece j) ≡ e ∷ [])
  pub from_below : IsSlabFromBelow g i (edges_of_places g i piece places)
