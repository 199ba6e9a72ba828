-- The pieces of a layer that run along an edge of the whole.
use Rattle.std.specs.Prelude.{◌≡◌, ◌+◌, ◌<◌, ℕ, List, Option, None, Some}
use Rattle.sweep_graphs.specs.declared.edges.EdgeEnds.{EdgeEnds}
use Rattle.sweep_graphs.specs.declared.trace.Stretch.{Stretch}
use Rattle.sweep_graphs.specs.Edges.{ends_of}
use Rattle.overlay_sweep.specs.PiecesAlong.{IsPieceAlong}

-- where the stretch runs along the edge and is of one of the `count` pieces from `first` on, the place of its piece among these
abbrev pub IsPlaceOfOwn : ℕ → ℕ → EdgeEnds → Stretch → Option ℕ → Type 0
IsPlaceOfOwn first count e s None = (i : ℕ) → i < count → ends_of s ≡ e → s.piece ≡ first + i → ⊥
IsPlaceOfOwn first count e s (Some i) = (i < count) × (ends_of s ≡ e) × (s.piece ≡ first + i)

-- the place among them of one that runs along the edge, if any does
abbrev pub IsOwnAlong : ℕ → ℕ → List Stretch → EdgeEnds → Option ℕ → Type 0
IsOwnAlong first count stretches e None = (i : ℕ) → i < count → IsPieceAlong stretches e (first + i) → ⊥
IsOwnAlong first count stretches e (Some i) = (i < count) × IsPieceAlong stretches e (first + i)
