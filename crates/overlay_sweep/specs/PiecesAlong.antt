-- The pieces that run along an edge.
use Rattle.std.specs.Prelude.{◌≡◌, ℕ, List}
use Rattle.plane_graphs.specs.Ascending.{Member}
use Rattle.sweep_graphs.specs.declared.edges.EdgeEnds.{EdgeEnds}
use Rattle.sweep_graphs.specs.declared.trace.Stretch.{Stretch}
use Rattle.sweep_graphs.specs.Edges.{ends_of}

-- one of the stretches runs along the edge
abbrev pub IsAlongSome : List Stretch → EdgeEnds → Type 0
IsAlongSome stretches e = (s : Stretch) × Member s stretches × (ends_of s ≡ e)

-- one of them is a stretch of this piece (Fogel, Halperin and Wein: overlapping subcurves make one edge)
abbrev pub IsPieceAlong : List Stretch → EdgeEnds → ℕ → Type 0
IsPieceAlong stretches e i = (s : Stretch) × Member s stretches × (ends_of s ≡ e) × (s.piece ≡ i)
