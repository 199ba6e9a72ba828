-- The edge directly below each vertex, by the open stretch that was told there.
use Rattle.std.specs.Prelude.{◌≡◌, ◌<◌, ℕ, Bool, ◌&&◌, List, length, slice_index_or, Option, None, Some}
use lib.Dec.{eqb}
use Rattle.plane_graphs.specs.Ascending.{Member}
use Rattle.sweep_graphs.specs.declared.edges.EdgeEnds.{EdgeEnds}
use Rattle.sweep_graphs.specs.declared.trace.OpenStretch.{OpenStretch}
use Rattle.sweep_graphs.specs.declared.trace.Stretch.{Stretch}
use Rattle.sweep_graphs.specs.declared.trace.Trace.{Trace}
use Rattle.sweep_graphs.specs.Edges.{ends_of}

-- it is the stretch that was told while it was open
abbrev pub IsOpened : OpenStretch → Stretch → Type 0
IsOpened o s = (s.low ≡ o.low) × (s.piece ≡ o.piece)

-- whether it is
abbrev pub was_open : OpenStretch → Stretch → Bool
was_open o s = eqb s.low o.low && eqb s.piece o.piece

-- where a stretch of the list was told as o, the result is the edge of one that was
abbrev pub IsEdgeOfOpen : List Stretch → OpenStretch → Option EdgeEnds → Type 0
IsEdgeOfOpen ss o r = (s : Stretch) → Member s ss → IsOpened o s → (u : Stretch) × Member u ss × IsOpened o u × (r ≡ Some (ends_of u))

-- the same of a vertex, below which there may be none
abbrev pub IsEdgeUnder : List Stretch → Option OpenStretch → Option EdgeEnds → Type 0
IsEdgeUnder ss None r = r ≡ None
IsEdgeUnder ss (Some o) r = IsEdgeOfOpen ss o r

-- what is told below a vertex is one of the stretches
abbrev pub AreClosed : Trace → Type 0
AreClosed t = (k : ℕ) (o : OpenStretch) → k < length t.below → slice_index_or t.below k None ≡ Some o → (s : Stretch) × Member s t.stretches × IsOpened o s

-- of each vertex the edge of the stretch below it, if there is one
pub record AreEdgesUnder (t : Trace) (es : List (Option EdgeEnds)) : Type 0 where
  pub counted : length es ≡ length t.below
  pub nothing : (k : ℕ) → k < length t.below → slice_index_or t.below k None ≡ None → slice_index_or es k None ≡ None
  pub something : (k : ℕ) (o : OpenStretch) → k < length t.below → slice_index_or t.below k None ≡ Some o → (s : Stretch) × Member s t.stretches × IsOpened o s × (slice_index_or es k None ≡ Some (ends_of s))
