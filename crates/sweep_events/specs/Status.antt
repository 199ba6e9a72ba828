-- The status of a sweep: the pieces that its front meets, from bottom to top.
use Rattle.std.specs.Prelude.{◌≡◌, ◌↔◌, ◌<◌, ℕ, List}
use Rattle.std.specs.Ordering.{nat_cmp, ordering_then}
use Rattle.std.specs.declared.cmp.Ordering.{Ordering}
use Rattle.std.specs.declared.cmp.Ordering.TheVariants.{Less}
use Rattle.exact_plane.specs.Point.{Point}
use Rattle.exact_plane.specs.PointOrder.{point_cmp}
use Rattle.exact_plane.specs.Slope.{slope_cmp}
use Rattle.exact_plane.specs.Span.{Span, IsAtMost}
use Rattle.plane_graphs.specs.Ascending.{Member, IsAscending}
use Rattle.sweep_events.specs.Front.{after_cmp, before_cmp}

-- the piece is met just after p: it begins at p or before, and ends beyond (this project)
pub record IsMet (p : Point) (s : Span) : Type 0 where
  pub begun : IsAtMost s.lower p
  pub unended : point_cmp p s.upper ≡ Less

-- pieces by place, just after p; pieces of one line go by place (this project)
abbrev pub status_cmp : (piece : ℕ → Span) (p : Point) (i j : ℕ) → Ordering
status_cmp piece p i j = ordering_then (after_cmp p (piece i).line (piece j).line) (nat_cmp i j)

-- and just before q
abbrev pub waiting_cmp : (piece : ℕ → Span) (q : Point) → ℕ → ℕ → Ordering
waiting_cmp piece q i j = ordering_then (before_cmp q (piece i).line (piece j).line) (nat_cmp i j)

-- the first n pieces that the front meets just before q, in that order: they begin before q, and end at q or beyond
pub record IsWaiting (piece : ℕ → Span) (n : ℕ) (q : Point) (places : List ℕ) : Type 0 where
  pub met : (i : ℕ) → Member i places ↔ ((i < n) × (point_cmp (piece i).lower q ≡ Less) × IsAtMost q (piece i).upper)
  pub ascends : IsAscending (waiting_cmp piece q) places

-- the first n pieces that are met just after p, from bottom to top, pieces of one line side by side in order of place (Fogel, Halperin and Wein: status line)
pub record IsStatus (piece : ℕ → Span) (n : ℕ) (p : Point) (places : List ℕ) : Type 0 where
  pub met : (i : ℕ) → Member i places ↔ ((i < n) × IsMet p (piece i))
  pub ascends : IsAscending (status_cmp piece p) places

-- pieces through one point, by their slopes; those of one slope by place
abbrev pub run_cmp : (ℕ → Span) → ℕ → ℕ → Ordering
run_cmp piece i j = ordering_then (slope_cmp (piece i).line (piece j).line) (nat_cmp i j)
