-- What an event makes of the status: the pieces through it go, those that go on or start there come, by their slopes.
use Rattle.std.specs.Prelude.{◌≡◌, ◌⊎◌, ◌↔◌, ◌+◌, ◌<◌, ◌++◌, ℕ, pos, ◌<ℤ◌, List, length}
use Rattle.std.specs.List.{splice}
use Rattle.std.specs.declared.cmp.Ordering.TheVariants.{Less}
use Rattle.exact_plane.specs.Line.{side_of, IsOn}
use Rattle.exact_plane.specs.Point.{Point}
use Rattle.exact_plane.specs.PointOrder.{point_cmp}
use Rattle.exact_plane.specs.Span.{Span}
use Rattle.plane_graphs.specs.Ascending.{Member, IsAscending}
use Rattle.sweep_events.specs.declared.exchange.Exchange.{Exchange}
use Rattle.sweep_events.specs.Places.{piece_at}
use Rattle.sweep_events.specs.Status.{run_cmp}

-- those below q, through q and above it
pub record IsSplit (piece : ℕ → Span) (q : Point) (low old high : List ℕ) : Type 0 where
  pub below : (i : ℕ) → Member i low → pos 0 <ℤ side_of (piece i).line q
  pub through : (i : ℕ) → Member i old → IsOn (piece i).line q
  pub above : (i : ℕ) → Member i high → side_of (piece i).line q <ℤ pos 0

-- those of the pieces through q that go on, and those that start there
abbrev pub IsRun : (ℕ → Span) → ℕ → Point → List ℕ → List ℕ → Type 0
IsRun piece n q old mid = (i : ℕ) → Member i mid ↔ ((Member i old × (point_cmp q (piece i).upper ≡ Less)) ⊎ ((i < n) × ((piece i).lower ≡ q)))

-- the status before the event and after it, and its two seams after it
pub record IsExchange (pieces : List Span) (q : Point) (before after : List ℕ) (first second : ℕ) : Type 0 where
  pub low : List ℕ
  pub old : List ℕ
  pub mid : List ℕ
  pub high : List ℕ
  pub before_is : before ≡ low ++ (old ++ high)
  pub after_is : after ≡ low ++ (mid ++ high)
  pub first_is : first ≡ length low
  pub second_is : second ≡ length low + length mid
  pub split : IsSplit (piece_at pieces) q low old high
  pub run : IsRun (piece_at pieces) (length pieces) q old mid
  pub sloped : IsAscending (run_cmp (piece_at pieces)) mid

-- the status with an exchange made, and a run brought by it
abbrev pub exchanged : List ℕ → Exchange → List ℕ → List ℕ
exchanged places t run = splice places t.low t.high run

-- the exchange is what the event at q makes of the status, and the run what comes
abbrev pub IsExchangeAt : List Span → Point → List ℕ → Exchange → List ℕ → Type 0
IsExchangeAt pieces q places t run = IsExchange pieces q places (exchanged places t run) t.low t.top
