-- All events in a list, and how many are to come: what a loop over a sweep's events goes down by.
use Rattle.std.specs.Prelude.{ℕ, zero, suc, pos, Bool, true, List, [], ◌∷◌, ◌++◌, length, Option, None, Some}
use Rattle.std.specs.List.{count_by}
use Rattle.std.specs.Ordering.{int_cmp, is_lt}
use Rattle.std.specs.declared.cmp.Ordering.{Ordering}
use Rattle.std.specs.declared.cmp.Ordering.TheVariants.{Less, Equal, Greater}
use Rattle.exact_plane.specs.declared.meets.Meet.{Meet}
use Rattle.exact_plane.specs.declared.meets.Meet.TheVariants.{Apart, At, Along}
use Rattle.exact_plane.specs.MeetOf.{weight_of, crossing_meet}
use Rattle.exact_plane.specs.Point.{Point}
use Rattle.exact_plane.specs.PointOrder.{point_cmp}
use Rattle.exact_plane.specs.Span.{Span}
use Rattle.sweep_events.specs.Places.{piece_at}
use Rattle.sweep_events.specs.Sweep.{Swept}

-- the lists of all numbers below n, one after the other
unfoldable pub joined : (ℕ → List Point) → ℕ → List Point
joined f zero = []
joined f (suc n) = f n ++ joined f n

-- the point of a meeting
unfoldable pub points_of : Meet → List Point
points_of Apart = []
points_of (At r) = r ∷ []
points_of (Along p q) = []

unfoldable pub common_by : Ordering → Span → Span → List Point
common_by Less s t = points_of (crossing_meet t s)
common_by Equal s t = []
common_by Greater s t = points_of (crossing_meet s t)

-- the common point of two pieces of different lines
unfoldable pub common : Span → Span → List Point
common s t = common_by (int_cmp (weight_of s.line t.line) (pos 0)) s t

module _ (piece : ℕ → Span) (n : ℕ) (pins : List Point) where
  unfoldable pub ends_at : ℕ → List Point
  ends_at i = (piece i).lower ∷ (piece i).upper ∷ []

  unfoldable pub meetings_at : ℕ → List Point
  meetings_at i = joined (λ j. common (piece i) (piece j)) n

  -- all events, some of them more than once
  unfoldable pub all_events : List Point
  all_events = joined ends_at n ++ (pins ++ joined meetings_at n)

-- whether r comes after what was last, if anything was
abbrev pub is_beyond : Option Point → Point → Bool
is_beyond None r = true
is_beyond (Some p) r = is_lt (point_cmp p r)

-- how many of them are to come
unfoldable pub events_left : Swept → ℕ
events_left s = count_by (is_beyond s.last) (all_events (piece_at s.pieces) (length s.pieces) s.pins)
