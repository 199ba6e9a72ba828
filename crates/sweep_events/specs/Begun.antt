-- The pieces that have begun, and what is to come: the points of a queue, and the lower ends of the pieces that haven't.
use Rattle.std.specs.Prelude.{◌≡◌, ◌≤◌, ◌++◌, ℕ, true, false, List, length, map, take, drop, Option, None, Some}
use Rattle.std.specs.List.Sorted.{IsPartitionPoint}
use Rattle.std.specs.Ordering.{is_lt}
use Rattle.std.specs.declared.cmp.Ordering.TheVariants.{Less}
use Rattle.exact_plane.specs.Point.{Point}
use Rattle.exact_plane.specs.PointOrder.{point_cmp}
use Rattle.exact_plane.specs.Span.{IsAtMost}
use Rattle.plane_graphs.specs.Ascending.{Member}
use Rattle.sweep_events.specs.declared.places.Start.{Start}

-- the points of a queue, and the lower ends of all pieces but the first n
abbrev pub queue_of : List Point → List Start → ℕ → List Point
queue_of keys starts n = keys ++ map (λ (s : Start). s.lower) (drop n starts)

-- q is the first of the points
pub record IsFirstOf (q : Point) (points : List Point) : Type 0 where
  pub there : Member q points
  pub first : (r : Point) → Member r points → IsAtMost q r

-- what comes after q stays, and nothing else does
pub record IsPassed (q : Point) (old new : List Point) : Type 0 where
  pub kept : (r : Point) → Member r old → point_cmp q r ≡ Less → Member r new
  pub comes : (r : Point) → Member r new → Member r old × (point_cmp q r ≡ Less)

-- the first n of the starts are no later than what was last; none are, where nothing was
abbrev pub AreBegun : Option Point → List Start → ℕ → Type 0
AreBegun None starts n = n ≡ 0
AreBegun (Some p) starts n = (n ≤ length starts) × ((s : Start) → Member s (take n starts) → IsAtMost s.lower p)

-- the first n of the starts are those before q
abbrev pub IsCutBefore : List Start → Point → ℕ → Type 0
IsCutBefore starts q n = (n ≤ length starts) × IsPartitionPoint (λ (s : Start). is_lt (point_cmp s.lower q) ≡ true) (λ (s : Start). is_lt (point_cmp s.lower q) ≡ false) starts n
