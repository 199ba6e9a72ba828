-- What going round a vertex meets.
use Rattle.std.specs.Prelude.{◌≡◌, ℕ, ◌≤◌, [], length, false}
use Rattle.std.specs.List.{Contains}
use Rattle.std.specs.Ordering.{is_lt}
use Rattle.exact_plane.specs.Point.{Point}
use Rattle.exact_plane.specs.PointOrder.{point_cmp}
use Rattle.slab_laws.specs.Skeleton.{Skeleton, IsPlaneSkeleton}
use Rattle.slab_laws.specs.Darts.{Dart, source, target, darts}
use Rattle.slab_laws.specs.Rotation.{rotation}
use Rattle.slab_laws.specs.Subdivision.{has_dart}
use Rattle.sound_views.specs.VertexRounds.{round}

-- no dart out of d's source has a target that comes before d's
abbrev pub HasLeastTarget : Skeleton → Dart → Type 0
HasLeastTarget g d = (e : Dart) → Contains (darts g) e → source e ≡ source d → is_lt (point_cmp (target e) (target d)) ≡ false

-- from the dart with the least target on, going round a vertex meets its darts in the order in which a text writes them
abbrev pub RoundIsRotation : Type 0
RoundIsRotation =
    (g : Skeleton) (d : Dart) (n : ℕ) → IsPlaneSkeleton g → Contains (darts g) d → HasLeastTarget g d → length (darts g) ≤ n → round (darts g) n d d ≡ rotation (darts g) (source d)

-- where no edge ends there is nothing to write
abbrev pub NoneRound : Type 0
NoneRound = (g : Skeleton) (p : Point) → IsPlaneSkeleton g → has_dart g p ≡ false → rotation (darts g) p ≡ []
