-- Which dart of a border follows which.
use Rattle.std.specs.Prelude.{◌≡◌, ◌≢◌, ◌+◌, ◌<◌, ◌≤◌, ℕ, true, false, List, length, slice_index_or}
use Rattle.dart_orbits.specs.Walks.{ArePermuted}
use Rattle.exact_plane.specs.Point.{Point}
use Rattle.region_rings.specs.declared.spokes.Spoke.{Spoke}
use Rattle.polygon_sets.specs.ClosedBorders.{IsNextSide, dart_at}
use Rattle.region_rings.specs.Spokes.{spoke_in}

-- the vertex of the end at a place
abbrev pub vertex_at : List Spoke → ℕ → Point
vertex_at ss i = (spoke_in ss i).at

-- f is the first place of those with the vertex of the place i
pub record IsFirstAt (ss : List Spoke) (i f : ℕ) : Type 0 where
  pub upto : f ≤ i
  pub same : (k : ℕ) → f ≤ k → k ≤ i → vertex_at ss k ≡ vertex_at ss i
  pub first : (k : ℕ) → f ≡ k + 1 → vertex_at ss k ≢ vertex_at ss f

-- the end at j is met next, clockwise from the one at i: it stands beside it, or is the first of the vertex after the last
pub data IsFollower (ss : List Spoke) (i j : ℕ) : Type 0 where
  beside : j ≡ i + 1 → j < length ss → vertex_at ss j ≡ vertex_at ss i → IsFollower ss i j
  round : IsFirstAt ss i j → (i + 1 < length ss → vertex_at ss (i + 1) ≢ vertex_at ss i) → IsFollower ss i j

-- what is met next after the end at i goes out, along the dart k
pub record IsLinkFrom (ss : List Spoke) (i k : ℕ) : Type 0 where
  pub at : ℕ
  pub within : at < length ss
  pub follows : IsFollower ss i at
  pub out : (spoke_in ss at).is_out ≡ true
  pub dart : (spoke_in ss at).dart ≡ k

-- what is met next after the end at i comes in
pub record IsBlocked (ss : List Spoke) (i : ℕ) : Type 0 where
  pub at : ℕ
  pub within : at < length ss
  pub follows : IsFollower ss i at
  pub comes : (spoke_in ss at).is_out ≡ false

-- of each dart that comes in the one that follows
pub record AreLinked (ds : List (Point × Point)) (ss : List Spoke) (nexts : List ℕ) : Type 0 where
  pub counted : length nexts ≡ length ds
  pub each : (i : ℕ) → i < length ss → (spoke_in ss i).is_out ≡ false → IsLinkFrom ss i (slice_index_or nexts (spoke_in ss i).dart 0)

-- each dart is followed by one, which follows no other
pub record AreNexts (ds : List (Point × Point)) (nexts : List ℕ) : Type 0 where
  pub counted : length nexts ≡ length ds
  pub permuted : ArePermuted nexts
  pub rule : (k : ℕ) → k < length ds → IsNextSide ds (dart_at ds k) (dart_at ds (slice_index_or nexts k 0))
  pub apart : (j k : ℕ) → j < length ds → k < length ds → dart_at ds j ≡ dart_at ds k → j ≡ k
