-- Faces in order, and the ranks that they are given.
use Rattle.std.specs.Prelude.{◌≡◌, ℕ, ◌+◌, ⊤, false, List, [], ◌∷◌}
use Rattle.std.specs.List.{AllByRecursion}
use Rattle.std.specs.Ordering.{is_lt, ordering_then}
use Rattle.std.specs.declared.cmp.Ordering.{Ordering}
use Rattle.exact_plane.specs.PointOrder.{point_cmp}
use Rattle.slab_laws.specs.declared.names.FaceId.{FaceId}
use Rattle.dcel_records.specs.declared.ranks.RankKey.{RankKey}

-- by source, then by target
abbrev pub key_cmp : RankKey → RankKey → Ordering
key_cmp a b = ordering_then (point_cmp a.source b.source) (point_cmp a.target b.target)

-- none comes before one that stands before it
unfoldable pub AreInKeyOrder : List RankKey → Type 0
AreInKeyOrder [] = ⊤
AreInKeyOrder (k ∷ ks) = AllByRecursion (λ m. is_lt (key_cmp m k) ≡ false) ks × AreInKeyOrder ks

-- the faces have the numbers from one on
unfoldable pub AreRanked : (FaceId → ℕ) → ℕ → List RankKey → Type 0
AreRanked rank n [] = ⊤
AreRanked rank n (k ∷ ks) = (rank k.face ≡ n) × AreRanked rank (n + 1) ks
