-- The rank of a face that is told by its name, and that location answers it.
use Rattle.std.specs.Prelude.{◌≡◌, ⊤, ℕ, ◌+◌, ◌==◌, List, Option, None, Some, find}
use Rattle.std.specs.List.{count_by, position_or_len}
use Rattle.std.specs.Ordering.{is_lt}
use Rattle.exact_plane.specs.Point.{Point}
use Rattle.plane_graphs.specs.Line.{IsProper}
use Rattle.slab_laws.specs.declared.cell.Cell.TheVariants.{Face}
use Rattle.slab_laws.specs.declared.names.FaceId.{FaceId}
use Rattle.slab_laws.specs.FacesSound.{IsSound}
use Rattle.slab_laws.specs.Sound.{skeleton_of}
use Rattle.slab_laws.specs.Subdivision.{subdivision, holds}
use Rattle.slab_laws.specs.View.{View, Faces, HasFace}
use Rattle.sound_views.specs.Orders.{dart_order}
use Rattle.record_orders.specs.CycleKeys.{same_face, cycle_keys, ranked_faces}
use Rattle.face_steps.specs.VertexSteps.{IsFaceRound}
use Rattle.dcel_records.specs.declared.ranks.RankKey.{RankKey}
use Rattle.dcel_records.specs.RankOrders.{key_cmp}
use Rattle.dcel_records.specs.RecordsView.{RecordsView, rank_given, tables_of}
use Rattle.dcel_records.specs.Spots.{IsInFace}
use Rattle.face_ranks.specs.OuterKeys.{AreKeysListed}
use Rattle.face_ranks.specs.declared.order.Ranking.{Ranking}
use Rattle.face_ranks.specs.declared.order.Ranking.TheVariants.{Unknown, Listed, Given}

-- the place of a face among those by rank: the unbounded one, then the others in the order of their outer cycles (this project)
unfoldable pub rank_in : View → Faces → FaceId → ℕ
rank_in v f a = position_or_len (same_face a) (ranked_faces f (cycle_keys f (dart_order v)))

-- how many keys come before one of them, by source and then by target, and one more; 0 without one
abbrev pub place_from_one : List RankKey → Option RankKey → ℕ
place_from_one ks None = 0
place_from_one ks (Some k) = 1 + count_by (λ m. is_lt (key_cmp m k)) ks

-- how many keys come before that of a face, and one more; 0 where none is of it (this project)
abbrev pub rank_among : List RankKey → FaceId → ℕ
rank_among ks a = place_from_one ks (find (λ k. a.0 == k.face.0) ks)

-- each face was given its rank (this project)
abbrev pub AreRanksGiven : RecordsView → Type 0
AreRanksGiven h = (a : FaceId) → HasFace (tables_of h) a → rank_given h a ≡ rank_in h.graph (tables_of h) a

-- where the keys are said to be listed, they are; where the faces are said to be ranked, each was given its rank (this project)
abbrev pub AreRankedAs : Ranking → RecordsView → Type 0
AreRankedAs Unknown h = ⊤
AreRankedAs Listed h = AreKeysListed h
AreRankedAs Given h = AreRanksGiven h

-- a point on no vertex and no edge lies in the face of the rank that the name of its face has (CGAL manual, point location)
abbrev pub FaceIsLocated : Type 0
FaceIsLocated =
    (v : View) (f : Faces) (p : Point) (a : FaceId) → IsSound v f → IsProper p → IsInFace v p → IsFaceRound v f a p → holds (subdivision (skeleton_of v)) p ≡ Face (rank_in v f a)
