-- Tables of the ranks of faces, by the names of these.
use Rattle.std.specs.Prelude.{◌≡◌, ◌≢◌, ℕ, List}
use Rattle.std.specs.List.{AllByRecursion, slice_index_or}
use Rattle.std.specs.List.Sorted.{IsPermutation}
use Rattle.slab_laws.specs.declared.names.FaceId.{FaceId}
use Rattle.slab_laws.specs.View.{HasFace}
use Rattle.dcel_records.specs.declared.ranks.RankKey.{RankKey}
use Rattle.dcel_records.specs.RankOrders.{AreInKeyOrder, AreRanked}
use Rattle.dcel_records.specs.RecordsView.{RecordsView, tables_of}
use Rattle.face_ranks.specs.declared.order.Ranking.{Ranking}
use Rattle.face_ranks.specs.declared.order.Ranking.TheVariants.{Unknown, Listed, Given}
use Rattle.face_ranks.specs.Ranks.{rank_in, AreRanksGiven}

-- what the table has at the name of a face; 0 past its end
abbrev pub at_name : List ℕ → FaceId → ℕ
at_name rs a = slice_index_or rs a.0 0

-- the table has the places of the keys at the names of their faces, from 1 on, and 0 at others (this project)
pub record HasPlaces (ks : List RankKey) (rs : List ℕ) : Type 0 where
  pub ranked : AreRanked (at_name rs) 1 ks
  pub others : (a : FaceId) → AllByRecursion (λ k. k.face ≢ a) ks → at_name rs a ≡ 0

-- those of the keys put in order (this project)
pub record AreRankedByKeys (ks : List RankKey) (rs : List ℕ) : Type 0 where
  pub order : List RankKey
  pub keys : IsPermutation ks order
  pub ordered : AreInKeyOrder order
  pub places : HasPlaces order rs

-- the table has the rank of each face at its name (this project)
abbrev pub AreRanksListed : RecordsView → List ℕ → Type 0
AreRanksListed h rs = (a : FaceId) → HasFace (tables_of h) a → at_name rs a ≡ rank_in h.graph (tables_of h) a

-- each face was given its rank, where that is said, and else the table has it (this project)
abbrev pub AreRanksFound : Ranking → RecordsView → List ℕ → Type 0
AreRanksFound Unknown h rs = AreRanksListed h rs
AreRanksFound Listed h rs = AreRanksListed h rs
AreRanksFound Given h rs = AreRanksGiven h
