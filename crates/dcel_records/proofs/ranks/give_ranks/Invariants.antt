use Rattle.std.proofs.Common.{◌≡◌, ◌≢◌, take}
use Rattle.std.specs.List.{AllByRecursion, IsDistinct}
use Rattle.slab_laws.specs.View.{face_id}
use Rattle.dcel_records.specs.RankOrders.{AreRanked}
use Rattle.dcel_records.specs.StoredRows.{rank_at, IsReranked}
use Rattle.dcel_records.proofs.Ranked.{same_face}
use Rattle.dcel_records.proofs.ranks.give_ranks.Given as goal

abbrev pub invariant-loop-place : goal.invariant-loop-place
invariant-loop-place l = record {
  kept : IsReranked l.fn.faces l.faces;
  zero : AllByRecursion (λ k. k.face ≢ face_id 0) l.order → rank_at l.faces (face_id 0) ≡ 0;
  ranked : IsDistinct same_face l.order → AreRanked (rank_at l.faces) 1 (take l.place l.order);
}
