use Rattle.std.proofs.Common.{◌≢◌, List, ap, sym, subst, ◌∙◌, arith}
use Rattle.std.specs.List.{AllByRecursion, IsDistinct}
use Rattle.std.proofs.lemmas.Map.Keys.{IsDistinct-IsPermutation}
use Rattle.slab.specs.Slab.{ContainsKey}
use Rattle.slab_laws.specs.View.{HasFace, face_id}
use Rattle.dcel_records.specs.declared.ranks.RankKey.{RankKey}
use Rattle.dcel_records.specs.RankOrders.{AreRanked}
use Rattle.dcel_records.specs.StoredRows.{rank_at}
use Rattle.dcel_records.proofs.Ranked.{all_permuted, sorted_keys, same_face, face_flips, rank_seen, ranked_seen}
use Rattle.dcel_records.proofs.Relinked.{face_key}
use Rattle.dcel_records.proofs.Reranked.{reranked_sound, reranked_faces}
use Rattle.dcel_records.proofs.records.Records.rank_in_order.Goals as goal

pub give_ranks-requires-clause-unbounded : goal.give_ranks-requires-clause-unbounded
give_ranks-requires-clause-unbounded c = c.self.invariant.faces.unbounded

pub give_ranks-requires-clause-keys : goal.give_ranks-requires-clause-keys
give_ranks-requires-clause-keys c =
    let had = subst (AllByRecursion (λ k. HasFace c.args.self.now.faces.tables k.face)) (sym (ap (λ v. v.ranks.order) c.self.view_is)) c.requires in
    subst (AllByRecursion (λ (k : RankKey). ContainsKey c.self.inside.faces k.face.0)) (sym c.deref.ensures.value)
    (all_permuted _ _ c.self.inside.order.items c.sort_unstable.new.self.items c.sort_unstable.ensures.permutation (λ k h. face_key c.self.inside _ c.self.view_is k.face h) had)

pub invariant_of-self : goal.invariant_of-self
invariant_of-self c = record {
  graph = c.self.invariant.graph;
  faces = reranked_sound c.self.inside c.give_ranks.new.faces c.give_ranks.ensures.kept _ c.self.view_is c.self.invariant.faces;
  vertex_room = c.self.invariant.vertex_room;
  cycle_room = c.self.invariant.cycle_room;
  on_cycles = c.self.invariant.on_cycles;
  marked = c.self.invariant.marked;
  moved = c.self.invariant.moved;
  isolated = c.self.invariant.isolated;
  keys = let k = c.self.invariant.keys in let e = c.sort_unstable.ensures.capacity in omega arith;
}

pub returns-clause-ordered : goal.returns-clause-ordered
returns-clause-ordered c = sorted_keys c.sort_unstable.new.self.items c.sort_unstable.ensures.sorted

pub returns-clause-ranked : goal.returns-clause-ranked
returns-clause-ranked c d =
    let had = subst (IsDistinct same_face) (sym (ap (λ v. v.ranks.order) c.self.view_is)) d in
    let has = IsDistinct-IsPermutation same_face face_flips c.self.inside.order.items c.sort_unstable.new.self.items c.sort_unstable.ensures.permutation had in
    ranked_seen c.give_ranks.new.faces 1 c.sort_unstable.new.self.items
    (subst (λ (ks : List RankKey). AreRanked (rank_at c.give_ranks.new.faces) 1 ks) c.deref.ensures.value (c.give_ranks.ensures.ranked (subst (IsDistinct same_face) (sym c.deref.ensures.value) has)))

pub returns-clause-faces : goal.returns-clause-faces
returns-clause-faces c = reranked_faces c.self.inside c.give_ranks.new.faces c.give_ranks.ensures.kept _ c.self.view_is c.self.invariant.faces

pub returns-clause-unbounded : goal.returns-clause-unbounded
returns-clause-unbounded c d =
    let had = subst (AllByRecursion (λ (k : RankKey). k.face ≢ face_id 0)) (sym (ap (λ v. v.ranks.order) c.self.view_is)) d in
    let has = all_permuted _ _ c.self.inside.order.items c.sort_unstable.new.self.items c.sort_unstable.ensures.permutation (λ k h. h) had in
    rank_seen c.give_ranks.new.faces (face_id 0) ∙ c.give_ranks.ensures.unbounded (subst (AllByRecursion (λ (k : RankKey). k.face ≢ face_id 0)) (sym c.deref.ensures.value) has)
