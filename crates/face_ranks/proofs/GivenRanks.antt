-- What is told of records with one graph and one list of faces; and the ranks that the keys in order give.
use Rattle.std.proofs.Common.{◌≡◌, ◌≢◌, ◌<◌, arith, sym, ap, ◌∙◌, subst, ◌⊎◌, inl, inr, List}
use Rattle.std.specs.List.{AllByRecursion, IsDistinct}
use Rattle.std.specs.List.Sorted.{IsPermutation}
use Rattle.plane_graphs.proofs.Ascending.{to_member}
use Rattle.slab_laws.specs.declared.names.FaceId.{FaceId}
use Rattle.slab_laws.specs.FaceLists.{AreDartsOn}
use Rattle.slab_laws.specs.FacesSound.{IsSound}
use Rattle.slab_laws.specs.View.{View, HasFace, face_id}
use Rattle.dcel_records.specs.declared.ranks.RankKey.{RankKey}
use Rattle.dcel_records.specs.RankOrders.{AreInKeyOrder, AreRanked}
use Rattle.dcel_records.specs.RecordsView.{RecordsView, FacesView, graph_part, tables_of, lists_of, lists_in_view, rank_given}
use Rattle.dcel_records.specs.SoundMaps.{IsSoundMap}
use Rattle.face_ranks.specs.OuterKeys.{outer_keys}
use Rattle.face_ranks.specs.Ranks.{rank_in, AreRanksGiven}
use Rattle.face_ranks.proofs.KeysRanked.{same_key_face, keys_apart, keys_have, ranks_given, no_key_first}
use Rattle.face_ranks.proofs.RankOrder.{rank_unbounded, lead_on}
use Rattle.face_changes.proofs.FacesByPairs.{by_number}
use Rattle.face_ranks.proofs.RankedOuter.{first, first_least, Bound, bound}
use Rattle.face_ranks.proofs.RankedOuter.Bound.{unbounded, bounded}

-- ---- records with one graph and the same faces
module _ (h k : RecordsView) (graph : graph_part k ≡ graph_part h) (faces : k.faces ≡ h.faces) where
  pub same_map : IsSoundMap h → IsSoundMap k
  same_map m = record {
    sound = subst (λ (v : View). IsSound v k.faces.tables) (sym (λ i. (graph i).graph)) (subst (λ (f : FacesView). IsSound h.graph f.tables) (sym faces) m.sound);
    darts = subst (λ (v : View). AreDartsOn v k.faces.tables (lists_in_view k.faces)) (sym (λ i. (graph i).graph)) (subst (λ (f : FacesView). AreDartsOn h.graph f.tables (lists_in_view f)) (sym faces) m.darts);
  }

  pub same_keys : outer_keys k.graph (tables_of k) (lists_of k) ≡ outer_keys h.graph (tables_of h) (lists_of h)
  same_keys = λ i. outer_keys (graph i).graph (faces i).tables (lists_in_view (faces i))

-- ---- the ranks
module _ (h : RecordsView) (m : IsSoundMap h) (order : List RankKey) (is : order ≡ outer_keys h.graph (tables_of h) (lists_of h)) where
  pub keys_have_faces : AllByRecursion (λ k. HasFace (tables_of h) k.face) order
  keys_have_faces = subst (AllByRecursion (λ k. HasFace (tables_of h) k.face)) (sym is) (keys_have h.graph (tables_of h) (lists_of h) m.sound m.darts)

  -- the unbounded face is the first
  first_zero : HasFace (tables_of h) (face_id 0) → face_id 0 ≡ first h.graph (tables_of h) m.sound
  first_zero z = by_number _ _ (by (first_least (tables_of h).faces m.sound.complete.faces_ascend 0 (to_member (tables_of h).faces 0 z)).1)
    where
      by : (0 ≡ (first h.graph (tables_of h) m.sound).0) ⊎ ((first h.graph (tables_of h) m.sound).0 < 0) → 0 ≡ (first h.graph (tables_of h) m.sound).0
      by (inl e) = e
      by (inr l) = absurd (omega arith)

  module _ (zero : HasFace (tables_of h) (face_id 0)) (new : RecordsView) (keys : IsPermutation order new.ranks.order) (ordered : AreInKeyOrder new.ranks.order) (ranked : IsDistinct same_key_face order → AreRanked (rank_given new) 1 new.ranks.order) (rest : AllByRecursion (λ k. k.face ≢ face_id 0) order → rank_given new (face_id 0) ≡ 0) where
    pub all_given : (a : FaceId) → HasFace (tables_of h) a → rank_given new a ≡ rank_in h.graph (tables_of h) a
    all_given a has = by (bound h.graph (tables_of h) m.sound a has)
      where
        by : Bound h.graph (tables_of h) m.sound a → rank_given new a ≡ rank_in h.graph (tables_of h) a
        by (unbounded e none) =
            let z = rest (subst (AllByRecursion (λ k. k.face ≢ face_id 0)) (sym is) (no_key_first h.graph (tables_of h) (lists_of h) m.sound m.darts (face_id 0) (first_zero zero))) in
            ap (rank_given new) (e ∙ sym (first_zero zero)) ∙ z ∙ sym (rank_unbounded h.graph (tables_of h) m.sound a has none)
        by (bounded c o u) =
            let x = m.sound.complete.dart_has c o.0 in
            let d = lead_on h.graph (tables_of h) m.sound a c o x.0 x.1 x.2 in
            ranks_given h.graph (tables_of h) (lists_of h) m.sound m.darts (rank_given new) new.ranks.order (subst (λ ks. IsPermutation ks new.ranks.order) is keys) ordered
            (ranked (subst (IsDistinct same_key_face) (sym is) (keys_apart h.graph (tables_of h) (lists_of h) m.sound m.darts))) a d.0 d.1

    -- as the records tell that were written
    pub ranks_after : graph_part new ≡ graph_part h → new.faces ≡ h.faces → AreRanksGiven new
    ranks_after graph faces a has = all_given a (subst (λ (f : FacesView). HasFace f.tables a) faces has) ∙ (λ i. rank_in (sym graph i).graph (sym faces i).tables a)
