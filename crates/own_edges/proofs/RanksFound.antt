-- The table by the keys of the outer cycles has the rank of each face.
use Rattle.std.proofs.Common.{◌≡◌, sym, ◌∙◌, subst, List, ℕ}
use Rattle.std.specs.List.{IsDistinct}
use Rattle.std.specs.List.Sorted.{IsPermutation}
use Rattle.dcel_records.specs.declared.ranks.RankKey.{RankKey}
use Rattle.dcel_records.specs.RecordsView.{RecordsView, tables_of, lists_of}
use Rattle.dcel_records.specs.SoundMaps.{IsSoundMap}
use Rattle.dcel_records.proofs.Ranked.{all_permuted}
use Rattle.face_ranks.specs.OuterKeys.{outer_keys}
use Rattle.face_ranks.specs.Ranks.{rank_in}
use Rattle.face_ranks.proofs.KeysRanked.{same_key_face, keys_apart, ranks_given, no_key_first}
use Rattle.face_ranks.proofs.RankOrder.{rank_unbounded, lead_on}
use Rattle.face_ranks.proofs.RankedOuter.{Bound, bound}
use Rattle.face_ranks.proofs.RankedOuter.Bound.{unbounded, bounded}
use Rattle.own_edges.specs.RankTables.{at_name, AreRankedByKeys, AreRanksListed}

module _ (h : RecordsView) (m : IsSoundMap h) (ks : List RankKey) (is : ks ≡ outer_keys h.graph (tables_of h) (lists_of h)) where
  pub apart : IsDistinct same_key_face ks
  apart = subst (IsDistinct same_key_face) (sym is) (keys_apart h.graph (tables_of h) (lists_of h) m.sound m.darts)

  module _ (rs : List ℕ) (r : AreRankedByKeys ks rs) where
    pub all_ranked : AreRanksListed h rs
    all_ranked a has = by (bound h.graph (tables_of h) m.sound a has)
      where
        by : Bound h.graph (tables_of h) m.sound a → at_name rs a ≡ rank_in h.graph (tables_of h) a
        by (unbounded e none) =
            r.places.others a (all_permuted _ _ (outer_keys h.graph (tables_of h) (lists_of h)) r.order (subst (λ xs. IsPermutation xs r.order) is r.keys) (λ k n. n) (no_key_first h.graph (tables_of h) (lists_of h) m.sound m.darts a e))
            ∙ sym (rank_unbounded h.graph (tables_of h) m.sound a has none)
        by (bounded c o u) =
            let x = m.sound.complete.dart_has c o.0 in
            let d = lead_on h.graph (tables_of h) m.sound a c o x.0 x.1 x.2 in
            ranks_given h.graph (tables_of h) (lists_of h) m.sound m.darts (at_name rs) r.order (subst (λ xs. IsPermutation xs r.order) is r.keys) r.ordered r.places.ranked a d.0 d.1
