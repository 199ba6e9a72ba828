use Rattle.std.proofs.Common.{List, sym, subst}
use Rattle.std.specs.List.{IsDistinct}
use Rattle.std.proofs.lemmas.Map.Keys.{IsDistinct-IsPermutation}
use Rattle.std.proofs.lemmas.Result.{IfOk-weaker}
use Rattle.dcel_records.specs.declared.ranks.RankKey.{RankKey}
use Rattle.dcel_records.proofs.Ranked.{sorted_keys, face_flips}
use Rattle.own_edges.specs.RankTables.{HasPlaces, AreRankedByKeys}
use Rattle.own_edges.proofs.RanksWritten.{same_face}
use Rattle.own_edges.proofs.ranks.ranks_by_name.Goals as goal

pub places_by_name-requires : goal.places_by_name-requires
places_by_name-requires c =
    subst (IsDistinct same_face) (sym c.deref.ensures.value) (IsDistinct-IsPermutation same_face face_flips c.args.keys.items c.sort_unstable.new.self.items c.sort_unstable.ensures.permutation c.requires)

pub returns : goal.returns
returns c =
    let order = c.sort_unstable.new.self.items in
    IfOk-weaker c.places_by_name.result (λ v. HasPlaces c.deref.result.now v.items) (λ v. AreRankedByKeys c.args.keys.items v.items) (λ v p. record {
      order = order;
      keys = c.sort_unstable.ensures.permutation;
      ordered = sorted_keys order c.sort_unstable.ensures.sorted;
      places = subst (λ (ks : List RankKey). HasPlaces ks v.items) c.deref.ensures.value p;
    }) c.places_by_name.ensures
