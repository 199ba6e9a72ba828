use Rattle.std.proofs.Common.{rules, ◌≡◌, ◌+◌, subst, sym, ap, arith, is_lt, List, Bool}
use Rattle.std.specs.List.{IsAllAdjacentAnswer}
use Rattle.std.specs.List.Sorted.{IsPermutation}
use Rattle.std.proofs.lemmas.Fn.{always_returns_same}
use Rattle.std.proofs.lemmas.List.MinMax.{ranks_by}
use Rattle.integers.proofs.Tests.{is_less}
use Rattle.region_rings.specs.declared.spokes.Spoke.{Spoke}
use Rattle.region_rings.specs.Spokes.{spoke_cmp, spoke_in, no_spoke}
use Rattle.region_rings.proofs.SpokeOrder.{spoke_cmp_total, all_ascend}
use Rattle.region_rings.proofs.Ties.{not_apart}
use Rattle.region_rings.proofs.spokes.sorted_spokes.Goals as goal

pub returns-clause-spokes : goal.returns-clause-spokes
returns-clause-spokes c =
    let ss = c.sort_unstable_by.new.self.items in
    let sorted : IsAllAdjacentAnswer (λ (v w : Spoke) (b : Bool). b ≡ is_lt (spoke_cmp v w)) c.deref.result.now c.is_sorted_by.result = c.is_sorted_by.ensures.cases (λ (v w : Spoke). is_lt (spoke_cmp v w)) (always_returns_same _ _ _ (λ a r f' k. (search rules, search rules))) in
    let each = subst (λ (us : List Spoke). IsAllAdjacentAnswer (λ (v w : Spoke) (b : Bool). b ≡ is_lt (spoke_cmp v w)) us (c.is_sorted_by.result)) c.deref.ensures.value sorted in
    record {
      all = subst (λ us. IsPermutation us ss) c.in_ok-spokes.ensures c.sort_unstable_by.ensures.permutation;
      ascending = all_ascend ss (λ k l. is_less (spoke_cmp (spoke_in ss k) (spoke_in ss (k + 1))) (sym (subst (λ (b : Bool). IsAllAdjacentAnswer (λ (v w : Spoke) (b : Bool). b ≡ is_lt (spoke_cmp v w)) ss b) c.if-not-is_sorted_by.false each k no_spoke l)));
    }

pub returns-then-not-is_sorted_by-clause-error : goal.returns-then-not-is_sorted_by-clause-error
returns-then-not-is_sorted_by-clause-error c =
    let ss = c.sort_unstable_by.new.self.items in
    let rises = c.sort_unstable_by.ensures.sorted (λ (v w : Spoke). is_lt (spoke_cmp v w)) (ranks_by spoke_cmp_total (λ (w : Spoke). w)) (always_returns_same _ _ _ (λ a r f' k. (ap is_lt (search rules), search rules))) in
    let sorted : IsAllAdjacentAnswer (λ (v w : Spoke) (b : Bool). b ≡ is_lt (spoke_cmp v w)) c.deref.result.now c.is_sorted_by.result = c.is_sorted_by.ensures.cases (λ (v w : Spoke). is_lt (spoke_cmp v w)) (always_returns_same _ _ _ (λ a r f' k. (search rules, search rules))) in
    let each = subst (λ (us : List Spoke). IsAllAdjacentAnswer (λ (v w : Spoke) (b : Bool). b ≡ is_lt (spoke_cmp v w)) us (c.is_sorted_by.result)) c.deref.ensures.value sorted in
    let some = subst (λ (b : Bool). IsAllAdjacentAnswer (λ (v w : Spoke) (b : Bool). b ≡ is_lt (spoke_cmp v w)) ss b) c.if-not-is_sorted_by.true each in
    not_apart c.args.darts.now ss (subst (λ us. IsPermutation us ss) c.in_ok-spokes.ensures c.sort_unstable_by.ensures.permutation) some.0 some.1 (sym (some.2 no_spoke)) (rises some.0 no_spoke (omega arith) some.1)
