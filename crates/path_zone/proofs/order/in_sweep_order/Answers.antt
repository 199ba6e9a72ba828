use Rattle.std.proofs.Common.{rules, ap, is_lt}
use Rattle.std.proofs.lemmas.Fn.{always_returns_same}
use Rattle.std.proofs.lemmas.List.MinMax.{ranks_by}
use Rattle.path_zone.specs.declared.order.BegunSide.{BegunSide}
use Rattle.path_zone.specs.Begun.{begin_cmp}
use Rattle.path_zone.proofs.SweepOrder.{begin_total}
use Rattle.path_zone.proofs.order.in_sweep_order.Goals as goal

pub returns : goal.returns
returns c = λ v f h. record {
  unsorted = c.in_ok-begun.begun.items;
  begun = c.in_ok-begun.ensures v f h;
  moved = c.sort_unstable_by.ensures.permutation;
  sorted = c.sort_unstable_by.ensures.sorted (λ (k l : BegunSide). is_lt (begin_cmp k l)) (ranks_by begin_total (λ (k : BegunSide). k)) (always_returns_same _ _ _ (λ a r f' k. (ap is_lt (search rules), search rules)));
}
