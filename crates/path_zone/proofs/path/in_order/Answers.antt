use Rattle.std.proofs.Common.{◌≡◌, rules, ap, is_lt}
use Rattle.std.specs.List.{dedup}
use Rattle.std.proofs.lemmas.Fn.{always_returns_same, dedup_same}
use Rattle.std.proofs.lemmas.List.MinMax.{ranks_by}
use Rattle.zone_walk.specs.declared.plan.Meeting.{Meeting}
use Rattle.path_zone.proofs.Ordered.{by_point, ordered_ascend, ordered_from, ordered_points, same_place, total}
use Rattle.path_zone.proofs.path.in_order.Goals as goal

-- what is left of the sorted ones
is : (c : goal.After-dedup_by) → c.dedup_by.new.self.items ≡ dedup same_place c.sort_unstable_by.new.self.items
is c = dedup_same _ same_place _ (λ x y b f' x' y' k. search rules) _ _ c.dedup_by.ensures.filtered

pub returns-clause-ascend : goal.returns-clause-ascend
returns-clause-ascend c =
    ordered_ascend _ _ _ c.sort_unstable_by.ensures.permutation (is c)
    (c.sort_unstable_by.ensures.sorted (λ (m n : Meeting). is_lt (by_point m n)) (ranks_by total (λ (m : Meeting). m)) (always_returns_same _ _ _ (λ a r f' k. (ap is_lt (search rules), search rules))))

pub returns-clause-from : goal.returns-clause-from
returns-clause-from c = ordered_from _ _ _ c.sort_unstable_by.ensures.permutation (is c)

pub returns-clause-points : goal.returns-clause-points
returns-clause-points c = ordered_points _ _ _ c.sort_unstable_by.ensures.permutation (is c)
