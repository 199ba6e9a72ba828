use Rattle.std.proofs.Common.{refl, rules}
use Rattle.curve_history.proofs.Histories.{sees, held_same}
use Rattle.curve_history.proofs.Naming.{kept_roomier}
use Rattle.curve_history.proofs.Sides.{same_strands_curves}
use Rattle.curve_history.proofs.history.History.reserve.Goals as goal

pub invariant_of-self : goal.invariant_of-self
invariant_of-self c = kept_roomier _ _ _ _ _ _ _ c.self.invariant c.reserve_pairs.ensures.by_edge c.reserve_pairs.ensures.by_curve (search rules)

pub invariant_of-self-in_err-reserve : goal.invariant_of-self-in_err-reserve
invariant_of-self-in_err-reserve c = kept_roomier _ _ _ _ _ _ _ c.self.invariant c.reserve_pairs.ensures.by_edge c.reserve_pairs.ensures.by_curve (search rules)

pub invariant_of-self-2 : goal.invariant_of-self-2
invariant_of-self-2 c = kept_roomier _ _ _ _ _ _ _ c.self.invariant c.reserve_pairs.ensures.by_edge c.reserve_pairs.ensures.by_curve (search rules)

pub returns-in_err-reserve_pairs-clause-strands : goal.returns-in_err-reserve_pairs-clause-strands
returns-in_err-reserve_pairs-clause-strands c = held_same _ _ (sees c.self.inside _ c.self.view_is) _ c.reserve_pairs.new.edges refl c.reserve_pairs.ensures.by_edge.nodes

pub returns-in_err-reserve_pairs-clause-curves : goal.returns-in_err-reserve_pairs-clause-curves
returns-in_err-reserve_pairs-clause-curves c = same_strands_curves _ _ (held_same _ _ (sees c.self.inside _ c.self.view_is) _ c.reserve_pairs.new.edges refl c.reserve_pairs.ensures.by_edge.nodes)

pub returns-in_err-reserve-clause-strands : goal.returns-in_err-reserve-clause-strands
returns-in_err-reserve-clause-strands c = held_same _ _ (sees c.self.inside _ c.self.view_is) _ c.reserve_pairs.new.edges refl c.reserve_pairs.ensures.by_edge.nodes

pub returns-in_err-reserve-clause-curves : goal.returns-in_err-reserve-clause-curves
returns-in_err-reserve-clause-curves c = same_strands_curves _ _ (held_same _ _ (sees c.self.inside _ c.self.view_is) _ c.reserve_pairs.new.edges refl c.reserve_pairs.ensures.by_edge.nodes)

pub returns-clause-strands : goal.returns-clause-strands
returns-clause-strands c = held_same _ _ (sees c.self.inside _ c.self.view_is) _ c.reserve_pairs.new.edges refl c.reserve_pairs.ensures.by_edge.nodes

pub returns-clause-curves : goal.returns-clause-curves
returns-clause-curves c = same_strands_curves _ _ (held_same _ _ (sees c.self.inside _ c.self.view_is) _ c.reserve_pairs.new.edges refl c.reserve_pairs.ensures.by_edge.nodes)
