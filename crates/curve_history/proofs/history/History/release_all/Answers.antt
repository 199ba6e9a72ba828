use Rattle.std.proofs.Common.{refl}
use Rattle.curve_history.proofs.Histories.{sees, kept_on, layer_on, filled_none, held_none}
use Rattle.curve_history.proofs.Placing.{ordered_with_key}
use Rattle.curve_history.proofs.Sides.{loses_all}
use Rattle.curve_history.proofs.Twins.{twins_with_key}
use Rattle.curve_history.proofs.history.History.release_all.Goals as goal

pub tidy-requires : goal.tidy-requires
tidy-requires c = filled_none _ _ _ c.release_each.ensures.less c.self.invariant.filled

pub invariant_of-self : goal.invariant_of-self
invariant_of-self c = kept_on _ _ _ _ _ _ c.self.invariant (twins_with_key _ _ _ c.tidy.ensures.nodes c.release_each.ensures.pairs) c.tidy.ensures.filled (ordered_with_key _ _ c.tidy.ensures.nodes c.tidy.ensures.chains c.release_each.ensures.ordered) c.release_each.ensures.named

pub returns-clause-strands : goal.returns-clause-strands
returns-clause-strands c = held_none _ _ (sees c.self.inside _ c.self.view_is) _ c.tidy.new.edges refl _ c.args.d c.release_each.ensures.less c.release_each.ensures.none c.tidy.ensures.nodes

pub returns-clause-curves : goal.returns-clause-curves
returns-clause-curves c = loses_all _ _ c.args.d (held_none _ _ (sees c.self.inside _ c.self.view_is) _ c.tidy.new.edges refl _ c.args.d c.release_each.ensures.less c.release_each.ensures.none c.tidy.ensures.nodes)

pub returns-clause-layer : goal.returns-clause-layer
returns-clause-layer c = layer_on _ _ (sees c.self.inside _ c.self.view_is) _ _ c.release_each.ensures.named refl refl refl
