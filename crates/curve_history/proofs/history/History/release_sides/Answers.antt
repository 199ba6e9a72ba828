use Rattle.std.proofs.Common.{refl}
use Rattle.curve_history.proofs.Histories.{sees, kept_on, layer_on, filled_sides, held_sides}
use Rattle.curve_history.proofs.Placing.{ordered_with_key}
use Rattle.curve_history.proofs.Sides.{loses_sides}
use Rattle.curve_history.proofs.Twins.{twins_with_key}
use Rattle.curve_history.proofs.history.History.release_sides.Goals as goal

pub tidy-requires : goal.tidy-requires
tidy-requires c = filled_sides _ _ _ _ c.release_curve.ensures.less c.self.invariant.filled

pub invariant_of-self : goal.invariant_of-self
invariant_of-self c = kept_on _ _ _ _ _ _ c.self.invariant (twins_with_key _ _ _ c.tidy.ensures.nodes c.release_curve.ensures.pairs) c.tidy.ensures.filled (ordered_with_key _ _ c.tidy.ensures.nodes c.tidy.ensures.chains c.release_curve.ensures.ordered) c.release_curve.ensures.named

pub returns-clause-strands : goal.returns-clause-strands
returns-clause-strands c = held_sides _ _ (sees c.self.inside _ c.self.view_is) _ c.tidy.new.edges refl _ c.args.d _ c.release_curve.ensures.less c.release_curve.ensures.gone c.tidy.ensures.nodes

pub returns-clause-curves : goal.returns-clause-curves
returns-clause-curves c = loses_sides _ _ c.args.d _ (held_sides _ _ (sees c.self.inside _ c.self.view_is) _ c.tidy.new.edges refl _ c.args.d _ c.release_curve.ensures.less c.release_curve.ensures.gone c.tidy.ensures.nodes)

pub returns-clause-layer : goal.returns-clause-layer
returns-clause-layer c = layer_on _ _ (sees c.self.inside _ c.self.view_is) _ _ c.release_curve.ensures.named refl refl refl
