use Rattle.std.proofs.Common.{refl}
use Rattle.curve_history.proofs.Histories.{sees, kept_on, layer_on, filled_less, held_less}
use Rattle.curve_history.proofs.Placing.{ordered_with_key}
use Rattle.curve_history.proofs.Sides.{loses_as, loses_last, loses_none}
use Rattle.curve_history.proofs.Twins.{twins_with_key}
use Rattle.curve_history.proofs.history.History.release.Goals as goal

pub tidy-requires : goal.tidy-requires
tidy-requires c = filled_less _ _ _ _ c.release_one.ensures.less c.self.invariant.filled

pub invariant_of-self : goal.invariant_of-self
invariant_of-self c = kept_on _ _ _ _ _ _ c.self.invariant (twins_with_key _ _ _ c.tidy.ensures.nodes c.release_one.ensures.pairs) c.tidy.ensures.filled (ordered_with_key _ _ c.tidy.ensures.nodes c.tidy.ensures.chains c.release_one.ensures.ordered) c.release_one.ensures.named

pub returns-clause-strands : goal.returns-clause-strands
returns-clause-strands c = loses_as _ _ c.args.d _ _ c.strand.ensures (held_less _ _ (sees c.self.inside _ c.self.view_is) _ c.tidy.new.edges refl _ c.args.d _ c.release_one.ensures.less c.tidy.ensures.nodes)

pub returns-clause-last : goal.returns-clause-last
returns-clause-last c = λ only. loses_last _ _ c.args.d c.args.curve.0 c.args.side c.requires.side only (loses_as _ _ c.args.d _ _ c.strand.ensures (held_less _ _ (sees c.self.inside _ c.self.view_is) _ c.tidy.new.edges refl _ c.args.d _ c.release_one.ensures.less c.tidy.ensures.nodes))

pub returns-clause-stays : goal.returns-clause-stays
returns-clause-stays c = λ z m e ne. loses_none _ _ c.args.d c.args.curve.0 c.args.side c.requires.side z m e ne (loses_as _ _ c.args.d _ _ c.strand.ensures (held_less _ _ (sees c.self.inside _ c.self.view_is) _ c.tidy.new.edges refl _ c.args.d _ c.release_one.ensures.less c.tidy.ensures.nodes))

pub returns-clause-layer : goal.returns-clause-layer
returns-clause-layer c = layer_on _ _ (sees c.self.inside _ c.self.view_is) _ _ c.release_one.ensures.named refl refl refl
