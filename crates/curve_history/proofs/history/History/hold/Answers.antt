use Rattle.std.proofs.Common.{refl, sym, ap, subst, ◌∙◌}
use Rattle.edit_steps.specs.EditLaws.{curve_of}
use Rattle.plane_graphs.specs.Ascending.{Member}
use Rattle.linked_chains.specs.Chains.{HasKey}
use Rattle.curve_history.specs.Past.{strands_on}
use Rattle.curve_history.proofs.Histories.{sees, has_name, says_held, kept_on, layer_on, filled_more, held_more}
use Rattle.edit_steps.proofs.StrandPaths.{strand_is_of}
use Rattle.curve_history.proofs.Sides.{gains, gains_as}
use Rattle.curve_history.proofs.history.History.hold.Goals as goal

pub hold_pair-requires-clause-named : goal.hold_pair-requires-clause-named
hold_pair-requires-clause-named c = subst (HasKey c.self.inside.by_curve) (sym (ap curve_of c.strand.ensures ∙ strand_is_of c.args.curve.0 c.args.side c.requires.side)) (has_name _ _ (sees c.self.inside _ c.self.view_is) _ c.requires.named)

pub hold_pair-requires-clause-new : goal.hold_pair-requires-clause-new
hold_pair-requires-clause-new c s = c.requires.new (subst (λ z. Member z (strands_on c.args.self.now c.args.d)) c.strand.ensures (says_held _ _ (sees c.self.inside _ c.self.view_is) c.args.d _ s))

pub invariant_of-self : goal.invariant_of-self
invariant_of-self c = kept_on _ _ _ _ _ _ c.self.invariant c.hold_pair.ensures.pairs (filled_more _ _ _ _ c.hold_pair.ensures.more c.self.invariant.filled) c.hold_pair.ensures.ordered c.hold_pair.ensures.named

pub returns-clause-strands : goal.returns-clause-strands
returns-clause-strands c = gains_as _ _ c.args.d _ _ c.strand.ensures (held_more _ _ (sees c.self.inside _ c.self.view_is) _ _ refl c.args.d _ c.hold_pair.ensures.more)

pub returns-clause-curves : goal.returns-clause-curves
returns-clause-curves c = gains _ _ c.args.d c.args.curve.0 c.args.side c.requires.side (gains_as _ _ c.args.d _ _ c.strand.ensures (held_more _ _ (sees c.self.inside _ c.self.view_is) _ _ refl c.args.d _ c.hold_pair.ensures.more))

pub returns-clause-layer : goal.returns-clause-layer
returns-clause-layer c = layer_on _ _ (sees c.self.inside _ c.self.view_is) _ _ c.hold_pair.ensures.named refl refl refl
