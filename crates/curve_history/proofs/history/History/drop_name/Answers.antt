use Rattle.std.proofs.Common.{refl}
use Rattle.curve_history.proofs.Histories.{sees, has_name, held_same}
use Rattle.curve_history.proofs.Naming.{chain_free, kept_less, less_names, less_pieces}
use Rattle.curve_history.proofs.Sides.{same_strands_curves}
use Rattle.curve_history.proofs.history.History.drop_name.Goals as goal

pub remove_key-requires-clause-has : goal.remove_key-requires-clause-has
remove_key-requires-clause-has c = has_name _ _ (sees c.self.inside _ c.self.view_is) _ c.requires.named

pub remove_key-requires-clause-empty : goal.remove_key-requires-clause-empty
remove_key-requires-clause-empty c = chain_free _ _ _ (sees c.self.inside _ c.self.view_is) c.self.invariant.pairs (c.laws.ensures.whole _) c.requires.free

pub returns-clause-names : goal.returns-clause-names
returns-clause-names c = less_names _ _ (sees c.self.inside _ c.self.view_is) c.remove_key.new.self _ c.remove_key.ensures.keys

pub returns-clause-pieces : goal.returns-clause-pieces
returns-clause-pieces c = less_pieces _ _ (sees c.self.inside _ c.self.view_is) c.remove_curve.new.self c.args.curve.0 c.remove_curve.ensures.rows

pub returns-clause-strands : goal.returns-clause-strands
returns-clause-strands c = held_same _ _ (sees c.self.inside _ c.self.view_is) _ c.self.inside.by_edge refl refl

pub returns-clause-curves : goal.returns-clause-curves
returns-clause-curves c = same_strands_curves _ _ (held_same _ _ (sees c.self.inside _ c.self.view_is) _ c.self.inside.by_edge refl refl)

pub invariant_of-self : goal.invariant_of-self
invariant_of-self c = kept_less _ _ _ _ c.remove_curve.new.self c.args.curve.0 _ c.self.invariant (λ k h. ((c.remove_key.ensures.keys k).0 h).0) c.remove_key.ensures.nodes c.remove_curve.ensures.rows
