use Rattle.std.proofs.Common.{refl}
use Rattle.curve_history.proofs.Histories.{sees, none_held, kept_on, layer_on, filled_copied, held_copied, room_in, room_after, spare_on}
use Rattle.curve_history.proofs.Sides.{copies}
use Rattle.curve_history.proofs.history.History.part.Goals as goal

pub invariant_of-self : goal.invariant_of-self
invariant_of-self c = kept_on _ _ _ _ _ _ c.self.invariant c.copy_pairs.ensures.pairs (filled_copied _ _ _ _ c.copy_pairs.ensures.copied (none_held _ _ (sees c.self.inside _ c.self.view_is) c.args.n c.requires.new) c.self.invariant.filled) c.copy_pairs.ensures.ordered c.copy_pairs.ensures.named

pub copy_pairs-requires-clause-new : goal.copy_pairs-requires-clause-new
copy_pairs-requires-clause-new c = none_held _ _ (sees c.self.inside _ c.self.view_is) c.args.n c.requires.new

pub copy_pairs-requires-clause-bare : goal.copy_pairs-requires-clause-bare
copy_pairs-requires-clause-bare c = λ h. let f = c.self.invariant.filled.key c.args.n.0 h in none_held _ _ (sees c.self.inside _ c.self.view_is) c.args.n c.requires.new f.0 f.1

pub returns-clause-strands : goal.returns-clause-strands
returns-clause-strands c = held_copied _ _ (sees c.self.inside _ c.self.view_is) _ _ refl c.args.d c.args.n c.copy_pairs.ensures.copied (none_held _ _ (sees c.self.inside _ c.self.view_is) c.args.n c.requires.new)

pub returns-clause-curves : goal.returns-clause-curves
returns-clause-curves c = copies _ _ c.args.d c.args.n (held_copied _ _ (sees c.self.inside _ c.self.view_is) _ _ refl c.args.d c.args.n c.copy_pairs.ensures.copied (none_held _ _ (sees c.self.inside _ c.self.view_is) c.args.n c.requires.new))

pub returns-clause-layer : goal.returns-clause-layer
returns-clause-layer c = layer_on _ _ (sees c.self.inside _ c.self.view_is) _ _ c.copy_pairs.ensures.named refl refl refl

pub copy_pairs-requires-clause-room : goal.copy_pairs-requires-clause-room
copy_pairs-requires-clause-room c = room_in _ _ (sees c.self.inside _ c.self.view_is) c.self.invariant.ordered c.args.d (c.laws.ensures.whole _) c.requires.room

pub returns-clause-spare : goal.returns-clause-spare
returns-clause-spare c = spare_on _ _ (sees c.self.inside _ c.self.view_is) _ _ c.copy_pairs.ensures.named refl refl (room_after _ _ (sees c.self.inside _ c.self.view_is) c.self.invariant.ordered c.args.d (c.laws.ensures.whole _) _ c.copy_pairs.ensures.room)
