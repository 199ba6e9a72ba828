use Rattle.curve_history.proofs.Histories.{sees}
use Rattle.curve_history.proofs.Naming.{curve_fits, curves_are}
use Rattle.curve_history.proofs.history.History.curves_of.Goals as goal

pub curves_along-requires : goal.curves_along-requires
curves_along-requires c = λ k s. curve_fits c.self.inside c.self.invariant.pairs c.laws-2.ensures.keys c.self.invariant.numbers c.self.invariant.last _ _ s

pub returns : goal.returns
returns c = curves_are _ _ (sees c.self.inside _ c.self.view_is) c.args.d (c.laws.ensures.whole _) (c.self.invariant.ordered _) _ _ _ c.in_ok-curves.ensures c.reverse.ensures.items c.dedup.ensures.filtered
