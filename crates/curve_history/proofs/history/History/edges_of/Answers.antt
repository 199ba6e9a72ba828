use Rattle.std.proofs.Common.{refl}
use Rattle.curve_history.proofs.Histories.{sees}
use Rattle.curve_history.proofs.Naming.{edges_are, with_name, without_name}
use Rattle.curve_history.proofs.history.History.edges_of.Goals as goal

pub returns-then-not-has_key-clause-unknown : goal.returns-then-not-has_key-clause-unknown
returns-then-not-has_key-clause-unknown c = (λ e. without_name _ _ (sees c.self.inside _ c.self.view_is) _ _ c.has_key.ensures c.if-not-has_key.true, λ f. refl)

pub returns-in-Ok-clause-edges : goal.returns-in-Ok-clause-edges
returns-in-Ok-clause-edges c = edges_are _ _ (sees c.self.inside _ c.self.view_is) c.self.invariant.pairs _ (c.laws.ensures.whole _) _ c.in-Ok.ensures _ c.each_once.ensures.edges

pub returns-in-Ok-clause-unknown : goal.returns-in-Ok-clause-unknown
returns-in-Ok-clause-unknown c = (λ e. absurd cc, λ f. absurd (f (with_name _ _ (sees c.self.inside _ c.self.view_is) _ _ c.has_key.ensures c.if-not-has_key.false)))

pub returns-in-Err-clause-unknown : goal.returns-in-Err-clause-unknown
returns-in-Err-clause-unknown c = (λ e. absurd cc, λ f. absurd (f (with_name _ _ (sees c.self.inside _ c.self.view_is) _ _ c.has_key.ensures c.if-not-has_key.false)))
