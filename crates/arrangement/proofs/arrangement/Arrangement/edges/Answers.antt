use Rattle.std.proofs.Common.{◌∙◌}
use Rattle.arrangement.proofs.Listing.{edges_answered}
use Rattle.arrangement.proofs.arrangement.Arrangement.edges.Goals as goal

pub returns : goal.returns
returns g c = rw (← c.self.view_is) (edges_answered _ _ c.self.invariant.0 c.ends_of_each.result (λ v. v.items) c.deref.result.now (c.deref.ensures.value ∙ c.in_ok-darts.ensures) c.ends_of_each.ensures)
