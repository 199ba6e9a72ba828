use Rattle.std.proofs.Common.{sym, ap, ◌∙◌, option_copied}
use Rattle.linked_chains.proofs.Seen.{first_seen}
use Rattle.linked_chains.proofs.chains.Chains.first.Goals as goal

pub returns-in-Some : goal.returns-in-Some
returns-in-Some c = c.name.ensures ∙ first_seen c.self.inside.heads c.self.inside.nodes _ c.self.view_is c.self.invariant c.args.key _ (sym c.get.ensures.value ∙ ap option_copied c.in-Some.is)

pub returns-in-None : goal.returns-in-None
returns-in-None c = first_seen c.self.inside.heads c.self.inside.nodes _ c.self.view_is c.self.invariant c.args.key _ (sym c.get.ensures.value ∙ ap option_copied c.in-None.is)
