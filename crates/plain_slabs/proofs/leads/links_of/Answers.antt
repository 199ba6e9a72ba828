use Rattle.plain_slabs.proofs.LeadLinks.{link_pushed, links_done}
use Rattle.plain_slabs.proofs.leads.links_of.Goals as goal

pub loop-one-preserved : goal.loop-one-preserved
loop-one-preserved c = link_pushed c.args.nexts.now c.loop-one.one c.loop-one.links.items c.push.new.self.items c.loop-one-test.true c.loop-one.invariant c.in_ok-push.ensures.items

pub returns : goal.returns
returns c = links_done c.args.nexts.now c.loop-one.one c.loop-one.links.items c.loop-one-test.false c.loop-one.invariant
