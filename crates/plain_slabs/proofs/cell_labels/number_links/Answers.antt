use Rattle.std.proofs.Common.{rules, arith}
use Rattle.std.proofs.lemmas.Grind.{common_steps}
use Rattle.plain_slabs.proofs.cell_labels.number_links.Goals as goal

pub number_of-one-requires-clause-among : goal.number_of-one-requires-clause-among
number_of-one-requires-clause-among c = (c.requires.among c.loop-link.link-index _ c.loop-link-test.true).0

pub number_of-other-requires-clause-among : goal.number_of-other-requires-clause-among
number_of-other-requires-clause-among c = (c.requires.among c.loop-link.link-index _ c.loop-link-test.true).1

pub loop-link-init : goal.loop-link-init
loop-link-init c = search rules

pub loop-link-preserved : goal.loop-link-preserved
loop-link-preserved c = grind (arith, common_steps)

pub returns-clause-below : goal.returns-clause-below
returns-clause-below c = search rules

pub returns-clause-links : goal.returns-clause-links
returns-clause-links c = grind (arith, common_steps)
