use Rattle.std.proofs.Common.{◌∙◌, sym, length, subst}
use Rattle.slab_laws.specs.SpansDrawn.{drawn}
use Rattle.plain_slabs.specs.MetNumbers.{AreBelow}
use Rattle.plain_slabs.proofs.LeadLinks.{links_below, leads_found}
use Rattle.plain_slabs.proofs.leads.least_darts.Goals as goal

pub least_of_classes-requires : goal.least_of_classes-requires
least_of_classes-requires c =
    subst (AreBelow (length c.args.nexts.now)) (sym (c.deref.ensures.value ∙ c.in_ok-links.ensures)) (links_below (drawn c.args.points.now c.args.edges.now) c.requires.plane c.args.nexts.now c.requires.nexts)

pub returns : goal.returns
returns c =
    leads_found (drawn c.args.points.now c.args.edges.now) c.requires.plane c.args.nexts.now c.requires.nexts (λ v. v.items) c.deref.result.now c.least_of_classes.result (c.deref.ensures.value ∙ c.in_ok-links.ensures) c.least_of_classes.ensures.length c.least_of_classes.ensures.least
