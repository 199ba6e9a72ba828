use Rattle.std.proofs.Common.{map, ap, ◌∙◌}
use Rattle.slab_laws.specs.SpansDrawn.{drawn}
use Rattle.plain_slabs.specs.Faces.{lead_row}
use Rattle.plain_slabs.proofs.LeadRows.{lead_rows, leads_within}
use Rattle.plain_slabs.proofs.faces.cycles_of.Goals as goal

pub cycles_at_leads-requires-clause-places : goal.cycles_at_leads-requires-clause-places
cycles_at_leads-requires-clause-places c = leads_within (drawn c.args.points.now c.args.edges.now) c.requires.plane c.args.darts.now c.args.places.now c.requires.darts c.requires.places

pub returns : goal.returns
returns c = c.in_ok-cycles.ensures ∙ ap (map (lead_row (drawn c.args.points.now c.args.edges.now))) c.requires.places ∙ lead_rows (drawn c.args.points.now c.args.edges.now) c.requires.plane
