use Rattle.std.proofs.Common.{◌<◌, ℕ, sym, ap, subst}
use Rattle.std.specs.Prelude.{◌==◌}
use Rattle.slab_laws.specs.SpansDrawn.{drawn}
use Rattle.dart_orbits.proofs.Listed.{row_there}
use Rattle.overlay_sweep.proofs.FirstDarts.{kind_told, leads_length}
use Rattle.overlay_sweep.proofs.kinds.is_inner.Goals as goal

pub lead_at-requires : goal.lead_at-requires
lead_at-requires c = subst (λ (n : ℕ). c.first_around.result < n) (sym (leads_length (drawn c.args.points.now c.args.edges.now) c.args.leads.now c.requires.leads)) c.first_around.ensures.within

pub returns : goal.returns
returns c =
    let g = drawn c.args.points.now c.args.edges.now in
    kind_told g c.requires.plane c.args.leads.now c.requires.leads c.args.lead c.first_around.result (row_there g c.args.darts.now c.requires.darts c.args.lead c.requires.lead) c.requires.least c.first_around.ensures _
    (ap (λ (j : ℕ). j == c.args.lead) c.lead_at.ensures)
