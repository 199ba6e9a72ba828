use Rattle.std.proofs.Common.{ap, ◌∙◌}
use Rattle.slab_laws.specs.Layers.{LayerRows}
use Rattle.subdivision_rows.proofs.OverlaidRows.{row_is}
use Rattle.subdivision_rows.proofs.layer_table.LayerTable.curves_at.Goals as goal

pub returns : goal.returns
returns c =
    row_is c.self.inside.curves.items c.args.self.now c.args.edge c.index.result.now c.in_ok-curves.curves.items (ap (λ (r : LayerRows). r.curves) c.self.view_is) c.requires c.index.ensures (c.in_ok-curves.ensures ∙ c.deref.ensures.value)
