use Rattle.std.proofs.Common.{◌∙◌, ap}
use Rattle.slab_laws.specs.View.{Faces}
use Rattle.mirror_observer.specs.FaceTables.{cycle_record}
use Rattle.mirror_observer.specs.Tables.{rows}
use Rattle.mirror_observer.proofs.Entries.{removed, rows_del}
use Rattle.mirror_observer.proofs.faces.FaceTables.drop_cycle.Goals as goal

pub returns : goal.returns
returns c =
    let t = c.args.self.now in
    ap {B = Faces} (λ cs. record { cycle_of = t.cycle_of.entries; bare = t.bare.entries; cycles = cs; faces = t.faces.keys })
    (ap (rows cycle_record) (c.remove-entry.ensures.entries ∙ removed c.args.cycle.0 t.cycles.entries) ∙ rows_del cycle_record c.args.cycle.0 t.cycles.entries)
