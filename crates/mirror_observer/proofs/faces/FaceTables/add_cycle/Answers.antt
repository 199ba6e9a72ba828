use Rattle.std.proofs.Common.{◌∙◌, ap}
use Rattle.slab_laws.specs.View.{Faces}
use Rattle.mirror_observer.specs.FaceTables.{cycle_record}
use Rattle.mirror_observer.specs.Tables.{rows}
use Rattle.mirror_observer.proofs.Entries.{inserted, rows_put}
use Rattle.mirror_observer.proofs.faces.FaceTables.add_cycle.Goals as goal

pub returns : goal.returns
returns c =
    let t = c.args.self.now in
    ap {B = Faces} (λ cs. record { cycle_of = t.cycle_of.entries; bare = t.bare.entries; cycles = cs; faces = t.faces.keys })
    (ap (rows cycle_record) (c.in_ok-insert.ensures.entries ∙ inserted c.args.cycle.0 _ t.cycles.entries) ∙ rows_put cycle_record c.args.cycle.0 _ t.cycles.entries)
