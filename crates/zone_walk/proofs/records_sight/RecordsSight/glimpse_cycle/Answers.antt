use Rattle.std.proofs.Common.{sym, subst}
use Rattle.slab_laws.specs.FaceLists.{AreDartsOn}
use Rattle.dcel_records.specs.RecordsView.{RecordsView, tables_of, lists_of}
use Rattle.zone_walk.proofs.records_sight.RecordsSight.glimpse_cycle.Goals as goal

pub glimpse_cycle-requires-clause-darts : goal.glimpse_cycle-requires-clause-darts
glimpse_cycle-requires-clause-darts g c = subst (λ (h : RecordsView). AreDartsOn h.graph (tables_of h) (lists_of h)) (sym c.of.ensures) c.requires.darts
