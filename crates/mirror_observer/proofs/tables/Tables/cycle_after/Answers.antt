use Rattle.std.proofs.Common.{◌∙◌, sym, ap, option_map}
use Rattle.slab_laws.specs.Tables.{name_after}
use Rattle.slab_laws.specs.View.{cycle_id}
use Rattle.mirror_observer.specs.FaceTables.{cycle_record}
use Rattle.mirror_observer.proofs.Entries.{names_rows}
use Rattle.mirror_observer.proofs.tables.Tables.cycle_after.Goals as goal

pub returns : goal.returns
returns c = c.cycle_beyond.ensures ∙ ap (λ ns. option_map cycle_id (name_after ns (option_map (λ x. x.0) c.args.c))) (sym (names_rows cycle_record c.args.self.now.faces.cycles.entries))
