use Rattle.std.proofs.Common.{ap, ◌∙◌}
use Rattle.std.specs.Option.{option_map}
use Rattle.slab_laws.specs.Tables.{name_after}
use Rattle.slab_laws.specs.View.{cycle_id}
use Rattle.dcel_records.proofs.FaceLaws.{cycle_names, cycle_keys}
use Rattle.dcel_records.proofs.facing.RecordsFaced.cycle_after.Goals as goal

pub returns-clause-after : goal.returns-clause-after
returns-clause-after c = c.cycle_name_after.ensures ∙ ap (λ ns. option_map cycle_id (name_after ns (option_map (λ n. n.0) c.args.c))) (cycle_keys c.self.inside _ c.self.view_is)

pub returns-clause-ascend : goal.returns-clause-ascend
returns-clause-ascend c = cycle_names c.self.inside _ c.self.view_is
