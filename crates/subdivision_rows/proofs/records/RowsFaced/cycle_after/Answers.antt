use Rattle.std.proofs.Common.{sym, ap, ◌∙◌}
use Rattle.std.specs.List.{range_with_len}
use Rattle.std.specs.Option.{option_map}
use Rattle.slab_laws.specs.Tables.{name_after}
use Rattle.slab_laws.specs.View.{cycle_id}
use Rattle.subdivision_rows.proofs.DartLists.{stands}
use Rattle.subdivision_rows.proofs.Numbers.{cycle_names, cycles_many}
use Rattle.subdivision_rows.proofs.records.RowsFaced.cycle_after.Goals as goal

pub returns-clause-after : goal.returns-clause-after
returns-clause-after c =
    c.cycle_name_after.ensures
    ∙ ap (λ ns. option_map cycle_id (name_after ns (option_map (λ n. n.0) c.args.c))) (ap (range_with_len 0) (c.len.ensures ∙ cycles_many c.self.inside.lists c.args.self.now c.self.invariant c.self.view_is) ∙ sym (cycle_names c.args.self.now))

pub returns-clause-ascend : goal.returns-clause-ascend
returns-clause-ascend c = (stands c.self.inside.lists c.args.self.now c.self.invariant c.self.view_is).complete.cycles_ascend
