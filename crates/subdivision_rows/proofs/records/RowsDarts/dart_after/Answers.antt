use Rattle.std.proofs.Common.{sym, ap, ◌∙◌}
use Rattle.std.specs.List.{range_with_len}
use Rattle.std.specs.Option.{option_map}
use Rattle.slab_laws.specs.Tables.{name_after}
use Rattle.slab_laws.specs.View.{dart_id}
use Rattle.subdivision_rows.proofs.DartLists.{stands}
use Rattle.subdivision_rows.proofs.Numbers.{dart_names, darts_many}
use Rattle.subdivision_rows.proofs.records.RowsDarts.dart_after.Goals as goal

pub returns-clause-after : goal.returns-clause-after
returns-clause-after c =
    c.dart_name_after.ensures
    ∙ ap (λ ns. option_map dart_id (name_after ns (option_map (λ n. n.0) c.args.d))) (ap (range_with_len 0) (c.len.ensures ∙ darts_many c.self.inside.lists c.args.self.now c.self.invariant c.self.view_is) ∙ sym (dart_names c.args.self.now))

pub returns-clause-ascend : goal.returns-clause-ascend
returns-clause-ascend c = (stands c.self.inside.lists c.args.self.now c.self.invariant c.self.view_is).graph.named.darts
