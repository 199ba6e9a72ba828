use Rattle.std.proofs.Common.{sym, ◌∙◌}
use Rattle.dcel_records.specs.RecordsView.{lists_of, tables_of}
use Rattle.face_ranks.proofs.KeysPushed.{none_pushed, cycle_has, fewer_cycles, all_pushed}
use Rattle.own_edges.proofs.KeysPushed.{one_more}
use Rattle.own_edges.proofs.keys.walked_keys.Goals as goal

pub cycles-init : goal.cycles-init
cycles-init c = let h = c.args.records.now in none_pushed h.graph (tables_of h) (lists_of h) c.new-keys.result.items c.new-keys.ensures.items

pub push_key-requires-clause-map : goal.push_key-requires-clause-map
push_key-requires-clause-map c = c.requires

pub push_key-requires-clause-cycle : goal.push_key-requires-clause-cycle
push_key-requires-clause-cycle c = let h = c.args.records.now in cycle_has h.graph (tables_of h) (lists_of h) c.cycles.last c.in-Some.cycle c.face_laws.ensures.cycles_ascend c.in-Some.ensures.after

pub cycles-smaller : goal.cycles-smaller
cycles-smaller c = let h = c.args.records.now in fewer_cycles h.graph (tables_of h) (lists_of h) c.cycles.last c.in-Some.cycle c.face_laws.ensures.cycles_ascend c.in-Some.ensures.after

pub cycles-preserved : goal.cycles-preserved
cycles-preserved c = let h = c.args.records.now in one_more h.graph (tables_of h) (lists_of h) c.cycles.last c.in-Some.cycle c.face_laws.ensures.cycles_ascend c.in-Some.ensures.after c.cycles.keys.items c.cycles.invariant c.push_key.new.keys.items c.in_ok-push_key.ensures

pub returns : goal.returns
returns c = let h = c.args.records.now in all_pushed h.graph (tables_of h) (lists_of h) c.cycles.last c.cycles.keys.items (sym c.in_default.is ∙ c.cycle_after.ensures.after) c.cycles.invariant
