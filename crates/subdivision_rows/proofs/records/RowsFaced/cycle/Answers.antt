use Rattle.std.proofs.Common.{sym, subst}
use Rattle.slab_laws.specs.declared.names.CycleId.{CycleId}
use Rattle.slab_laws.specs.View.{HasCycle}
use Rattle.subdivision_rows.specs.Listed.{faces_of}
use Rattle.subdivision_rows.proofs.Items.{place}
use Rattle.subdivision_rows.proofs.DartLists.{stands}
use Rattle.subdivision_rows.proofs.CycleLists.{in_cycle_within, cycle_reads}
use Rattle.subdivision_rows.proofs.records.RowsFaced.cycle.Goals as goal

pub index-requires : goal.index-requires
index-requires c = place c.self.inside.lists.in_cycles c.args.d.0 (in_cycle_within c.self.inside.lists c.args.self.now c.self.invariant c.self.view_is c.args.d c.requires)

pub returns-clause-cycle : goal.returns-clause-cycle
returns-clause-cycle c = cycle_reads c.self.inside.lists c.args.self.now c.self.invariant c.self.view_is c.args.d c.index.result.now c.requires c.index.ensures

pub returns-clause-has : goal.returns-clause-has
returns-clause-has c =
    subst (λ (n : CycleId). HasCycle (faces_of c.args.self.now) n) (sym (cycle_reads c.self.inside.lists c.args.self.now c.self.invariant c.self.view_is c.args.d c.index.result.now c.requires c.index.ensures))
    ((stands c.self.inside.lists c.args.self.now c.self.invariant c.self.view_is).complete.cycle_has c.args.d c.requires)
