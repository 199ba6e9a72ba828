use Rattle.std.proofs.Common.{◌∙◌, sym, arith}
use Rattle.mirror_observer.specs.FaceTables.{faces_in}
use Rattle.mirror_observer.proofs.MovedRows.{cycle_next, cycles_moved}
use Rattle.mirror_observer.proofs.faces.FaceTables.move_cycles.Goals as goal

pub returns : goal.returns
returns c = sym (cycles_moved c.args.list.now c.args.face c.loop-cycle.cycle-index (faces_in c.loop-cycle.self) (omega arith)) ∙ c.loop-cycle.invariant

pub loop-cycle-preserved : goal.loop-cycle-preserved
loop-cycle-preserved c =
    let t = c.loop-cycle.self in
    cycle_next c.args.list.now c.args.face c.loop-cycle.cycle-index _ t.cycle_of.entries t.bare.entries t.cycles.entries _ t.faces.keys c.loop-cycle-test.true c.move_cycle.ensures ∙ c.loop-cycle.invariant
