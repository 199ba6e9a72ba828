use Rattle.std.proofs.Common.{◌<◌, [], ◌∷◌, ◌++◌, Option, Some, sym, subst, ◌∙◌}
use Rattle.slab_laws.specs.declared.names.CycleId.{CycleId}
use Rattle.slab_laws.specs.View.{HasDart}
use Rattle.dcel_records.specs.RecordsView.{lists_of}
use Rattle.cycle_writers.proofs.MovedCycles.{AreCyclesMoving, cycles_left, begins, has_cycle, listed, graph_is, dart_is, taken_is, ys, stays, stays_less, goes, goes_less}
use Rattle.cycle_writers.proofs.Still.{IsStill}
use Rattle.cycle_writers.proofs.moves.move_cycles.Goals as goal

pub cycles-init : goal.cycles-init
cycles-init c =
    ([], (lists_of c.args.records.now).cycles c.args.from, begins c.args.which.now c.args.but c.args.from c.args.to c.requires.two c.args.records.now c.args.moved.now c.first_cycle_of-next.result c.first_cycle_of-next.ensures c.requires.room)

pub cycle_after_in_face-next-requires : goal.cycle_after_in_face-next-requires
cycle_after_in_face-next-requires c =
    let w = c.cycles.invariant in
    let m : AreCyclesMoving c.args.which.now c.args.but c.args.from c.args.to c.args.records.now c.args.moved.now c.cycles.records c.cycles.moved (Some c.in-Some.cycle) w.0 w.1 =
    subst (λ (o : Option CycleId). AreCyclesMoving c.args.which.now c.args.but c.args.from c.args.to c.args.records.now c.args.moved.now c.cycles.records c.cycles.moved o w.0 w.1) c.in-Some.is w.2 in
    has_cycle c.args.which.now c.args.but c.args.from c.args.to c.requires.two c.args.records.now c.args.moved.now c.cycles.records c.cycles.moved c.in-Some.cycle w.0 w.1 m c.face_laws.ensures.listed

pub takes_cycle-requires-clause-cycle : goal.takes_cycle-requires-clause-cycle
takes_cycle-requires-clause-cycle c =
    let w = c.cycles.invariant in
    let m : AreCyclesMoving c.args.which.now c.args.but c.args.from c.args.to c.args.records.now c.args.moved.now c.cycles.records c.cycles.moved (Some c.in-Some.cycle) w.0 w.1 =
    subst (λ (o : Option CycleId). AreCyclesMoving c.args.which.now c.args.but c.args.from c.args.to c.args.records.now c.args.moved.now c.cycles.records c.cycles.moved o w.0 w.1) c.in-Some.is w.2 in
    has_cycle c.args.which.now c.args.but c.args.from c.args.to c.requires.two c.args.records.now c.args.moved.now c.cycles.records c.cycles.moved c.in-Some.cycle w.0 w.1 m c.face_laws.ensures.listed

pub takes_cycle-requires-clause-dart : goal.takes_cycle-requires-clause-dart
takes_cycle-requires-clause-dart c =
    let w = c.cycles.invariant in
    let m : AreCyclesMoving c.args.which.now c.args.but c.args.from c.args.to c.args.records.now c.args.moved.now c.cycles.records c.cycles.moved (Some c.in-Some.cycle) w.0 w.1 =
    subst (λ (o : Option CycleId). AreCyclesMoving c.args.which.now c.args.but c.args.from c.args.to c.args.records.now c.args.moved.now c.cycles.records c.cycles.moved o w.0 w.1) c.in-Some.is w.2 in
    λ n. subst (HasDart c.cycles.records.graph) (sym (dart_is c.args.which.now c.args.but c.args.from c.args.to c.requires.two c.args.records.now c.args.moved.now c.cycles.records c.cycles.moved c.in-Some.cycle w.0 w.1 m c.face_laws.ensures.listed)) (subst (λ g. HasDart g ((lists_of c.args.records.now).dart_on c.in-Some.cycle)) (sym (graph_is c.args.which.now c.args.but c.args.from c.args.to c.requires.two c.args.records.now c.args.moved.now c.cycles.records c.cycles.moved c.in-Some.cycle w.0 w.1 m c.face_laws.ensures.listed)) (c.requires.darts c.in-Some.cycle (listed c.args.which.now c.args.but c.args.from c.args.to c.requires.two c.args.records.now c.args.moved.now c.cycles.records c.cycles.moved c.in-Some.cycle w.0 w.1 m c.face_laws.ensures.listed) n))

pub move_cycle-requires-clause-cycle : goal.move_cycle-requires-clause-cycle
move_cycle-requires-clause-cycle c =
    let w = c.cycles.invariant in
    let m : AreCyclesMoving c.args.which.now c.args.but c.args.from c.args.to c.args.records.now c.args.moved.now c.cycles.records c.cycles.moved (Some c.in-Some.cycle) w.0 w.1 =
    subst (λ (o : Option CycleId). AreCyclesMoving c.args.which.now c.args.but c.args.from c.args.to c.args.records.now c.args.moved.now c.cycles.records c.cycles.moved o w.0 w.1) c.in-Some.is w.2 in
    has_cycle c.args.which.now c.args.but c.args.from c.args.to c.requires.two c.args.records.now c.args.moved.now c.cycles.records c.cycles.moved c.in-Some.cycle w.0 w.1 m c.face_laws.ensures.listed

pub cycles-smaller-then-takes_cycle : goal.cycles-smaller-then-takes_cycle
cycles-smaller-then-takes_cycle c =
    let w = c.cycles.invariant in
    let m : AreCyclesMoving c.args.which.now c.args.but c.args.from c.args.to c.args.records.now c.args.moved.now c.cycles.records c.cycles.moved (Some c.in-Some.cycle) w.0 w.1 =
    subst (λ (o : Option CycleId). AreCyclesMoving c.args.which.now c.args.but c.args.from c.args.to c.args.records.now c.args.moved.now c.cycles.records c.cycles.moved o w.0 w.1) c.in-Some.is w.2 in
    let t = sym (taken_is c.args.which.now c.args.but c.args.from c.args.to c.requires.two c.args.records.now c.args.moved.now c.cycles.records c.cycles.moved c.in-Some.cycle w.0 w.1 m c.face_laws.ensures.listed) ∙ sym c.takes_cycle.ensures ∙ c.if-takes_cycle.true in
    subst (λ (o : Option CycleId). cycles_left c.move_cycle.new.self c.args.from c.cycle_after_in_face-next.result < cycles_left c.cycles.records c.args.from o) (sym c.in-Some.is) (goes_less c.args.which.now c.args.but c.args.from c.args.to c.requires.two c.args.records.now c.args.moved.now c.cycles.records c.cycles.moved c.in-Some.cycle w.0 w.1 m c.face_laws.ensures.listed c.cycle_after_in_face-next.result c.cycle_after_in_face-next.ensures t c.move_cycle.new.self c.move_cycle.ensures.lists)

pub cycles-preserved-then-takes_cycle : goal.cycles-preserved-then-takes_cycle
cycles-preserved-then-takes_cycle c =
    let w = c.cycles.invariant in
    let m : AreCyclesMoving c.args.which.now c.args.but c.args.from c.args.to c.args.records.now c.args.moved.now c.cycles.records c.cycles.moved (Some c.in-Some.cycle) w.0 w.1 =
    subst (λ (o : Option CycleId). AreCyclesMoving c.args.which.now c.args.but c.args.from c.args.to c.args.records.now c.args.moved.now c.cycles.records c.cycles.moved o w.0 w.1) c.in-Some.is w.2 in
    let t = sym (taken_is c.args.which.now c.args.but c.args.from c.args.to c.requires.two c.args.records.now c.args.moved.now c.cycles.records c.cycles.moved c.in-Some.cycle w.0 w.1 m c.face_laws.ensures.listed) ∙ sym c.takes_cycle.ensures ∙ c.if-takes_cycle.true in
    let still : IsStill c.cycles.records c.move_cycle.new.self = record { darts = λ i. (c.move_cycle.ensures.lists i).dart_on; spare = c.move_cycle.ensures.spare; returned = c.move_cycle.ensures.moved; graph = c.move_cycle.ensures.graph } in
    (w.0 ++ c.in-Some.cycle ∷ [], ys c.args.which.now c.args.but c.args.from c.args.to c.requires.two c.args.records.now c.args.moved.now c.cycles.records c.cycles.moved c.in-Some.cycle w.0 w.1 m c.face_laws.ensures.listed, goes c.args.which.now c.args.but c.args.from c.args.to c.requires.two c.args.records.now c.args.moved.now c.cycles.records c.cycles.moved c.in-Some.cycle w.0 w.1 m c.face_laws.ensures.listed c.cycle_after_in_face-next.result c.cycle_after_in_face-next.ensures t c.move_cycle.new.self c.move_cycle.ensures.lists c.move_cycle.ensures.tables c.face_laws.ensures.cycles_ascend still c.push_cycle.new.self c.push_cycle.ensures.cycles c.push_cycle.ensures.vertices c.push_cycle.ensures.room_of_cycles c.push_cycle.ensures.room_of_vertices)

pub cycles-smaller : goal.cycles-smaller
cycles-smaller c =
    let w = c.cycles.invariant in
    let m : AreCyclesMoving c.args.which.now c.args.but c.args.from c.args.to c.args.records.now c.args.moved.now c.cycles.records c.cycles.moved (Some c.in-Some.cycle) w.0 w.1 =
    subst (λ (o : Option CycleId). AreCyclesMoving c.args.which.now c.args.but c.args.from c.args.to c.args.records.now c.args.moved.now c.cycles.records c.cycles.moved o w.0 w.1) c.in-Some.is w.2 in
    let t = sym (taken_is c.args.which.now c.args.but c.args.from c.args.to c.requires.two c.args.records.now c.args.moved.now c.cycles.records c.cycles.moved c.in-Some.cycle w.0 w.1 m c.face_laws.ensures.listed) ∙ sym c.takes_cycle.ensures ∙ c.if-takes_cycle.false in
    subst (λ (o : Option CycleId). cycles_left c.cycles.records c.args.from c.cycle_after_in_face-next.result < cycles_left c.cycles.records c.args.from o) (sym c.in-Some.is) (stays_less c.args.which.now c.args.but c.args.from c.args.to c.requires.two c.args.records.now c.args.moved.now c.cycles.records c.cycles.moved c.in-Some.cycle w.0 w.1 m c.face_laws.ensures.listed c.cycle_after_in_face-next.result c.cycle_after_in_face-next.ensures t)

pub cycles-preserved : goal.cycles-preserved
cycles-preserved c =
    let w = c.cycles.invariant in
    let m : AreCyclesMoving c.args.which.now c.args.but c.args.from c.args.to c.args.records.now c.args.moved.now c.cycles.records c.cycles.moved (Some c.in-Some.cycle) w.0 w.1 =
    subst (λ (o : Option CycleId). AreCyclesMoving c.args.which.now c.args.but c.args.from c.args.to c.args.records.now c.args.moved.now c.cycles.records c.cycles.moved o w.0 w.1) c.in-Some.is w.2 in
    let t = sym (taken_is c.args.which.now c.args.but c.args.from c.args.to c.requires.two c.args.records.now c.args.moved.now c.cycles.records c.cycles.moved c.in-Some.cycle w.0 w.1 m c.face_laws.ensures.listed) ∙ sym c.takes_cycle.ensures ∙ c.if-takes_cycle.false in
    (w.0 ++ c.in-Some.cycle ∷ [], ys c.args.which.now c.args.but c.args.from c.args.to c.requires.two c.args.records.now c.args.moved.now c.cycles.records c.cycles.moved c.in-Some.cycle w.0 w.1 m c.face_laws.ensures.listed, stays c.args.which.now c.args.but c.args.from c.args.to c.requires.two c.args.records.now c.args.moved.now c.cycles.records c.cycles.moved c.in-Some.cycle w.0 w.1 m c.face_laws.ensures.listed c.cycle_after_in_face-next.result c.cycle_after_in_face-next.ensures t)
