use Rattle.std.proofs.Common.{refl}
use Rattle.counted_looks.proofs.PartsSeen.{cycles_begin, cycles_end, cycle_listed, cycles_nearer, cycles_go_on}
use Rattle.counted_looks.proofs.boundary.look_at_cycles.Goals as goal

pub cycles-init : goal.cycles-init
cycles-init g c =
    let v = g.S.NameCalls.graph c.args.sight.now in
    let f = g.S.NameCalls.faces c.args.sight.now in
    let l = g.S.NameCalls.lists c.args.sight.now in
    record {
      kept = λ k m. m;
      still = λ t k. k;
      read = cycles_begin v f l c.args.face c.requires.sound c.requires.lists (g.K.Looker.has_seen v c.args.looker.now) c.args.steps.now c.args.steps.now c.first_cycle_of-at.result c.first_cycle_of-at.ensures refl;
    }

pub look_on_cycle-requires-clause-ready : goal.look_on_cycle-requires-clause-ready
look_on_cycle-requires-clause-ready g c = (c.requires.ready.0, c.cycles.invariant.kept c.requires.ready.0 c.requires.ready.1)

pub look_on_cycle-requires-clause-cycle : goal.look_on_cycle-requires-clause-cycle
look_on_cycle-requires-clause-cycle g c =
    let v = g.S.NameCalls.graph c.args.sight.now in
    let f = g.S.NameCalls.faces c.args.sight.now in
    let l = g.S.NameCalls.lists c.args.sight.now in
    (cycle_listed v f l c.args.face c.requires.sound c.requires.lists (g.K.Looker.has_seen v c.cycles.looker) c.args.steps.now c.cycles.steps c.cycles.at c.cycles.invariant.read c.in-Some.cycle c.in-Some.is).0

pub cycle_after_in_face-at-requires : goal.cycle_after_in_face-at-requires
cycle_after_in_face-at-requires g c =
    let v = g.S.NameCalls.graph c.args.sight.now in
    let f = g.S.NameCalls.faces c.args.sight.now in
    let l = g.S.NameCalls.lists c.args.sight.now in
    (cycle_listed v f l c.args.face c.requires.sound c.requires.lists (g.K.Looker.has_seen v c.cycles.looker) c.args.steps.now c.cycles.steps c.cycles.at c.cycles.invariant.read c.in-Some.cycle c.in-Some.is).0

pub cycles-smaller : goal.cycles-smaller
cycles-smaller g c =
    let v = g.S.NameCalls.graph c.args.sight.now in
    let f = g.S.NameCalls.faces c.args.sight.now in
    let l = g.S.NameCalls.lists c.args.sight.now in
    cycles_nearer v f l c.args.face c.requires.sound c.requires.lists (g.K.Looker.has_seen v c.cycles.looker) c.args.steps.now c.cycles.steps c.cycles.at c.cycles.invariant.read c.in-Some.cycle c.in-Some.is c.cycle_after_in_face-at.result c.cycle_after_in_face-at.ensures

pub cycles-preserved : goal.cycles-preserved
cycles-preserved g c =
    let v = g.S.NameCalls.graph c.args.sight.now in
    let f = g.S.NameCalls.faces c.args.sight.now in
    let l = g.S.NameCalls.lists c.args.sight.now in
    let e = c.look_on_cycle.ensures in
    record {
      kept = λ k m. e.ready k (c.cycles.invariant.kept k m);
      still = λ t k. e.still t (c.cycles.invariant.still t k);
      read = cycles_go_on v f l c.args.face c.requires.sound c.requires.lists (g.K.Looker.has_seen v c.cycles.looker) c.args.steps.now c.cycles.steps c.cycles.at c.cycles.invariant.read c.in-Some.cycle c.in-Some.is c.cycle_after_in_face-at.result c.cycle_after_in_face-at.ensures
          (g.K.Looker.has_seen v c.look_on_cycle.new.looker) c.look_on_cycle.new.steps e.still e.seen e.count;
    }

pub returns-clause-seen : goal.returns-clause-seen
returns-clause-seen g c =
    let v = g.S.NameCalls.graph c.args.sight.now in
    let f = g.S.NameCalls.faces c.args.sight.now in
    let l = g.S.NameCalls.lists c.args.sight.now in
    (cycles_end v f l c.args.face c.requires.sound c.requires.lists (g.K.Looker.has_seen v c.cycles.looker) c.args.steps.now c.cycles.steps c.cycles.at c.cycles.invariant.read c.in_default.is).0

pub returns-clause-count : goal.returns-clause-count
returns-clause-count g c =
    let v = g.S.NameCalls.graph c.args.sight.now in
    let f = g.S.NameCalls.faces c.args.sight.now in
    let l = g.S.NameCalls.lists c.args.sight.now in
    (cycles_end v f l c.args.face c.requires.sound c.requires.lists (g.K.Looker.has_seen v c.cycles.looker) c.args.steps.now c.cycles.steps c.cycles.at c.cycles.invariant.read c.in_default.is).1
