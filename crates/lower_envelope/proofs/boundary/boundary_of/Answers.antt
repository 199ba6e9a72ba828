use Rattle.std.proofs.Common.{subst}
use Rattle.lower_envelope.specs.Edges.{AreWithCycle}
use Rattle.lower_envelope.proofs.Boundaries.{AreOfCycles, of_none, one_more, cycles_begin, cycles_end, cycle_listed, cycles_nearer, cycles_go_on, all_of_face}
use Rattle.lower_envelope.proofs.boundary.boundary_of.Goals as goal

pub cycles-init : goal.cycles-init
cycles-init g c =
    let v = g.R.Darts.graph c.args.records.now in
    let f = g.R.Faced.faces c.args.records.now in
    let l = g.R.FaceLists.lists c.args.records.now in
    cycles_begin f l c.args.face c.requires.listed c.first_cycle_of-at.result (λ done. AreOfCycles v f done c.new-found.result.items) c.first_cycle_of-at.ensures (of_none v f c.new-found.result.items c.new-found.ensures.items)

pub dart_on-requires : goal.dart_on-requires
dart_on-requires g c =
    let v = g.R.Darts.graph c.args.records.now in
    let f = g.R.Faced.faces c.args.records.now in
    let l = g.R.FaceLists.lists c.args.records.now in
    (cycle_listed f l c.args.face c.requires.listed c.cycles.at (λ done. AreOfCycles v f done c.cycles.found.items) c.cycles.invariant c.in-Some.cycle c.in-Some.is).0

pub push_cycle-requires-clause-first : goal.push_cycle-requires-clause-first
push_cycle-requires-clause-first g c =
    let v = g.R.Darts.graph c.args.records.now in
    let f = g.R.Faced.faces c.args.records.now in
    let l = g.R.FaceLists.lists c.args.records.now in
    let there = cycle_listed f l c.args.face c.requires.listed c.cycles.at (λ done. AreOfCycles v f done c.cycles.found.items) c.cycles.invariant c.in-Some.cycle c.in-Some.is in
    rw c.dart_on.ensures (c.requires.darts c.in-Some.cycle there.0).0

pub cycle_after_in_face-at-requires : goal.cycle_after_in_face-at-requires
cycle_after_in_face-at-requires g c =
    let v = g.R.Darts.graph c.args.records.now in
    let f = g.R.Faced.faces c.args.records.now in
    let l = g.R.FaceLists.lists c.args.records.now in
    (cycle_listed f l c.args.face c.requires.listed c.cycles.at (λ done. AreOfCycles v f done c.cycles.found.items) c.cycles.invariant c.in-Some.cycle c.in-Some.is).0

pub cycles-smaller : goal.cycles-smaller
cycles-smaller g c =
    let v = g.R.Darts.graph c.args.records.now in
    let f = g.R.Faced.faces c.args.records.now in
    let l = g.R.FaceLists.lists c.args.records.now in
    cycles_nearer f l c.args.face c.requires.listed c.cycles.at (λ done. AreOfCycles v f done c.cycles.found.items) c.cycles.invariant c.in-Some.cycle c.in-Some.is c.cycle_after_in_face-at.result c.cycle_after_in_face-at.ensures

pub cycles-preserved : goal.cycles-preserved
cycles-preserved g c =
    let v = g.R.Darts.graph c.args.records.now in
    let f = g.R.Faced.faces c.args.records.now in
    let l = g.R.FaceLists.lists c.args.records.now in
    let there = cycle_listed f l c.args.face c.requires.listed c.cycles.at (λ done. AreOfCycles v f done c.cycles.found.items) c.cycles.invariant c.in-Some.cycle c.in-Some.is in
    let on = (c.requires.darts c.in-Some.cycle there.0).1 in
    let put = subst (λ d. AreWithCycle v f d c.cycles.found.items c.push_cycle.new.found.items) c.dart_on.ensures c.in_ok-push_cycle.ensures in
    cycles_go_on f l c.args.face c.requires.listed c.cycles.at (λ done. AreOfCycles v f done c.cycles.found.items) c.cycles.invariant c.in-Some.cycle c.in-Some.is c.cycle_after_in_face-at.result c.cycle_after_in_face-at.ensures
    (λ done. AreOfCycles v f done c.push_cycle.new.found.items)
    (λ done h. one_more v f done c.in-Some.cycle (l.dart_on c.in-Some.cycle) c.cycles.found.items c.push_cycle.new.found.items on h put)

pub returns : goal.returns
returns g c =
    let v = g.R.Darts.graph c.args.records.now in
    let f = g.R.Faced.faces c.args.records.now in
    let l = g.R.FaceLists.lists c.args.records.now in
    all_of_face v f c.requires.sound l c.requires.listed c.args.face c.cycles.found.items (cycles_end f l c.args.face c.requires.listed c.cycles.at (λ done. AreOfCycles v f done c.cycles.found.items) c.cycles.invariant c.in_default.is)
