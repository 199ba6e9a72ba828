use Rattle.std.proofs.Common.{refl}
use Rattle.counted_looks.proofs.PartsSeen.{isolated_begin, isolated_end, vertex_listed, isolated_nearer, isolated_go_on}
use Rattle.counted_looks.proofs.boundary.look_at_isolated.Goals as goal

pub vertices-init : goal.vertices-init
vertices-init g c =
    let v = g.S.NameCalls.graph c.args.sight.now in
    let f = g.S.NameCalls.faces c.args.sight.now in
    let l = g.S.NameCalls.lists c.args.sight.now in
    record {
      kept = λ k m. m;
      still = λ t k. k;
      read = isolated_begin v f l c.args.face c.requires.lists (g.K.Looker.has_seen v c.args.looker.now) c.args.steps.now c.args.steps.now c.first_isolated_in-at.result c.first_isolated_in-at.ensures refl;
    }

pub look-requires-clause-ready : goal.look-requires-clause-ready
look-requires-clause-ready g c = (c.requires.ready.0, c.vertices.invariant.kept c.requires.ready.0 c.requires.ready.1)

pub look-requires-clause-at : goal.look-requires-clause-at
look-requires-clause-at g c =
    let v = g.S.NameCalls.graph c.args.sight.now in
    let f = g.S.NameCalls.faces c.args.sight.now in
    let l = g.S.NameCalls.lists c.args.sight.now in
    c.requires.sound.complete.bare_vertex c.in-Some.vertex
    (vertex_listed v f l c.args.face c.requires.lists (g.K.Looker.has_seen v c.vertices.looker) c.args.steps.now c.vertices.steps c.vertices.at c.vertices.invariant.read c.in-Some.vertex c.in-Some.is).0

pub isolated_after_in_face-after-requires : goal.isolated_after_in_face-after-requires
isolated_after_in_face-after-requires g c =
    let v = g.S.NameCalls.graph c.args.sight.now in
    let f = g.S.NameCalls.faces c.args.sight.now in
    let l = g.S.NameCalls.lists c.args.sight.now in
    (vertex_listed v f l c.args.face c.requires.lists (g.K.Looker.has_seen v c.vertices.looker) c.args.steps.now c.vertices.steps c.vertices.at c.vertices.invariant.read c.in-Some.vertex c.in-Some.is).0

pub vertices-smaller : goal.vertices-smaller
vertices-smaller g c =
    let v = g.S.NameCalls.graph c.args.sight.now in
    let f = g.S.NameCalls.faces c.args.sight.now in
    let l = g.S.NameCalls.lists c.args.sight.now in
    isolated_nearer v f l c.args.face c.requires.lists (g.K.Looker.has_seen v c.vertices.looker) c.args.steps.now c.vertices.steps c.vertices.at c.vertices.invariant.read c.in-Some.vertex c.in-Some.is c.isolated_after_in_face-after.result c.isolated_after_in_face-after.ensures

pub vertices-preserved : goal.vertices-preserved
vertices-preserved g c =
    let v = g.S.NameCalls.graph c.args.sight.now in
    let f = g.S.NameCalls.faces c.args.sight.now in
    let l = g.S.NameCalls.lists c.args.sight.now in
    let e = c.look.ensures in
    record {
      kept = λ k m. e.ready k (c.vertices.invariant.kept k m);
      still = λ t k. e.still t (c.vertices.invariant.still t k);
      read = isolated_go_on v f l c.args.face c.requires.lists (g.K.Looker.has_seen v c.vertices.looker) c.args.steps.now c.vertices.steps c.vertices.at c.vertices.invariant.read c.in-Some.vertex c.in-Some.is c.isolated_after_in_face-after.result c.isolated_after_in_face-after.ensures
          (g.K.Looker.has_seen v c.look.new.self) c.look.new.steps e.still e.seen e.one;
    }

pub returns-clause-seen : goal.returns-clause-seen
returns-clause-seen g c =
    let v = g.S.NameCalls.graph c.args.sight.now in
    let f = g.S.NameCalls.faces c.args.sight.now in
    let l = g.S.NameCalls.lists c.args.sight.now in
    (isolated_end v f l c.args.face c.requires.lists (g.K.Looker.has_seen v c.vertices.looker) c.args.steps.now c.vertices.steps c.vertices.at c.vertices.invariant.read c.in_default.is).0

pub returns-clause-count : goal.returns-clause-count
returns-clause-count g c =
    let v = g.S.NameCalls.graph c.args.sight.now in
    let f = g.S.NameCalls.faces c.args.sight.now in
    let l = g.S.NameCalls.lists c.args.sight.now in
    (isolated_end v f l c.args.face c.requires.lists (g.K.Looker.has_seen v c.vertices.looker) c.args.steps.now c.vertices.steps c.vertices.at c.vertices.invariant.read c.in_default.is).1
