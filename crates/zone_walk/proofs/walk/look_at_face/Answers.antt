use Rattle.zone_walk.proofs.Visited.{visit_on, face_gathered}
use Rattle.zone_walk.proofs.walk.look_at_face.Goals as goal

pub look_at_isolated-requires-clause-ready : goal.look_at_isolated-requires-clause-ready
look_at_isolated-requires-clause-ready g c =
    let v = g.T.NameCalls.graph c.args.sight.now in
    let now = c.args.looker.now in
    let (k, i) = c.requires.ready in
    (k, visit_on v (g.T.NameCalls.graph now.sight.now) (g.T.NameCalls.faces k.sight.now) (g.T.NameCalls.faces now.sight.now) k.face now.face now.entry k.search now.search c.gather_at.new.search (c.in_ok-gather_at.ensures v k.search c.requires.source) i)

pub look_at_boundary-requires-clause-ready : goal.look_at_boundary-requires-clause-ready
look_at_boundary-requires-clause-ready g c =
    let v = g.T.NameCalls.graph c.args.sight.now in
    let now = c.args.looker.now in
    let (k, i) = c.requires.ready in
    (k, visit_on v (g.T.NameCalls.graph now.sight.now) (g.T.NameCalls.faces k.sight.now) (g.T.NameCalls.faces now.sight.now) k.face now.face now.entry k.search now.search c.gather_at.new.search (c.in_ok-gather_at.ensures v k.search c.requires.source) i)

pub returns-then-looker-clause-ready : goal.returns-then-looker-clause-ready
returns-then-looker-clause-ready g c = λ k i.
    let v = g.T.NameCalls.graph c.args.sight.now in
    let now = c.args.looker.now in
    c.look_at_isolated.ensures.ready k (visit_on v (g.T.NameCalls.graph now.sight.now) (g.T.NameCalls.faces k.sight.now) (g.T.NameCalls.faces now.sight.now) k.face now.face now.entry k.search now.search c.gather_at.new.search (c.in_ok-gather_at.ensures v k.search c.requires.source) i)

pub returns-clause-ready : goal.returns-clause-ready
returns-clause-ready g c = λ k i.
    let v = g.T.NameCalls.graph c.args.sight.now in
    let now = c.args.looker.now in
    c.look_at_boundary.ensures.ready k (visit_on v (g.T.NameCalls.graph now.sight.now) (g.T.NameCalls.faces k.sight.now) (g.T.NameCalls.faces now.sight.now) k.face now.face now.entry k.search now.search c.gather_at.new.search (c.in_ok-gather_at.ensures v k.search c.requires.source) i)

pub returns-then-looker-clause-seen : goal.returns-then-looker-clause-seen
returns-then-looker-clause-seen g c =
    let v = g.T.NameCalls.graph c.args.sight.now in
    let f = g.T.NameCalls.faces c.args.sight.now in
    let now = c.args.looker.now in
    let l = c.look_at_isolated.new.looker in
    let (k, i) = c.requires.ready in
    face_gathered v f c.args.face k.search c.gather_at.new.search (c.in_ok-gather_at.ensures v k.search c.requires.source i.search) c.if-looker.true
    (g.T.NameCalls.faces now.sight.now) now.face (g.T.NameCalls.faces l.sight.now) l.face l.search c.look_at_isolated.ensures.still c.look_at_isolated.ensures.seen

pub gather_at-requires-clause-source : goal.gather_at-requires-clause-source
gather_at-requires-clause-source g c = (g.T.NameCalls.graph c.args.sight.now, c.requires.source)
