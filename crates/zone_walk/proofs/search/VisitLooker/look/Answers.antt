use Rattle.std.proofs.Common.{sym, subst}
use Rattle.zone_walk.specs.Searches.{HasLooked}
use Rattle.zone_walk.proofs.Visited.{looked_on, visit_on}
use Rattle.zone_walk.proofs.search.VisitLooker.look.Goals as goal

pub returns-in-Dart-clause-seen : goal.returns-in-Dart-clause-seen
returns-in-Dart-clause-seen g c =
    let v = g.T.NameCalls.graph c.args.sight.now in
    let l = c.see.new.self in
    subst (HasLooked v (g.T.NameCalls.faces l.sight.now) l.face l.search) (sym c.in-Dart.is) c.see.ensures.seen

pub returns-in-Isolated-clause-ready : goal.returns-in-Isolated-clause-ready
returns-in-Isolated-clause-ready g c = λ k i.
    let v = g.T.NameCalls.graph c.args.sight.now in
    let now = c.args.self.now in
    visit_on v (g.T.NameCalls.graph now.sight.now) (g.T.NameCalls.faces k.sight.now) (g.T.NameCalls.faces now.sight.now) k.face now.face now.entry k.search now.search c.look_at_vertex.new.search (c.look_at_vertex.ensures.ready k.search) i

pub returns-in-Isolated-clause-seen : goal.returns-in-Isolated-clause-seen
returns-in-Isolated-clause-seen g c =
    let v = g.T.NameCalls.graph c.args.sight.now in
    subst (HasLooked v (g.T.NameCalls.faces c.args.self.now.sight.now) c.args.self.now.face c.look_at_vertex.new.search) (sym c.in-Isolated.is) c.look_at_vertex.ensures.seen

pub returns-in-Isolated-clause-still : goal.returns-in-Isolated-clause-still
returns-in-Isolated-clause-still g c =
    looked_on (g.T.NameCalls.graph c.args.sight.now) (g.T.NameCalls.faces c.args.self.now.sight.now) c.args.self.now.face c.args.self.now.search c.look_at_vertex.new.search c.look_at_vertex.ensures.still
