use Rattle.std.proofs.Common.{sym, ◌∙◌, subst}
use Rattle.slab_laws.specs.declared.names.DartId.{DartId}
use Rattle.slab_laws.specs.View.{HasDart}
use Rattle.counted_looks.specs.declared.boundary_part.BoundaryPart.TheVariants.{Dart}
use Rattle.zone_walk.specs.Searches.{HasLooked}
use Rattle.zone_walk.proofs.Visited.{cycle_looked}
use Rattle.zone_walk.proofs.search.VisitLooker.look_at_cycle.Goals as goal

pub see-requires-clause-dart : goal.see-requires-clause-dart
see-requires-clause-dart g c = subst (HasDart (g.T.NameCalls.graph c.args.sight.now)) (sym c.glimpse_cycle-looked.ensures.look.dart) (c.requires.darts c.args.cycle c.requires.cycle).0

pub returns-then-is_outside-clause-first : goal.returns-then-is_outside-clause-first
returns-then-is_outside-clause-first g c =
    let v = g.T.NameCalls.graph c.args.sight.now in
    let now = c.args.self.now in
    let h = c.requires.ready in
    let on = c.requires.darts c.args.cycle c.requires.cycle in
    cycle_looked v h.0.search now.search h.1.search (g.T.NameCalls.faces now.sight.now) (g.T.NameCalls.faces c.args.sight.now) now.face (g.T.NameCalls.lists c.args.sight.now) c.args.cycle c.glimpse_cycle-looked.result c.glimpse_cycle-looked.ensures.look (sym c.is_outside.ensures ∙ c.if-is_outside.true) _ on.0 on.1

pub returns-then-is_outside-clause-whole : goal.returns-then-is_outside-clause-whole
returns-then-is_outside-clause-whole g c = λ t.
    let v = g.T.NameCalls.graph c.args.sight.now in
    let now = c.args.self.now in
    let h = c.requires.ready in
    cycle_looked v h.0.search now.search h.1.search (g.T.NameCalls.faces now.sight.now) (g.T.NameCalls.faces c.args.sight.now) now.face (g.T.NameCalls.lists c.args.sight.now) c.args.cycle c.glimpse_cycle-looked.result c.glimpse_cycle-looked.ensures.look (sym c.is_outside.ensures ∙ c.if-is_outside.true)

pub returns-clause-first : goal.returns-clause-first
returns-clause-first g c =
    let v = g.T.NameCalls.graph c.args.sight.now in
    let l = c.see.new.self in
    subst (λ (d : DartId). HasLooked v (g.T.NameCalls.faces l.sight.now) l.face l.search (Dart d)) c.glimpse_cycle-looked.ensures.look.dart c.see.ensures.seen
