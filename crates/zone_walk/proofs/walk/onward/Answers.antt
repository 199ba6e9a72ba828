use Rattle.std.proofs.Common.{arith, sym, ◌∙◌, subst}
use Rattle.exact_plane.specs.Point.{Point}
use Rattle.exact_plane.specs.Segment.{Segment}
use Rattle.plane_graphs.proofs.Lines.{point_is_proper}
use Rattle.plane_graphs.proofs.Order.{lt_out}
use Rattle.dcel_records.specs.declared.spot.Spot.{Spot}
use Rattle.dcel_records.specs.declared.spot.Spot.TheVariants.{Edge, Face}
use Rattle.zone_walk.specs.Searches.{IsBehind}
use Rattle.zone_walk.specs.Walk.{IsPartAhead, IsNextOf}
use Rattle.zone_walk.proofs.Courses.{course, lies_out}
use Rattle.zone_walk.proofs.Nexts.{size_fits, named_face}
use Rattle.zone_walk.proofs.Zoned.{at_itself}
use Rattle.zone_walk.proofs.walk.onward.Goals as goal

pub visit-requires-clause-face : goal.visit-requires-clause-face
visit-requires-clause-face g c =
    let v = g.T.NameCalls.graph c.args.sight.now in
    let f = g.T.NameCalls.faces c.args.sight.now in
    let s : Segment = c.args.looker.now.search.segment in
    let p : Point = c.args.here.now.point in
    let k = course s c.requires.search.search.search.ends in
    let part = subst (λ (z : Spot). IsPartAhead v f s p z c.part_ahead-part.result.1) c.in-Face.is c.part_ahead-part.ensures.part in
    named_face v f c.requires.sound s k p (point_is_proper p c.laws.ensures) (lies_out s p c.requires.on) (lt_out p s.upper c.requires.before) c.in-Face.face part.0 part.1

pub visit-requires-clause-entry : goal.visit-requires-clause-entry
visit-requires-clause-entry g c =
    subst (λ (x : Point). IsBehind (g.T.NameCalls.graph c.args.sight.now) c.args.looker.now.search.segment x c.part_ahead-part.result.2) (sym c.requires.here) c.part_ahead-part.ensures.entry

pub returns-in_err-visit-in-Face-clause-looks : goal.returns-in_err-visit-in-Face-clause-looks
returns-in_err-visit-in-Face-clause-looks g c = λ n h.
    let v = g.T.NameCalls.graph c.args.sight.now in
    let f = g.T.NameCalls.faces c.args.sight.now in
    let s : Segment = c.args.looker.now.search.segment in
    let p : Point = c.args.here.now.point in
    let k = course s c.requires.search.search.search.ends in
    let part = subst (λ (z : Spot). IsPartAhead v f s p z c.part_ahead-part.result.1) c.in-Face.is c.part_ahead-part.ensures.part in
    let m = size_fits v f c.requires.sound s k p (point_is_proper p c.laws.ensures) (lies_out s p c.requires.on) (lt_out p s.upper c.requires.before) c.in-Face.face part.0 part.1 n h in
    let a = c.part_ahead-part.ensures.count in
    let b = c.visit.ensures.count in
    omega arith

pub returns-in_ok-visit-in-Face-clause-looks : goal.returns-in_ok-visit-in-Face-clause-looks
returns-in_ok-visit-in-Face-clause-looks g c = λ n h.
    let v = g.T.NameCalls.graph c.args.sight.now in
    let f = g.T.NameCalls.faces c.args.sight.now in
    let s : Segment = c.args.looker.now.search.segment in
    let p : Point = c.args.here.now.point in
    let k = course s c.requires.search.search.search.ends in
    let part = subst (λ (z : Spot). IsPartAhead v f s p z c.part_ahead-part.result.1) c.in-Face.is c.part_ahead-part.ensures.part in
    let m = size_fits v f c.requires.sound s k p (point_is_proper p c.laws.ensures) (lies_out s p c.requires.on) (lt_out p s.upper c.requires.before) c.in-Face.face part.0 part.1 n h in
    let a = c.part_ahead-part.ensures.count in
    let b = c.visit.ensures.count in
    omega arith

pub next_inside-next-requires-clause-part : goal.next_inside-next-requires-clause-part
next_inside-next-requires-clause-part g c =
    let v = g.T.NameCalls.graph c.args.sight.now in
    let f = g.T.NameCalls.faces c.args.sight.now in
    let s : Segment = c.args.looker.now.search.segment in
    let p : Point = c.args.here.now.point in
    let part = subst (λ (z : Spot). IsPartAhead v f s p z c.part_ahead-part.result.1) c.in-Face.is c.part_ahead-part.ensures.part in
    let at = c.in_ok-visit-in-Face.ensures.search.search in
    subst (λ (z : Segment). IsPartAhead v f z c.visit.new.looker.search.here (Face c.in-Face.face) z.lower) (sym at.segment)
    (subst (λ (x : Point). IsPartAhead v f s x (Face c.in-Face.face) s.lower) (sym (at.here ∙ c.requires.here)) part)

pub next_along-next-requires-clause-search : goal.next_along-next-requires-clause-search
next_along-next-requires-clause-search g c = c.requires.search.search

pub next_inside-next-requires-clause-search : goal.next_inside-next-requires-clause-search
next_inside-next-requires-clause-search g c =
    let v = g.T.NameCalls.graph c.args.sight.now in
    let f = g.T.NameCalls.faces c.args.sight.now in
    at_itself v f c.requires.sound.graph c.args.looker.now.search.segment c.visit.new.looker.search c.args.looker.now.search.here c.in_ok-visit-in-Face.ensures.search.search

pub returns-in-Edge-clause-graph : goal.returns-in-Edge-clause-graph
returns-in-Edge-clause-graph g c = c.requires.search.graph

pub returns-in-Edge-clause-faces : goal.returns-in-Edge-clause-faces
returns-in-Edge-clause-faces g c = c.requires.search.faces

pub returns-in_ok-visit-in-Face-clause-graph : goal.returns-in_ok-visit-in-Face-clause-graph
returns-in_ok-visit-in-Face-clause-graph g c = c.in_ok-visit-in-Face.ensures.search.graph

pub returns-in_ok-visit-in-Face-clause-faces : goal.returns-in_ok-visit-in-Face-clause-faces
returns-in_ok-visit-in-Face-clause-faces g c = c.in_ok-visit-in-Face.ensures.search.faces

pub returns-in-Edge-clause-next : goal.returns-in-Edge-clause-next
returns-in-Edge-clause-next g c =
    let v = g.T.NameCalls.graph c.args.sight.now in
    let f = g.T.NameCalls.faces c.args.sight.now in
    let s : Segment = c.args.looker.now.search.segment in
    subst (λ (x : Point). IsNextOf v f s x (Edge c.in-Edge.dart) c.next_along-next.result c.next_along-next.new.search) c.requires.here c.next_along-next.ensures

pub returns-in_ok-visit-in-Face-clause-next : goal.returns-in_ok-visit-in-Face-clause-next
returns-in_ok-visit-in-Face-clause-next g c =
    let v = g.T.NameCalls.graph c.args.sight.now in
    let f = g.T.NameCalls.faces c.args.sight.now in
    let s : Segment = c.args.looker.now.search.segment in
    let at = c.in_ok-visit-in-Face.ensures.search.search in
    subst (λ (x : Point). IsNextOf v f s x (Face c.in-Face.face) c.next_inside-next.result c.next_inside-next.new.search) (at.here ∙ c.requires.here)
    (subst (λ (w : Segment). IsNextOf v f w c.visit.new.looker.search.here (Face c.in-Face.face) c.next_inside-next.result c.next_inside-next.new.search) at.segment c.next_inside-next.ensures)
