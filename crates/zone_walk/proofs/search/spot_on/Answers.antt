use Rattle.std.proofs.Common.{sym, ◌∙◌}
use Rattle.plane_graphs.specs.Line.{precedes}
use Rattle.rotation_order.proofs.Points.{told_same, told_other}
use Rattle.zone_walk.proofs.Searched.{at_source, at_target, at_forward, at_backward}
use Rattle.zone_walk.proofs.search.spot_on.Goals as goal

pub returns-then-eq : goal.returns-then-eq
returns-then-eq g c = λ o.
    at_source (g.T.NameCalls.graph c.args.sight.now) c.requires.sound c.args.dart c.requires.dart c.args.point.now
    (told_same c.args.point.now c.args.source.now c.args.point.now c.eq.result (λ i. c.args.point.now) c.eq.ensures c.if-eq.true ∙ c.requires.source) c.source.result c.source.ensures

pub returns-then-eq-2 : goal.returns-then-eq-2
returns-then-eq-2 g c = λ o.
    at_target (g.T.NameCalls.graph c.args.sight.now) c.requires.sound c.args.dart c.requires.dart c.args.point.now
    (told_same c.args.point.now c.args.target.now c.args.point.now c.eq-else-eq.result (λ i. c.args.point.now) c.eq-else-eq.ensures c.if-eq-2.true ∙ c.requires.target) c.target.result c.target.ensures

pub returns-then-lt : goal.returns-then-lt
returns-then-lt g c = λ o.
    let v = g.T.NameCalls.graph c.args.sight.now in
    at_forward v c.requires.sound c.args.dart c.requires.dart c.args.point.now
    (λ e. told_other c.args.point.now c.args.source.now c.args.point.now c.eq.result (λ i. c.args.point.now) c.eq.ensures c.if-eq.false (e ∙ sym c.requires.source))
    (λ e. told_other c.args.point.now c.args.target.now c.args.point.now c.eq-else-eq.result (λ i. c.args.point.now) c.eq-else-eq.ensures c.if-eq-2.false (e ∙ sym c.requires.target))
    ((λ i. precedes (sym c.requires.source i) (sym c.requires.target i)) ∙ sym c.lt.ensures ∙ c.if-lt.true) o

pub returns-else-lt : goal.returns-else-lt
returns-else-lt g c = λ o.
    let v = g.T.NameCalls.graph c.args.sight.now in
    at_backward v c.requires.sound c.args.dart c.requires.dart c.args.point.now
    (λ e. told_other c.args.point.now c.args.source.now c.args.point.now c.eq.result (λ i. c.args.point.now) c.eq.ensures c.if-eq.false (e ∙ sym c.requires.source))
    (λ e. told_other c.args.point.now c.args.target.now c.args.point.now c.eq-else-eq.result (λ i. c.args.point.now) c.eq-else-eq.ensures c.if-eq-2.false (e ∙ sym c.requires.target))
    ((λ i. precedes (sym c.requires.source i) (sym c.requires.target i)) ∙ sym c.lt.ensures ∙ c.if-lt.false) c.twin.result c.twin.ensures.twin o
