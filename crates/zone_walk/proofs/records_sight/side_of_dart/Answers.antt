use Rattle.std.proofs.Common.{sym, ap, ◌∙◌}
use Rattle.exact_plane.specs.Line.{side_of}
use Rattle.exact_plane.specs.Sign.{sign_of}
use Rattle.plane_graphs.specs.Line.{precedes}
use Rattle.zone_walk.proofs.SeenSpans.{span_is, side_ahead, side_back}
use Rattle.zone_walk.proofs.records_sight.side_of_dart.Goals as goal

pub returns-then-lt-clause-span : goal.returns-then-lt-clause-span
returns-then-lt-clause-span c = span_is c.args.records.now.graph c.requires.sound c.args.dart c.requires.dart c.args.source.now c.args.target.now c.line-line.result c.requires.source c.requires.target c.line-line.ensures.line c.laws.ensures c.laws-2.ensures c.laws-3.ensures

pub returns-else-lt-clause-span : goal.returns-else-lt-clause-span
returns-else-lt-clause-span c = span_is c.args.records.now.graph c.requires.sound c.args.dart c.requires.dart c.args.source.now c.args.target.now c.line-line.result c.requires.source c.requires.target c.line-line.ensures.line c.laws.ensures c.laws-2.ensures c.laws-3.ensures

pub returns-then-lt-clause-side : goal.returns-then-lt-clause-side
returns-then-lt-clause-side c =
    let v = c.args.records.now.graph in
    side_ahead v c.requires.sound c.args.dart c.requires.dart (returns-then-lt-clause-span c) c.args.point.now c.side-along.result
    ((λ i. precedes (sym c.requires.source i) (sym c.requires.target i)) ∙ sym c.lt.ensures ∙ c.if-lt.true)
    (c.side-along.ensures ∙ ap (λ l. sign_of (side_of l c.args.point.now)) c.line-line.ensures.line)

pub returns-else-lt-clause-side : goal.returns-else-lt-clause-side
returns-else-lt-clause-side c =
    let v = c.args.records.now.graph in
    c.turned.ensures
    ∙ side_back v c.requires.sound c.args.dart c.requires.dart (returns-else-lt-clause-span c) c.args.point.now c.side-along.result
    ((λ i. precedes (sym c.requires.source i) (sym c.requires.target i)) ∙ sym c.lt.ensures ∙ c.if-lt.false)
    (c.side-along.ensures ∙ ap (λ l. sign_of (side_of l c.args.point.now)) c.line-line.ensures.line)
