use Rattle.curve_history.proofs.Histories.{sees}
use Rattle.curve_history.proofs.Passing.{dart_told, none_as, not_passed, passed, some_as}
use Rattle.curve_history.proofs.history.History.edge_at.Goals as goal

pub edge_along-requires-clause-darts : goal.edge_along-requires-clause-darts
edge_along-requires-clause-darts g c = dart_told c.self.inside c.args.self.now (sees c.self.inside c.args.self.now c.self.view_is) c.self.invariant.pairs (g.R.Darts.graph c.args.records.now) c.requires.told.curves c.args.piece.now.curve.0

pub returns-clause-some : goal.returns-clause-some
returns-clause-some g c = some_as _ _ c.edge_along.result (passed c.self.inside c.args.self.now (sees c.self.inside c.args.self.now c.self.view_is) c.self.invariant.pairs (g.R.Darts.graph c.args.records.now) c.requires.told.curves c.args.piece.now c.args.p.now c.strand.result c.strand.ensures) c.edge_along.ensures.some

pub returns-clause-none : goal.returns-clause-none
returns-clause-none g c = none_as _ _ c.edge_along.result (not_passed c.self.inside c.args.self.now (sees c.self.inside c.args.self.now c.self.view_is) c.self.invariant.pairs (g.R.Darts.graph c.args.records.now) c.requires.told.curves c.args.piece.now c.args.p.now c.strand.result c.strand.ensures c.requires.side) c.edge_along.ensures.none
