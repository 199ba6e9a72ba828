use Rattle.std.proofs.Common.{sym, subst, rules}
use Rattle.plane_graphs.specs.Fit.{IsFit}
use Rattle.arrangement.proofs.PresentsRead.{read}
use Rattle.arrangement.proofs.presents.present_of.Goals as goal

pub returns-clause-present : goal.returns-clause-present
returns-clause-present c =
    rw (← c.layer.view_is) (read c.layer.inside.records.graph c.layer.inside.history c.layer.invariant.0 c.in_ok-pieces.pieces c.in_ok-pins.pins c.in_ok-pieces.ensures c.in_ok-pins.ensures)

pub returns-clause-fit : goal.returns-clause-fit
returns-clause-fit c =
    subst IsFit (sym (read c.layer.inside.records.graph c.layer.inside.history c.layer.invariant.0 c.in_ok-pieces.pieces c.in_ok-pins.pins c.in_ok-pieces.ensures c.in_ok-pins.ensures)) c.layer.invariant.0.lawful.fit

pub same-pieces : goal.same-pieces
same-pieces c = search rules
