use Rattle.std.proofs.Common.{length, sym}
use Rattle.std.proofs.lemmas.Bool.{ltb-true}
use Rattle.overlay_sweep.proofs.OwnAlong.{none_along, read_along}
use Rattle.overlay_sweep.proofs.known.own_along.Goals as goal

pub returns-in_err-stretch : goal.returns-in_err-stretch
returns-in_err-stretch c = none_along c.args.stretches.now c.requires c.args.edge.now c.args.first c.end_before-end.result c.end_before-end.ensures c.args.count c.from_residual.result c.in_err-stretch.ensures.lookup.0 c.from_residual.ensures

pub returns : goal.returns
returns c =
    let xs = c.args.stretches.now in
    let n = c.end_before-end.result in
    read_along xs c.requires c.args.edge.now c.args.first n c.end_before-end.ensures c.args.count c.in_ok-stretch.stretch.now c.place_of_own.result (ltb-true n (length xs) (sym c.in_ok-stretch.ensures.lookup.0)) c.in_ok-stretch.ensures.lookup.1 c.place_of_own.ensures
