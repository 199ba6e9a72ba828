use Rattle.record_orders.proofs.EdgeEnds.{option_alike, out_runs, none_runs}
use Rattle.locate_naive.proofs.edges.dart_between.Goals as goal

pub returns : goal.returns
returns c =
    let v = c.args.records.now.graph in
    let a = c.in_ok-from.ensures in
    let p = c.args.from.now in
    let q = c.args.to.now in
    option_alike c.dart_to.result _ _ _ _ (none_runs v c.requires c.in_ok-from.from p q a.0 a.1) (out_runs v c.requires c.in_ok-from.from p q a.0 a.1) c.dart_to.ensures
