use Rattle.std.proofs.Common.{sym}
use Rattle.slab_laws.specs.Sound.{edge_between}
use Rattle.record_orders.proofs.EdgeEnds.{option_alike, along_runs, runs_along, behind}
use Rattle.locate_naive.proofs.edges.edge_dart.Goals as goal

pub returns-else-lt : goal.returns-else-lt
returns-else-lt c =
    let v = c.args.records.now.graph in
    let p = c.args.p.now in
    let q = c.args.q.now in
    let back = sym c.if-lt.ensures in
    let e = edge_between p q in
    let same = behind p q back in
    option_alike c.dart_between-else-lt.result _ _ _ _ (λ none d a. none d (along_runs v c.requires e q p same d a)) (runs_along v c.requires e q p same back) c.dart_between-else-lt.ensures
