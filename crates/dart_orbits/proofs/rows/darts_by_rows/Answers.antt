use Rattle.slab_laws.specs.SpansDrawn.{drawn}
use Rattle.dart_orbits.proofs.Listed.{rows_sorted}
use Rattle.dart_orbits.proofs.rows.darts_by_rows.Goals as goal

pub returns : goal.returns
returns c =
    rows_sorted (drawn c.args.points.now c.args.edges.now) c.args.ahead.now c.in_ok-rows.rows.items c.sort.new.self.items c.requires.plane c.requires.ascend c.requires.ahead c.in_ok-rows.ensures c.sort.ensures.permutation c.in_ok-sort.ensures.sorted
