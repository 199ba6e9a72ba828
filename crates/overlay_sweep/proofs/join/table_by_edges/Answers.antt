use Rattle.std.proofs.Common.{sym, subst}
use Rattle.slab_laws.specs.Pieces.{present_of}
use Rattle.overlay_sweep.specs.OwnEdges.{AreOwnEdges}
use Rattle.overlay_sweep.proofs.OwnOrder.{still_own}
use Rattle.overlay_sweep.proofs.join.table_by_edges.Goals as goal

pub table_of-table-requires-clause-own : goal.table_of-table-requires-clause-own
table_of-table-requires-clause-own c =
    subst (AreOwnEdges (present_of c.args.layer.now)) (sym c.deref.ensures.value) (still_own (present_of c.args.layer.now) c.args.edges.items c.sort_edges.new.edges.items c.sort_edges.ensures.same c.requires.own)
