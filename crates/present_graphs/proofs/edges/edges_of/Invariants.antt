use Rattle.std.proofs.Common.{◌≡◌, map, take}
use Rattle.plane_graphs.specs.Ascending.{ascending}
use Rattle.plane_graphs.specs.Graph.{edge_cmp, edge_of as edge_of_mark}
use Rattle.slab_laws.specs.SpansDrawn.{edge_of}
use Rattle.slab_laws.specs.Pieces.{present_of}
use Rattle.present_graphs.specs.Edges.{AreAlongPieces}
use Rattle.present_graphs.specs.Marks.{mark_of}
use Rattle.present_graphs.proofs.edges.edges_of.Given as goal

abbrev pub invariant-loop-mark : goal.invariant-loop-mark
invariant-loop-mark l = record {
  edges : map edge_of l.edges.items ≡ ascending edge_cmp (map edge_of_mark (take l.mark-index (map mark_of l.marks)));
  lines : AreAlongPieces (present_of l.present) l.edges.items;
}
