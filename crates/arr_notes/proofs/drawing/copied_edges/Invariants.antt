use Rattle.std.proofs.Common.{◌≡◌, take}
use Rattle.arr_notes.proofs.drawing.copied_edges.Given as goal

abbrev pub invariant-loop-edge : goal.invariant-loop-edge
invariant-loop-edge l = l.rows ≡ take l.edge-index l.edges
