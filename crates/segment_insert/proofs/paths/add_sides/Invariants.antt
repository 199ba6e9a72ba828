use Rattle.std.proofs.Common.{◌≡◌, ◌+◌, ◌≤◌, length}
use Rattle.curve_history.specs.Past.{SameCurves, SameStrands}
use Rattle.segment_insert.proofs.PathSides.{AreComing}
use Rattle.segment_insert.proofs.paths.add_sides.Given as goal

abbrev pub invariant-each : goal.invariant-each
invariant-each l = record {
  coming : AreComing l.fn.history.pieces l.curve.0 l.sides l.history.pieces l.place;
  many : length l.history.pieces ≡ length l.fn.history.pieces + l.place;
  room : length l.sides ≤ l.history.spare_pieces + l.place;
  names : l.history.names ≡ l.fn.history.names;
  next : l.history.next ≡ l.fn.history.next;
  strands : SameStrands l.fn.history l.history;
  curves : SameCurves l.fn.history l.history;
  spare_pairs : l.fn.history.spare_pairs ≤ l.history.spare_pairs;
}
