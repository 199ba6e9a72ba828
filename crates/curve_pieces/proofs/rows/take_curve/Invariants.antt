use Rattle.std.proofs.Common.{◌≡◌, ◌≤◌, ℕ, Option}
use Rattle.std.specs.List.{filter}
use Rattle.slab.specs.Slab.{slab_len}
use Rattle.chain_laws.specs.Links.{AreListed}
use Rattle.curve_pieces.specs.PiecesInMemory.{curve_nodes, rows_from, with_head, IsIndexOf, IsOrder}
use Rattle.curve_pieces.proofs.Emptied.{is_other}
use Rattle.curve_pieces.proofs.rows.take_curve.Given as goal

abbrev pub invariant-each : goal.invariant-each
invariant-each l = record {
  order : IsOrder l.rows l.ends;
  rows : filter (is_other l.curve) (rows_from l.rows l.ends.first) ≡ filter (is_other l.curve) (rows_from l.fn.rows l.fn.ends.first);
  curves : (heads : ℕ → Option (Option ℕ)) → AreListed (with_head l.curve l.fn.first heads) (curve_nodes l.fn.rows) → AreListed (with_head l.curve l.at heads) (curve_nodes l.rows);
  len : slab_len l.rows ≤ slab_len l.fn.rows;
  capacity : l.rows.capacity ≡ l.fn.rows.capacity;
  index : IsIndexOf l.index (rows_from l.rows l.ends.first);
  whole : l.index.whole ≡ l.fn.index.whole;
}

abbrev pub decreases-each : goal.decreases-each
decreases-each l = slab_len l.rows
