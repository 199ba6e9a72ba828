use Rattle.std.proofs.Common.{◌≡◌, ℕ, length, take}
use Rattle.std.specs.Prelude.{slice_index_or}
use Rattle.plane_graphs.specs.Ascending.{Member}
use Rattle.sweep_graphs.proofs.trace.set_lasts.Given as goal

abbrev pub invariant-loop-piece : goal.invariant-loop-piece
invariant-loop-piece l = record {
  counted : length l.lasts.items ≡ length l.fn.lasts.items;
  set : (i : ℕ) → Member i (take l.piece-index l.pieces) → slice_index_or l.lasts.items i 0 ≡ l.vertex;
  kept : (i : ℕ) → (Member i (take l.piece-index l.pieces) → ⊥) → slice_index_or l.lasts.items i 0 ≡ slice_index_or l.fn.lasts.items i 0;
}
