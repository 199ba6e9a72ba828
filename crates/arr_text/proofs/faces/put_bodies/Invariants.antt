use Rattle.std.proofs.Common.{◌≡◌, ◌++◌, ℕ, List, drop}
use Rattle.std.specs.Prelude.{flat_map}
use Rattle.slab_laws.specs.Text.{numbered}
use Rattle.arr_text.specs.Parts.{face_line, labels_at}
use Rattle.arr_text.proofs.faces.put_bodies.Given as goal

abbrev pub invariant-loop-rank : goal.invariant-loop-rank
invariant-loop-rank g l =
    let write = λ (b : ℕ × List ℕ). face_line b.0 (labels_at (g.W.Words.labels l.records) l.faces b.0) ++ b.1 in
    l.fn.out.items ++ flat_map write (numbered 0 l.bodies) ≡ l.out.items ++ flat_map write (numbered l.rank (drop l.rank l.bodies))
