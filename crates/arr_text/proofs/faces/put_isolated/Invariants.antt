use Rattle.std.proofs.Common.{◌++◌, not, drop}
use Rattle.std.specs.Prelude.{codes}
use Rattle.std.specs.List.{position_or_len}
use Rattle.slab_laws.specs.Sound.{skeleton_of}
use Rattle.slab_laws.specs.Subdivision.{has_dart}
use Rattle.slab_laws.specs.Text.{ended, number, index}
use Rattle.slab_laws.specs.View.{bare_face_in}
use Rattle.record_orders.specs.declared.vertices.VertexKey.{VertexKey}
use Rattle.record_orders.specs.CycleKeys.{same_face}
use Rattle.arr_text.proofs.FaceBodies.{IsGaining}
use Rattle.arr_text.proofs.faces.put_isolated.Given as goal

abbrev pub invariant-loop-vertex : goal.invariant-loop-vertex
invariant-loop-vertex g l =
    let v = g.R.Darts.graph l.records in
    IsGaining (λ (u : VertexKey). not (has_dart (skeleton_of v) u.point)) (λ (u : VertexKey). position_or_len (same_face (bare_face_in (g.R.Faced.faces l.records) u.name)) l.ranks) (λ (u : VertexKey). ended (codes "p" ++ number (index (skeleton_of v) u.point)))
    l.fn.bodies l.bodies l.vertices (drop l.vertex-index l.vertices)
