use Rattle.std.proofs.Common.{◌≡◌, ◌++◌, take}
use Rattle.std.specs.Prelude.{flat_map}
use Rattle.slab_laws.specs.Darts.{darts}
use Rattle.slab_laws.specs.Sound.{skeleton_of}
use Rattle.slab_laws.specs.Text.{vertex_line}
use Rattle.record_orders.specs.declared.vertices.VertexKey.{VertexKey}
use Rattle.arr_text.specs.Reading.{pins_in}
use Rattle.arr_text.proofs.vertices.put_vertices.Given as goal

abbrev pub invariant-loop-vertex : goal.invariant-loop-vertex
invariant-loop-vertex g l =
    let v = g.R.Darts.graph l.records in
    l.out.items ≡ l.fn.out.items ++ flat_map (λ (k : VertexKey). vertex_line (skeleton_of v) (darts (skeleton_of v)) (pins_in v) k.point) (take l.vertex-index l.vertices)
