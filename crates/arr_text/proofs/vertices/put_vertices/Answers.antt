use Rattle.std.proofs.Common.{sym}
use Rattle.std.proofs.lemmas.List.{append-nil}
use Rattle.slab_laws.specs.Darts.{darts}
use Rattle.slab_laws.specs.Sound.{skeleton_of}
use Rattle.slab_laws.specs.Text.{vertex_line}
use Rattle.record_orders.specs.declared.vertices.VertexKey.{VertexKey}
use Rattle.arr_text.specs.Reading.{pins_in}
use Rattle.arr_text.proofs.Lines.{one_more}
use Rattle.arr_text.proofs.Lines.{vertex_item, all_vertices}
use Rattle.arr_text.proofs.vertices.put_vertices.Goals as goal

pub loop-vertex-init : goal.loop-vertex-init
loop-vertex-init g c = sym (append-nil c.args.out.now.items)

pub put_vertex-requires : goal.put_vertex-requires
put_vertex-requires g c =
    let item = vertex_item (g.R.Darts.graph c.args.records.now) c.requires.sound c.args.vertices.now c.loop-vertex.vertex-index c.vertex-item.result c.requires.vertices c.loop-vertex-test.true c.vertex-item.is in record {
      sound = c.requires.sound;
      numbers = c.requires.numbers;
      darts = c.requires.darts;
      has = item.0;
      point = item.1;
    }

pub loop-vertex-preserved : goal.loop-vertex-preserved
loop-vertex-preserved g c =
    let v = g.R.Darts.graph c.args.records.now in
    one_more (λ (k : VertexKey). vertex_line (skeleton_of v) (darts (skeleton_of v)) (pins_in v) k.point) c.args.vertices.now c.loop-vertex.vertex-index c.vertex-item.result c.args.out.now.items c.loop-vertex.out.items c.put_vertex.new.out.items
    c.loop-vertex-test.true c.vertex-item.is c.loop-vertex.invariant c.in_ok-put_vertex.ensures

pub returns : goal.returns
returns g c =
    let v = g.R.Darts.graph c.args.records.now in
    all_vertices v c.requires.sound (vertex_line (skeleton_of v) (darts (skeleton_of v)) (pins_in v)) c.args.vertices.now c.loop-vertex.vertex-index c.args.out.now.items c.loop-vertex.out.items c.requires.vertices c.loop-vertex-test.false c.loop-vertex.invariant
