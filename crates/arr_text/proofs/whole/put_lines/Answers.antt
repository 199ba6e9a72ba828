use Rattle.std.proofs.Common.{◌≡◌, ◌/◌, ◌++◌, length, ap, ◌∙◌}
use Rattle.std.proofs.lemmas.List.{length-map}
use Rattle.slab_laws.specs.Sound.{skeleton_of}
use Rattle.slab_laws.specs.Subdivision.{subdivision}
use Rattle.sound_views.specs.Orders.{dart_order}
use Rattle.arr_text.specs.Numbers.{numbered_dart}
use Rattle.record_orders.specs.CycleKeys.{ranked_faces}
use Rattle.arr_text.specs.Reading.{labels_by, text_with, title}
use Rattle.arr_text.proofs.FaceNames.{faces_counted}
use Rattle.arr_text.proofs.Assembly.{assembled, vertices_counted, edges_counted}
use Rattle.arr_text.proofs.whole.put_lines.Goals as goal

pub put_vertices-requires : goal.put_vertices-requires
put_vertices-requires g c = record {
  sound = c.requires.stands.graph;
  numbers = c.requires.numbers;
  vertices = c.requires.vertices;
  darts = c.requires.darts;
}

pub put_edges-requires : goal.put_edges-requires
put_edges-requires g c = record {
  sound = c.requires.stands.graph;
  darts = c.requires.darts;
}

pub put_faces-requires : goal.put_faces-requires
put_faces-requires g c =
    let v = g.R.Darts.graph c.args.records.now in record {
      stands = c.requires.stands;
      numbers = c.requires.numbers;
      vertices = c.requires.vertices;
      cycles = c.requires.cycles;
      ranks = c.requires.ranks;
      darts = ap (λ ks. length ks) c.requires.darts ∙ length-map (dart_order v) (numbered_dart v);
    }

pub returns : goal.returns
unfolding text_with
returns g c =
    let v = g.R.Darts.graph c.args.records.now in
    let f = g.R.Faced.faces c.args.records.now in
    let s = c.requires.stands.graph in
    let faces : c.len.result ≡ length (subdivision (skeleton_of v)).faces = c.len.ensures ∙ ap (λ fs. length fs) (c.requires.ranks ∙ ap (ranked_faces f) c.requires.cycles) ∙ faces_counted v f c.requires.stands in
    assembled v s g.W.Words.title (g.W.Words.curves c.args.records.now) (labels_by v f (g.W.Words.labels c.args.records.now)) c.put_text.result (length c.args.vertices.now) (length c.args.darts.now / 2) c.len.result c.args.out.now.items c.put_title.new.out.items c.put_vertices.new.out.items c.put_edges.new.out.items c.put_faces.new.out.items c.put_text.new.out.items
    (ap (λ ks. length ks) c.requires.vertices ∙ vertices_counted v s) (ap (λ ks. length ks / 2) c.requires.darts ∙ edges_counted v s) faces
    (c.in_ok-put_title.ensures ∙ ap (λ w. c.args.out.now.items ++ title w (length c.args.vertices.now) (length c.args.darts.now / 2) c.len.result) c.title.ensures) c.in_ok-put_vertices.ensures c.in_ok-put_edges.ensures c.in_ok-put_faces.ensures c.put_text.ensures
