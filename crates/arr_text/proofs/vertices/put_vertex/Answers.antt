use Rattle.std.proofs.Common.{ap, sym, ◌∙◌}
use Rattle.std.specs.List.{list_any}
use Rattle.exact_plane.specs.Point.{Point}
use Rattle.slab_laws.specs.Skeleton.{same_point}
use Rattle.arr_text.specs.Reading.{pins_in}
use Rattle.slab_laws.specs.Sound.{skeleton_of}
use Rattle.slab_laws.specs.Text.{index}
use Rattle.arr_text.proofs.VertexNumbers.{number_within, number_is}
use Rattle.arr_text.proofs.Lines.{pin_told, vertex_put}
use Rattle.arr_text.proofs.vertices.put_vertex.Goals as goal

pub put_place-requires : goal.put_place-requires
put_place-requires g c = number_within (g.R.Darts.graph c.args.records.now) c.args.numbers.now c.requires.numbers c.args.vertex.now.name c.requires.has

pub returns : goal.returns
returns g c =
    let v = g.R.Darts.graph c.args.records.now in
    let p = c.args.vertex.now.point in
    let told = c.pinned.ensures ∙ pin_told v c.requires.sound c.args.vertex.now.name c.requires.has ∙ ap (λ (q : Point). list_any (same_point q) (pins_in v)) (sym c.requires.point) in
    let number = number_is v c.args.numbers.now c.requires.numbers c.args.vertex.now.name c.requires.has ∙ ap (index (skeleton_of v)) (sym c.requires.point) in
    vertex_put c.put_text-2.result v _ p c.pinned.result (pins_in v) c.args.out.now.items c.put_place.new.out.items c.put_pin.new.out.items c.put_text.new.out.items c.put_neighbours.new.out.items c.put_text-2.new.out.items
    number told c.in_ok-put_place.ensures c.in_ok-put_pin.ensures c.in_ok-put_text.ensures c.in_ok-put_neighbours.ensures c.put_text-2.ensures
