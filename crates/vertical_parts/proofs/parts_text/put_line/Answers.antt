use Rattle.std.proofs.Common.{◌++◌, ap, ◌∙◌}
use Rattle.exact_plane.specs.Point.{Point}
use Rattle.slab_laws.specs.Sound.{skeleton_of}
use Rattle.slab_laws.specs.Text.{triple}
use Rattle.slab_laws.specs.View.{point_in}
use Rattle.vertical_laws.specs.Vertical.{above_vertex, below_vertex}
use Rattle.vertical_parts.proofs.LinesPut.{names_above, names_below, line_put}
use Rattle.vertical_parts.proofs.parts_text.put_line.Goals as goal

pub point-requires : goal.point-requires
point-requires c = c.requires.part.has

-- either stop is named, whichever of them is written
pub put_stop-requires : goal.put_stop-requires
put_stop-requires c =
    let v = c.args.records.now.graph in
    let p = c.args.part.now in
    record { map = c.requires.map; named = assumption (names_above v p c.requires.part, names_below v p c.requires.part) }

pub put_stop-requires-2 : goal.put_stop-requires-2
put_stop-requires-2 c =
    let v = c.args.records.now.graph in
    let p = c.args.part.now in
    record { map = c.requires.map; named = assumption (names_above v p c.requires.part, names_below v p c.requires.part) }

pub returns : goal.returns
returns c =
    let v = c.args.records.now.graph in
    let g = skeleton_of v in
    let p = point_in v c.args.part.now.vertex in
    line_put c.put_text-4.result g p c.args.out.now.items c.put_text.new.out.items c.put_point.new.out.items c.put_text-2.new.out.items c.put_stop.new.out.items c.put_text-3.new.out.items c.put_stop-2.new.out.items c.put_text-4.new.out.items
    c.in_ok-put_text.ensures (c.in_ok-put_point.ensures ∙ ap (λ (q : Point). c.put_text.new.out.items ++ triple q) c.point.ensures) c.in_ok-put_text-2.ensures (c.in_ok-put_stop.ensures (above_vertex g p) c.requires.part.above_it)
    c.in_ok-put_text-3.ensures (c.in_ok-put_stop-2.ensures (below_vertex g p) c.requires.part.below_it) c.put_text-4.ensures
