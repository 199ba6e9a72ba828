use Rattle.std.proofs.Common.{◌++◌, List, ℕ, append_assoc}
use Rattle.std.specs.Prelude.{codes}
use Rattle.std.specs.List.{slice_index_or}
use Rattle.slab_laws.specs.Text.{number, triple}
use Rattle.arr_text.specs.Reading.{vertex_place}
use Rattle.arr_text.proofs.Joined.{joined}
use Rattle.arr_text.proofs.vertices.put_place.Goals as goal
use Rattle.plane_graphs.proofs.Lists.{then_appended}

pub returns : goal.returns
unfolding vertex_place
returns c =
    let i : List ℕ = number (slice_index_or c.args.numbers.now c.args.vertex.now.name.0 0) in
    let t : List ℕ = triple c.args.vertex.now.point in
    joined c.put_point.result c.args.out.now.items c.put_index.new.out.items c.put_point.new.out.items (codes "v" ++ i) t (codes "v" ++ (i ++ t))
    (then_appended c.args.out.now.items c.put_text.new.out.items c.put_index.new.out.items (codes "v") i c.in_ok-put_text.ensures c.in_ok-put_index.ensures) c.put_point.ensures (append_assoc (codes "v") i t)
