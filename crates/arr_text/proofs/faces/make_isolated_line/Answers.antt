use Rattle.std.proofs.Common.{List, ℕ, ◌++◌, refl}
use Rattle.std.specs.Prelude.{codes}
use Rattle.std.specs.List.{slice_index_or}
use Rattle.slab_laws.specs.Text.{ended, number}
use Rattle.arr_text.proofs.Joined.{joined}
use Rattle.arr_text.proofs.FaceBodies.{behind_nothing}
use Rattle.arr_text.proofs.faces.make_isolated_line.Goals as goal
use Rattle.plane_graphs.proofs.Lists.{then_appended}

pub returns : goal.returns
unfolding ended
returns c =
    let n : List ℕ = number (slice_index_or c.args.numbers.now c.args.vertex.0 0) in
    behind_nothing c.put_text-2.result c.clear.new.self.items c.put_text-2.new.out.items (ended (codes "p" ++ n)) c.clear.ensures.items
    (joined c.put_text-2.result c.clear.new.self.items c.put_index.new.out.items c.put_text-2.new.out.items (codes "p" ++ n) (codes "\n") (ended (codes "p" ++ n))
    (then_appended c.clear.new.self.items c.put_text.new.out.items c.put_index.new.out.items (codes "p") n c.in_ok-put_text.ensures c.in_ok-put_index.ensures) c.put_text-2.ensures refl)
