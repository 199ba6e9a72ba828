use Rattle.std.proofs.Common.{◌++◌, List, ℕ, append_assoc, ap}
use Rattle.std.specs.Prelude.{codes}
use Rattle.slab_laws.specs.Text.{ended, number}
use Rattle.arr_text.proofs.Joined.{joined}
use Rattle.arr_text.proofs.faces.put_rank.Goals as goal
use Rattle.plane_graphs.proofs.Lists.{then_appended}

pub returns : goal.returns
unfolding ended number
returns g c =
    let n : List ℕ = number c.args.rank in
    let l : List ℕ = g.W.Words.labels c.args.records.now c.args.face in
    let two = then_appended c.args.out.now.items c.put_text.new.out.items c.put_number.new.out.items (codes "f") n c.in_ok-put_text.ensures c.in_ok-put_number.ensures in
    let three = then_appended c.args.out.now.items c.put_number.new.out.items c.put_labels.new.out.items (codes "f" ++ n) l two c.in_ok-put_labels.ensures in
    joined c.put_text-2.result c.args.out.now.items c.put_labels.new.out.items c.put_text-2.new.out.items ((codes "f" ++ n) ++ l) (codes "\n") (ended (codes "f" ++ (n ++ l))) three c.put_text-2.ensures
    (ap (λ (t : List ℕ). t ++ codes "\n") (append_assoc (codes "f") n l))
