use Rattle.std.proofs.Common.{List, ℕ, ◌++◌}
use Rattle.std.specs.Prelude.{codes, flat_map}
use Rattle.slab_laws.specs.Cycles.{trail}
use Rattle.slab_laws.specs.Darts.{source, darts}
use Rattle.slab_laws.specs.Sound.{skeleton_of, dart_in}
use Rattle.slab_laws.specs.Text.{ended, number, index, cycle_line}
use Rattle.sound_views.proofs.RankedFaces.{cycle_of}
use Rattle.arr_text.proofs.Joined.{joined}
use Rattle.arr_text.proofs.FaceBodies.{behind_nothing}
use Rattle.arr_text.proofs.FaceNames.{trail_line}
use Rattle.arr_text.proofs.faces.make_cycle_line.Goals as goal
use Rattle.plane_graphs.proofs.Lists.{then_appended}

pub returns : goal.returns
unfolding ended
returns g c =
    let v = g.R.Darts.graph c.args.records.now in
    let d = dart_in v c.args.lead in
    let t : List ℕ = flat_map (λ h. number (index (skeleton_of v) (source h))) (trail (darts (skeleton_of v)) c.args.darts d d) in
    let line : List ℕ = cycle_line (skeleton_of v) c.args.letter.now (cycle_of (skeleton_of v) d) in
    behind_nothing c.put_text-2.result c.clear.new.self.items c.put_text-2.new.out.items line c.clear.ensures.items
    (joined c.put_text-2.result c.clear.new.self.items c.put_trail.new.out.items c.put_text-2.new.out.items (c.args.letter.now ++ t) (codes "\n") line
    (then_appended c.clear.new.self.items c.put_text.new.out.items c.put_trail.new.out.items c.args.letter.now t c.in_ok-put_text.ensures c.in_ok-put_trail.ensures) c.put_text-2.ensures
    (trail_line v c.requires.sound c.args.lead c.args.darts c.args.letter.now c.requires.darts))
