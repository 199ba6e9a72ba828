use Rattle.std.proofs.Common.{List, [], ◌∷◌, take, sym, subst, ⊎_elim}
use Rattle.std.proofs.lemmas.List.{take_all}
use Rattle.exact_plane.specs.Point.{Point, IsPoint}
use Rattle.plane_graphs.specs.Ascending.{Member}
use Rattle.plane_graphs.proofs.Lists.{in_either}
use Rattle.plane_graphs.proofs.Loops.{take_next}
use Rattle.overlay_sweep.proofs.graphs.laws_of_each.Goals as goal

pub loop-point-preserved : goal.loop-point-preserved
loop-point-preserved c r m =
    let xs = c.args.points.now in
    let i = c.loop-point.point-index in
    let x = c.point-item.result in
    ⊎_elim (λ a. c.loop-point.invariant r a) (λ a. ⊎_elim (λ e. subst IsPoint (sym e) c.laws.ensures) (λ z. absurd z) a)
    (in_either r (take i xs) (x ∷ []) (subst (λ (us : List Point). Member r us) (take_next xs i x c.loop-point-test.true c.point-item.is) m))

pub returns : goal.returns
returns c r m = c.loop-point.invariant r (subst (λ (us : List Point). Member r us) (sym (take_all c.loop-point.point-index c.args.points.now c.loop-point-test.false)) m)
