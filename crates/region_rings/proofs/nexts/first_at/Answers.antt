use Rattle.std.proofs.Common.{◌≡◌, ◌-◌, ◌<◌, arith, ap, sym, ◌∙◌}
use Rattle.plane_graphs.proofs.Sorting.{any_default}
use Rattle.region_rings.specs.declared.spokes.Spoke.{Spoke}
use Rattle.region_rings.specs.Spokes.{no_spoke}
use Rattle.region_rings.specs.Nexts.{vertex_at}
use Rattle.region_rings.proofs.Rounds.{goes_on}
use Rattle.region_rings.proofs.nexts.first_at.Goals as goal
use Rattle.exact_plane.specs.PointOrderLaws.{one_point}

pub returns-then-eq : goal.returns-then-eq
returns-then-eq c =
    let ss = c.args.spokes.now in
    let i = c.args.place in
    let r = c.index-spokes-place.result in
    let s = c.index-spokes-place-2.result in
    let some : 0 < i = (let h = c.if-place-eq0.false in omega arith) in
    let w = c.requires.place in
    let same : vertex_at ss (i - 1) ≡ vertex_at ss i =
    ap (λ (x : Spoke). x.at) (any_default ss (i - 1) no_spoke r (omega arith)) ∙ one_point _ _ (sym c.eq.ensures ∙ c.if-eq.true) ∙ ap (λ (x : Spoke). x.at) (any_default ss i s no_spoke w) in
    goes_on ss i c.args.before some (c.requires.before (i - 1) (omega arith)) same
