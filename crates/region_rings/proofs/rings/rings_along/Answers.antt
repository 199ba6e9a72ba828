use Rattle.std.proofs.Common.{◌≡◌, ℕ, Bool, List, map, subst, ap, ◌∙◌}
use Rattle.exact_plane.specs.Point.{Point}
use Rattle.region_rings.specs.Cycles.{AreCycles}
use Rattle.region_rings.specs.Holes.{AreHoles}
use Rattle.region_rings.specs.Nesting.{AreLeasts, AreOuters}
use Rattle.region_rings.specs.Rings.{source_at}
use Rattle.region_rings.proofs.RingSides.{are_rings}
use Rattle.region_rings.proofs.rings.rings_along.Goals as goal

pub returns-clause-rings : goal.returns-clause-rings
returns-clause-rings c =
    let ds = c.args.darts.now in
    let nexts = c.in_ok-nexts.nexts.items in
    let order = c.in_ok-cycles.cycles.order.items in
    let ends = c.in_ok-cycles.cycles.ends.items in
    let points = c.in_ok-points.points.items in
    let holes = c.in_ok-holes.holes.items in
    let cycles : AreCycles nexts order ends = subst (λ (xs : List ℕ). AreCycles xs order ends) c.deref-2.ensures.value c.in_ok-cycles.ensures in
    let sources : points ≡ map (source_at ds) order = c.in_ok-points.ensures ∙ ap (map (source_at ds)) c.deref-3.ensures.value in
    let told : AreHoles points ends holes = subst (λ (xs : List ℕ). AreHoles points xs holes) c.deref-5.ensures.value (subst (λ (ps : List Point). AreHoles ps c.deref-5.result.now holes) c.deref-4.ensures.value c.in_ok-holes.ensures) in
    let leasts = c.in_ok-leasts.leasts.items in
    let least : AreLeasts points ends leasts = subst (λ (xs : List ℕ). AreLeasts points xs leasts) c.deref-7.ensures.value (subst (λ (ps : List Point). AreLeasts ps c.deref-7.result.now leasts) c.deref-6.ensures.value c.in_ok-leasts.ensures) in
    let outers = c.in_ok-outers.outers.items in
    let nested : AreOuters points ends holes leasts outers =
    subst (λ (ps : List Point). AreOuters points ends holes ps outers) c.deref-11.ensures.value
    (subst (λ (bs : List Bool). AreOuters points ends bs c.deref-11.result.now outers) c.deref-10.ensures.value
    (subst (λ (xs : List ℕ). AreOuters points xs c.deref-10.result.now c.deref-11.result.now outers) c.deref-9.ensures.value
    (subst (λ (ps : List Point). AreOuters ps c.deref-9.result.now c.deref-10.result.now c.deref-11.result.now outers) c.deref-8.ensures.value c.in_ok-outers.ensures))) in
    are_rings ds nexts c.in_ok-nexts.ensures.nexts order ends cycles points sources holes told leasts least outers nested
