use Rattle.std.proofs.Common.{◌≡◌, ◌∙◌, refl, sym, ap, subst}
use Rattle.std.specs.Prelude.{pos}
use Rattle.std.specs.Ordering.{int_cmp}
use Rattle.plane_graphs.specs.Graph.{Edge as PlaneEdge}
use Rattle.slab_laws.specs.Skeleton.{side}
use Rattle.slab_laws.specs.Sound.{edge_in}
use Rattle.slab_laws.specs.View.{line_in}
use Rattle.arr_notes.specs.Curves.{IsForward}
use Rattle.sound_views.proofs.ForwardDarts.{way_along}
use Rattle.locate_trapezoid.specs.declared.node.Test.{Test}
use Rattle.locate_trapezoid.specs.Counted.{IsTest}
use Rattle.locate_trapezoid.specs.Ways.{outcome}
use Rattle.locate_trapezoid.proofs.SplitLeaf.{ends}
use Rattle.locate_trapezoid.proofs.arrival.ask.Goals as goal

pub compare_side-requires : goal.compare_side-requires
compare_side-requires g c =
    let v = c.args.glance.now.graph in
    let forward : IsForward v c.in-Edge.dart = subst (IsTest v) c.in-Edge.is c.requires.test in
    let look = c.look-looked.ensures.look in
    (line_in v c.in-Edge.dart, look.2, way_along v c.requires.sound c.in-Edge.dart forward c.look-looked.result.source c.look-looked.result.target (line_in v c.in-Edge.dart) look.0 look.1 refl)

pub returns-in-Edge-clause-outcome : goal.returns-in-Edge-clause-outcome
returns-in-Edge-clause-outcome g c =
    let v = c.args.glance.now.graph in
    let q = c.args.point.now in
    let forward : IsForward v c.in-Edge.dart = subst (IsTest v) c.in-Edge.is c.requires.test in
    let look = c.look-looked.ensures.look in
    let e : record { low = c.look-looked.result.source; high = c.look-looked.result.target } ≡ edge_in v c.in-Edge.dart = (λ i. record { low = look.0 i; high = look.1 i }) ∙ sym (ends v c.in-Edge.dart forward) in
    c.compare_side.ensures ∙ ap (λ (x : PlaneEdge). int_cmp (side x q) (pos 0)) e ∙ ap (λ (t : Test). outcome v t q) (sym c.in-Edge.is)
