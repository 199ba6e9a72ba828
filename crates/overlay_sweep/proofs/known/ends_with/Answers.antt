use Rattle.std.proofs.Common.{ap, ap₂, ◌∙◌}
use Rattle.exact_plane.specs.PointOrderLaws.{point_cmp_ties}
use Rattle.plane_graphs.specs.Line.{same_point}
use Rattle.plane_graphs.proofs.Sorting.{any_default}
use Rattle.overlay_sweep.specs.declared.own.OwnEdge.{OwnEdge}
use Rattle.overlay_sweep.specs.OwnEdges.{no_own}
use Rattle.overlay_sweep.proofs.known.ends_with.Goals as goal

pub returns : goal.returns
returns c =
    let at = any_default c.args.own.now c.args.place c.index-own-place.result no_own c.requires in
    c.eq.ensures ∙ point_cmp_ties c.upper.result c.upper-2.result ∙ ap₂ same_point (c.upper.ensures ∙ ap (λ (k : OwnEdge). k.span.upper) at) c.upper-2.ensures
