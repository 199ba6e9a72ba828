use Rattle.std.proofs.Common.{ap, ◌∙◌, subst, map}
use Rattle.std.specs.Prelude.{filter}
use Rattle.std.specs.List.{AllByRecursion, flat_map}
use Rattle.std.specs.List.Sorted.{IsStrictlyIncreasing}
use Rattle.subdivision_rows.specs.ByName.{numbers_of, points_at, pinned_among}
use Rattle.plain_slabs.specs.ByName.{goes_forward, span_along, key_marks}
use Rattle.plain_slabs.proofs.NamedGraph.{are_parts}
use Rattle.plain_slabs.proofs.names.parts_of.Goals as goal

pub returns : goal.returns
returns g c =
    let v = g.R.Darts.graph c.args.records.now in
    let cs = g.R.Curved.curve_list c.args.records.now in
    let vertices = c.in_ok-vertices.ensures in
    let forward = c.in_ok-forward.ensures ∙ ap (filter goes_forward) (c.deref-3.ensures.value ∙ c.in_ok-darts.ensures) in
    are_parts v cs c.requires.sound c.requires.curves
    (subst (AllByRecursion (λ k. IsStrictlyIncreasing (numbers_of cs k.name))) (c.deref-4.ensures.value ∙ forward) c.in_ok-marks.ensures.ascend)
    (record { points = c.in_ok-points.points; marks = c.in_ok-marks.marks; pins = c.in_ok-pins.pins; edges = c.in_ok-edges.edges })
    (c.in_ok-points.ensures ∙ ap points_at (c.deref.ensures.value ∙ vertices))
    (c.in_ok-marks.ensures.marks ∙ ap (flat_map (key_marks cs)) (c.deref-4.ensures.value ∙ forward))
    (c.in_ok-pins.ensures ∙ ap (λ ks. points_at (pinned_among v ks)) (c.deref-2.ensures.value ∙ vertices))
    (c.in_ok-edges.ensures ∙ ap (map (span_along v)) (c.deref-5.ensures.value ∙ forward))
