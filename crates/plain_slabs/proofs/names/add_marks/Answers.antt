use Rattle.std.proofs.Common.{◌++◌, map, sym, ap, ◌∙◌, rules, arith}
use Rattle.std.proofs.lemmas.Grind.{common_steps}
use Rattle.std.proofs.lemmas.List.{take_all}
use Rattle.plane_graphs.specs.Graph.{mark}
use Rattle.plane_graphs.proofs.Lists.{map_map}
use Rattle.slab_laws.specs.declared.names.CurveId.{CurveId}
use Rattle.present_graphs.specs.Marks.{mark_of}
use Rattle.plain_slabs.proofs.names.add_marks.Goals as goal

pub returns-clause-marks : goal.returns-clause-marks
returns-clause-marks g c =
    let k = c.args.dart.now in
    let old = map mark_of c.args.marks.now.items in
    let read = take_all c.loop-curve.curve-index c.deref-curve-items.result.now c.loop-curve-test.false ∙ c.deref-curve-items.ensures.value ∙ c.in_ok-curves.ensures.curves in
    c.loop-curve.invariant
    ∙ ap (λ cs. old ++ map (λ (x : CurveId). mark k.source k.target x.0) cs) read
    ∙ ap (λ ms. old ++ ms) (sym (map_map (λ x. x.0) (mark k.source k.target) (g.R.Curved.curve_list c.args.records.now c.args.dart.now.name)))

pub loop-curve-init : goal.loop-curve-init
loop-curve-init g c = search rules

pub loop-curve-preserved : goal.loop-curve-preserved
loop-curve-preserved g c = grind (arith, common_steps)

pub returns-clause-ascend : goal.returns-clause-ascend
returns-clause-ascend g c = search rules
