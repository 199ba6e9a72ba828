use Rattle.std.proofs.Common.{◌++◌, List, ℕ, sym, ap, ◌∙◌, get_or, map}
use Rattle.std.specs.Prelude.{flat_map}
use Rattle.std.proofs.lemmas.List.{append-nil, get_or_default, take_all}
use Rattle.std.proofs.lemmas.List.Folds.{flat_map-map}
use Rattle.slab_laws.specs.declared.names.CurveId.{CurveId}
use Rattle.slab_laws.specs.Text.{number}
use Rattle.slab_laws.specs.View.{curve_id}
use Rattle.arr_text.proofs.Lines.{one_more}
use Rattle.lower_envelope.proofs.EnvelopeLines.{curves_put}
use Rattle.lower_envelope.proofs.envelope_text.put_curves.Goals as goal

pub loop-curve-init : goal.loop-curve-init
loop-curve-init c = sym (append-nil c.put_text.new.out.items)

pub loop-curve-preserved : goal.loop-curve-preserved
unfolding number
loop-curve-preserved c =
    let cs : List CurveId = c.args.curves.now in
    let i = c.loop-curve.curve-index in
    let k : CurveId = get_or cs i (curve_id 0) in
    one_more (λ (x : CurveId). number x.0) cs i k c.put_text.new.out.items c.loop-curve.out.items c.put_number.new.out.items c.loop-curve-test.true (get_or_default cs i (curve_id 0) k c.loop-curve-test.true) c.loop-curve.invariant c.in_ok-put_number.ensures

pub returns : goal.returns
returns c =
    let cs : List CurveId = c.args.curves.now in
    let all = c.loop-curve.invariant
    ∙ ap (λ (xs : List CurveId). c.put_text.new.out.items ++ flat_map (λ k. number k.0) xs) (take_all c.loop-curve.curve-index cs c.loop-curve-test.false)
    ∙ ap (λ (t : List ℕ). c.put_text.new.out.items ++ t) (sym (flat_map-map number (λ (k : CurveId). k.0) cs)) in
    curves_put c.put_text-2.result (map (λ (k : CurveId). k.0) cs) c.args.out.now.items c.put_text.new.out.items c.loop-curve.out.items c.put_text-2.new.out.items c.in_ok-put_text.ensures all c.put_text-2.ensures
