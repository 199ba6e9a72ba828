use Rattle.std.proofs.Common.{◌∷◌, ◌++◌, [], ℕ, map, ap, ◌∙◌}
use Rattle.std.specs.Fmt.{decimal}
use Rattle.std.proofs.lemmas.List.{map-append}
use Rattle.slab_laws.specs.declared.names.CurveId.{CurveId}
use Rattle.slab_laws.specs.OverlayText.{lettered}
use Rattle.arr_text.proofs.Joined.{one_more_word}
use Rattle.arr_text.proofs.words.put_layer.Goals as goal

pub loop-curve-preserved : goal.loop-curve-preserved
loop-curve-preserved c =
    let number = λ (k : CurveId). k.0 in
    let say = λ (n : ℕ). c.args.letter.now ++ decimal n in
    one_more_word (λ k. say k.0) (λ ks. lettered c.args.letter.now (map number ks)) (λ ys y. ap (map say) (map-append number ys (y ∷ [])) ∙ map-append say (map number ys) (y.0 ∷ []))
    c.args.curves.now c.loop-curve.curve-index _ c.args.out.now.items c.loop-curve.out.items c.put_lettered.new.out.items c.loop-curve-test.true c.loop-curve.invariant c.in_ok-put_lettered.ensures
