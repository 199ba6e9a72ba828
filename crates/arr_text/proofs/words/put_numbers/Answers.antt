use Rattle.std.proofs.Common.{◌∷◌, []}
use Rattle.std.specs.Fmt.{decimal}
use Rattle.std.proofs.lemmas.List.{map-append}
use Rattle.slab_laws.specs.declared.names.CurveId.{CurveId}
use Rattle.arr_text.specs.Reading.{curve_words}
use Rattle.arr_text.proofs.Joined.{one_more_word}
use Rattle.arr_text.proofs.words.put_numbers.Goals as goal

pub loop-curve-preserved : goal.loop-curve-preserved
loop-curve-preserved c =
    let say = λ (k : CurveId). decimal k.0 in
    one_more_word say curve_words (λ ys y. map-append say ys (y ∷ [])) c.args.curves.now c.loop-curve.curve-index _ c.args.out.now.items c.loop-curve.out.items c.put_number.new.out.items c.loop-curve-test.true c.loop-curve.invariant c.in_ok-put_number.ensures
