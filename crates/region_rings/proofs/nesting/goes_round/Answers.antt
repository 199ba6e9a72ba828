use Rattle.std.proofs.Common.{◌∙◌, sym, arith}
use Rattle.region_rings.proofs.Nests.{one_passes, none_passes, whole_round}
use Rattle.region_rings.proofs.nesting.goes_round.Goals.{then-side_below, else-side_below}
use Rattle.region_rings.proofs.nesting.goes_round.Goals as goal

pub loop-place-preserved : goal.loop-place-preserved
loop-place-preserved c =
    let ps = c.args.ring.now in
    let p = c.args.point.now in
    let i = c.loop-place.place in
    elim c.if-side_below.branch [
      | then-side_below w ↦ w.is_odd-is ∙ one_passes ps p i (sym c.side_below.ensures ∙ w.if-side_below.true) c.loop-place.is_odd c.loop-place.invariant
      | else-side_below w ↦ w.is_odd-is ∙ none_passes ps p i (sym c.side_below.ensures ∙ w.if-side_below.false) c.loop-place.is_odd c.loop-place.invariant
    ]

pub returns : goal.returns
returns c = c.loop-place.invariant ∙ whole_round c.args.ring.now c.args.point.now c.loop-place.place (let e = c.loop-place-test.false in let f = c.loop-place.auto.place-end in omega arith)
