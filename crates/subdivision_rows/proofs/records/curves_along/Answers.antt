use Rattle.std.proofs.Common.{sym, ◌∙◌}
use Rattle.std.specs.Prelude.{◌&&◌}
use Rattle.slab_laws.specs.Skeleton.{same_point}
use Rattle.present_graphs.specs.declared.marks.Mark.{Mark}
use Rattle.subdivision_rows.proofs.Items.{kept, passed, all_passing}
use Rattle.subdivision_rows.proofs.records.curves_along.Goals.{then-is_between+in_ok-push, else-is_between}
use Rattle.subdivision_rows.proofs.records.curves_along.Goals as goal

pub loop-mark-preserved : goal.loop-mark-preserved
loop-mark-preserved c =
    let between = λ (m : Mark). same_point m.low c.args.low.now && same_point m.high c.args.high.now in
    let curve = λ (m : Mark). m.curve in
    let ms = c.args.marks.now in
    let i = c.loop-mark.mark-index in
    let m = c.mark-item.result in
    elim c.if-is_between.branch [
      | then-is_between+in_ok-push w ↦
          kept between curve ms i m c.loop-mark.curves.items c.if-is_between.curves.items c.loop-mark-test.true c.mark-item.is (sym c.is_between.ensures ∙ w.if-is_between.true) c.loop-mark.invariant ((λ j. (w.curves-is j).items) ∙ w.in_ok-push.ensures.items)
      | else-is_between w ↦ passed between curve ms i m c.loop-mark.curves.items c.if-is_between.curves.items c.loop-mark-test.true c.mark-item.is (sym c.is_between.ensures ∙ w.if-is_between.false) c.loop-mark.invariant (λ j. (w.curves-is j).items)
    ]

pub returns : goal.returns
returns c = all_passing (λ (m : Mark). same_point m.low c.args.low.now && same_point m.high c.args.high.now) (λ (m : Mark). m.curve) c.args.marks.now c.loop-mark.mark-index c.loop-mark.curves.items c.loop-mark-test.false c.loop-mark.invariant
