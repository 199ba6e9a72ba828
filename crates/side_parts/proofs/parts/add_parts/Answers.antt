use Rattle.std.proofs.Common.{◌+◌, Some, refl, ap, ◌∙◌}
use Rattle.side_parts.specs.SideParts.{holds}
use Rattle.side_parts.proofs.Walked.{added_all, added_begin, added_none, added_one, adding_as}
use Rattle.side_parts.proofs.parts.add_parts.Goals as goal
use Rattle.side_parts.proofs.parts.add_parts.Goals.{then-holds+in-Some+in_ok-push, then-holds+in_default, else-holds}

pub each-preserved : goal.each-preserved
each-preserved c =
    let old = c.args.parts.now.items in
    let points = c.args.points.now in
    let side = c.args.side.now in
    let j = c.args.place in
    let parts = c.each.parts.items in
    let at = c.each.at in
    elim c.if-holds.branch [
      | then-holds+in-Some+in_ok-push w ↦
          adding_as old points (holds side) j c.if-holds.parts.items c.if-holds.parts.items (Some at) c.if-holds.last (at + 1) refl w.last-is
          (added_one old points (holds side) j parts c.each.last at c.each.invariant c.index-points-at.result c.each-test.true c.index-points-at.is c.holds.result c.holds.ensures w.in-Some.low c.if-holds.parts.items w.if-holds.true w.in-Some.is (ap (λ v. v.items) w.parts-is ∙ w.in_ok-push.ensures.items))
      | then-holds+in_default w ↦
          adding_as old points (holds side) j parts c.if-holds.parts.items (Some at) c.if-holds.last (at + 1) (ap (λ v. v.items) w.parts-is) w.last-is
          (added_begin old points (holds side) j parts c.each.last at c.each.invariant c.index-points-at.result c.each-test.true c.index-points-at.is c.holds.result c.holds.ensures w.if-holds.true w.in_default.is)
      | else-holds w ↦
          adding_as old points (holds side) j parts c.if-holds.parts.items c.each.last c.if-holds.last (at + 1) (ap (λ v. v.items) w.parts-is) w.last-is
          (added_none old points (holds side) j parts c.each.last at c.each.invariant c.index-points-at.result c.each-test.true c.index-points-at.is c.holds.result c.holds.ensures w.if-holds.false)
    ]

pub returns : goal.returns
returns c = added_all _ _ _ _ _ _ _ c.each.invariant c.each-test.false
