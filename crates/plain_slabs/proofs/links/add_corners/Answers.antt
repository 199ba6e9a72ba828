use Rattle.std.proofs.Common.{◌++◌, ◌∷◌, [], ap, ◌∙◌}
use Rattle.plain_slabs.proofs.Loops.{taken, passed}
use Rattle.plain_slabs.proofs.Gathered.{is_corner, corner_of, corner_is, corners_done}
use Rattle.plain_slabs.proofs.links.add_corners.Goals.{then-is_open_corner+in_ok-push, else-is_open_corner}
use Rattle.plain_slabs.proofs.links.add_corners.Goals as goal

pub loop-point-preserved : goal.loop-point-preserved
loop-point-preserved c =
    let vs = c.args.points.now in
    let ss = c.args.edges.now in
    let v = c.args.wall.now in
    let told = corner_is vs ss c.point-item.result v c.is_open_corner.result c.is_open_corner.ensures in
    elim c.if-is_open_corner.branch [
      | then-is_open_corner+in_ok-push w ↦
          ap (λ l. l.items) w.list-is
          ∙ taken (is_corner vs ss v) (corner_of vs ss) vs c.loop-point.point-index c.point-item.result c.args.list.now.items c.loop-point.list.items _ c.loop-point-test.true c.point-item.is (told ∙ w.if-is_open_corner.true) c.loop-point.invariant
          (w.in_ok-push.ensures.items ∙ (λ i. c.loop-point.list.items ++ (record { one = w.cell_before.ensures i; other = w.cell_after.ensures i }) ∷ []))
      | else-is_open_corner w ↦
          ap (λ l. l.items) w.list-is
          ∙ passed (is_corner vs ss v) (corner_of vs ss) vs c.loop-point.point-index c.point-item.result c.args.list.now.items c.loop-point.list.items c.loop-point-test.true c.point-item.is (told ∙ w.if-is_open_corner.false) c.loop-point.invariant
    ]

pub returns : goal.returns
returns c = corners_done c.args.points.now c.args.edges.now c.args.wall.now c.loop-point.point-index c.args.list.now.items c.loop-point.list.items c.loop-point-test.false c.loop-point.invariant
