use Rattle.std.proofs.Common.{◌++◌, ◌∷◌, [], ap, arith, sym, ◌∙◌}
use Rattle.plain_slabs.proofs.Loops.{taken, passed}
use Rattle.plain_slabs.proofs.Gathered.{is_passing, foot_of, feet_done}
use Rattle.plain_slabs.proofs.Feet.{foot_added, foot_fits, foot_listed}
use Rattle.plain_slabs.proofs.links.add_feet.Goals.{then-passes+in_ok-push, else-passes}
use Rattle.plain_slabs.proofs.links.add_feet.Goals as goal

pub index-requires : goal.index-requires
index-requires c =
    let n = foot_listed c.args.points.now c.args.edges.now c.loop-k.k c.args.left.now.slab c.args.left.now.below.items c.loop-k-test.true c.requires.left in
    omega (arith, c.args.left.now.below.ok.0)

pub overflow_add-index : goal.overflow_add-index
overflow_add-index c =
    let n = foot_fits c.args.points.now c.args.edges.now c.index-edges-k.result c.loop-k.k c.args.left.now.slab c.index.result.now _ c.args.left.now.below.items c.loop-k-test.true c.index-edges-k.is c.requires.left c.index.ensures in
    let o = c.args.left.now.below.small in
    let q = c.args.left.now.below.ok in
    omega (arith, n, o, q.0, q.1)

pub index-requires-then-passes : goal.index-requires-then-passes
index-requires-then-passes c =
    let n = foot_listed c.args.points.now c.args.edges.now c.loop-k.k c.args.right.now.slab c.args.right.now.below.items c.loop-k-test.true c.requires.right in
    omega (arith, c.args.right.now.below.ok.0)

pub overflow_add-index-then-passes : goal.overflow_add-index-then-passes
overflow_add-index-then-passes c =
    let n = foot_fits c.args.points.now c.args.edges.now c.index-edges-k.result c.loop-k.k c.args.right.now.slab c.index-then-passes.result.now _ c.args.right.now.below.items c.loop-k-test.true c.index-edges-k.is c.requires.right c.index-then-passes.ensures in
    let o = c.args.right.now.below.small in
    let q = c.args.right.now.below.ok in
    omega (arith, n, o, q.0, q.1)

pub loop-k-preserved : goal.loop-k-preserved
loop-k-preserved c =
    let vs = c.args.points.now in
    let ss = c.args.edges.now in
    let v = c.args.wall.now in
    elim c.if-passes.branch [
      | then-passes+in_ok-push w ↦
          let p = sym c.passes.ensures ∙ w.if-passes.true in
          ap (λ l. l.items) w.list-is
          ∙ taken (is_passing v) (foot_of vs ss v) ss c.loop-k.k c.index-edges-k.result c.args.list.now.items c.loop-k.list.items _ c.loop-k-test.true c.index-edges-k.is p c.loop-k.invariant
          (w.in_ok-push.ensures.items
          ∙ ap (λ l. c.loop-k.list.items ++ l ∷ [])
          (foot_added vs ss v c.index-edges-k.result c.loop-k.k c.args.left.now.slab c.args.right.now.slab w.index.result.now w.index-then-passes.result.now _ _ c.args.left.now.below.items c.args.right.now.below.items c.requires.plane c.requires.wall c.loop-k-test.true c.index-edges-k.is p c.requires.left_slab c.requires.right_slab c.requires.left c.requires.right w.index.ensures w.index-then-passes.ensures))
      | else-passes w ↦
          ap (λ l. l.items) w.list-is
          ∙ passed (is_passing v) (foot_of vs ss v) ss c.loop-k.k c.index-edges-k.result c.args.list.now.items c.loop-k.list.items c.loop-k-test.true c.index-edges-k.is (sym c.passes.ensures ∙ w.if-passes.false) c.loop-k.invariant
    ]

pub returns : goal.returns
returns c = feet_done c.args.points.now c.args.edges.now c.args.wall.now c.loop-k.k c.args.list.now.items c.loop-k.list.items c.loop-k-test.false c.loop-k.invariant
