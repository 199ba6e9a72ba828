use Rattle.std.proofs.Common.{◌≡◌, ◌+◌, ◌++◌, arith, ap, ◌∙◌}
use Rattle.plain_slabs.proofs.Gathered.{cells_of, cell_added}
use Rattle.plain_slabs.proofs.cells.add_slab.Goals as goal

pub loop-place-preserved : goal.loop-place-preserved
loop-place-preserved c = cell_added c.args.slab c.loop-place.place c.args.list.now.items c.loop-place.list.items c.push.new.self.items c.loop-place.invariant c.in_ok-push.ensures.items

pub returns-in_ok-push : goal.returns-in_ok-push
returns-in_ok-push c =
    let e : c.loop-place.place ≡ c.width_of-place-end.result = omega arith in
    cell_added c.args.slab c.loop-place.place c.args.list.now.items c.loop-place.list.items c.push.new.self.items c.loop-place.invariant c.in_ok-push.ensures.items
    ∙ ap (λ n. c.args.list.now.items ++ cells_of c.args.slab (n + 1)) (e ∙ c.width_of-place-end.ensures)
