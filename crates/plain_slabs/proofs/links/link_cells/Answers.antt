use Rattle.std.proofs.Common.{arith, [], ap, ◌∙◌, sym, refl, length, replicate, ◌≡◌}
use Rattle.slab_laws.specs.SpansDrawn.{drawn}
use Rattle.slab_laws.specs.Faces.{is_lowest, wall_links}
use Rattle.plain_slabs.proofs.Loops.{taken, passed}
use Rattle.plain_slabs.proofs.Gathered.{walls_done, wall_added}
use Rattle.plain_slabs.proofs.Reached.{none_there, none_vertical, same_places}
use Rattle.plain_slabs.specs.PlaceTables.{table, places_in}
use Rattle.plain_slabs.proofs.links.link_cells.Goals.{then-begins_wall+in_ok-left+in_ok-right+in_ok-push+in_ok-add_corners+in_ok-add_feet, else-begins_wall}
use Rattle.plain_slabs.proofs.links.link_cells.Goals as goal

pub loop-wall-init : goal.loop-wall-init
loop-wall-init c =
    let vs = c.args.points.now in
    let ss = c.args.edges.now in
    let rs = c.in_ok-reaches.reaches in
    let e : c.len.result ≡ length rs.items = let u = c.len.ensures in omega (arith, rs.ok.0) in
    let n : c.len.result ≡ length (table vs ss) = e ∙ ap length c.in_ok-reaches.ensures in
    (c.new-list.ensures.items, none_there vs ss (table vs ss) (length vs) refl refl c.in_ok-vec.field-0.items (c.in_ok-vec.ensures.items_if_clones_equal (λ y h. h) ∙ ap (λ k. replicate k 0) n))

pub move_to-requires-clause-slanted : goal.move_to-requires-clause-slanted
move_to-requires-clause-slanted c = none_vertical c.args.points.now c.args.edges.now c.deref.result.now c.requires (c.deref.ensures.value ∙ c.in_ok-reaches.ensures)

pub move_to-requires-then-begins_wall-clause-slanted :
    goal.move_to-requires-then-begins_wall-clause-slanted
move_to-requires-then-begins_wall-clause-slanted c = none_vertical c.args.points.now c.args.edges.now c.deref-then-begins_wall.result.now c.requires (c.deref-then-begins_wall.ensures.value ∙ c.in_ok-reaches.ensures)

pub loop-wall-preserved : goal.loop-wall-preserved
loop-wall-preserved c =
    let vs = c.args.points.now in
    let ss = c.args.edges.now in
    let g = drawn vs ss in
    elim c.if-begins_wall.branch [
      | then-begins_wall+in_ok-left+in_ok-right+in_ok-push+in_ok-add_corners+in_ok-add_feet w ↦ (
        ap (λ l. l.items) w.list-is
            ∙ taken (is_lowest vs) (wall_links g) vs c.loop-wall.wall-index c.wall-item.result [] c.loop-wall.list.items _ c.loop-wall-test.true c.wall-item.is (sym c.begins_wall.ensures ∙ w.if-begins_wall.true) c.loop-wall.invariant.0
            (wall_added g c.wall-item.result _ _ c.loop-wall.list.items _ _ _ (w.in_ok-left.ensures.slab ∙ w.slab_before.ensures) (w.in_ok-right.ensures.slab ∙ w.slab_after.ensures) w.in_ok-push.ensures.items w.in_ok-add_corners.ensures w.in_ok-add_feet.ensures),
        ap (λ p. p.below.items) w.places-is
            ∙ same_places w.deref-then-begins_wall.result.now (table vs ss) _ _ _ w.in_ok-right.ensures.places (w.deref-then-begins_wall.ensures.value ∙ c.in_ok-reaches.ensures) (ap (λ p. p.slab) w.places-is ∙ w.in_ok-right.ensures.slab),
      )
      | else-begins_wall w ↦ (
        ap (λ l. l.items) w.list-is
            ∙ passed (is_lowest vs) (wall_links g) vs c.loop-wall.wall-index c.wall-item.result [] c.loop-wall.list.items c.loop-wall-test.true c.wall-item.is (sym c.begins_wall.ensures ∙ w.if-begins_wall.false) c.loop-wall.invariant.0,
        ap (λ p. p.below.items) w.places-is ∙ c.loop-wall.invariant.1 ∙ ap (λ p. places_in (table vs ss) p.slab) (sym w.places-is),
      )
    ]

pub returns : goal.returns
returns c = walls_done c.args.points.now c.args.edges.now c.loop-wall.wall-index c.loop-wall.list.items c.loop-wall-test.false c.loop-wall.invariant.0
