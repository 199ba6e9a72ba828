use Rattle.std.proofs.Common.{arith, sym, ◌∙◌}
use Rattle.plain_slabs.specs.PlaceTables.{is_across, is_new}
use Rattle.plain_slabs.proofs.Reached.{place_moved, place_new, place_none, place_room, place_added, length_places, place_at, none_among, new_across, places_done}
use Rattle.plain_slabs.proofs.places.move_to.Goals.{then-not-spans, else-not-spans+then-spans, else-not-spans+else-spans}
use Rattle.plain_slabs.proofs.places.move_to.Goals as goal

pub index-requires : goal.index-requires
index-requires c =
    let n = length_places c.args.reaches.now c.args.places.now.slab c.args.places.now.below.items c.requires.places in
    let t = c.loop-k-test.true in
    omega (arith, c.args.places.now.below.ok.0)

pub count_lower-requires-clause-others : goal.count_lower-requires-clause-others
count_lower-requires-clause-others c =
    none_among c.args.reaches.now c.args.slab (is_new c.args.places.now.slab c.args.slab) c.deref.result.now c.requires.slanted (new_across c.args.places.now.slab c.args.slab) (c.deref.ensures.value ∙ c.in_ok-came.ensures)

pub overflow_add-place : goal.overflow_add-place
overflow_add-place c =
    let rs = c.args.reaches.now in
    let i = c.args.places.now.slab in
    let r = c.index-reaches-k.result in
    let n = length_places rs i c.args.places.now.below.items c.requires.places in
    let p = c.index.ensures ∙ place_at rs i c.loop-k.k _ r c.args.places.now.below.items c.requires.places c.loop-k-test.true c.index-reaches-k.is in
    let m = place_room rs i c.args.slab r c.deref.result.now _ _ (sym c.spans-else-not-spans.ensures ∙ c.if-spans.true) (c.deref.ensures.value ∙ c.in_ok-came.ensures) p c.count_lower.ensures in
    let o = c.args.places.now.below.small in
    let q = c.args.places.now.below.ok in
    omega (arith, n, m, o, q.0, q.1)

pub count_lower-requires-then-spans-clause-others :
    goal.count_lower-requires-then-spans-clause-others
count_lower-requires-then-spans-clause-others c =
    none_among c.args.reaches.now c.args.places.now.slab (is_new c.args.slab c.args.places.now.slab) c.deref-then-spans.result.now c.requires.slanted (new_across c.args.slab c.args.places.now.slab) (c.deref-then-spans.ensures.value ∙ c.in_ok-gone.ensures)

pub overflow_sub-place : goal.overflow_sub-place
overflow_sub-place c =
    let rs = c.args.reaches.now in
    let i = c.args.places.now.slab in
    let r = c.index-reaches-k.result in
    let p = c.index.ensures ∙ place_at rs i c.loop-k.k _ r c.args.places.now.below.items c.requires.places c.loop-k-test.true c.index-reaches-k.is in
    (place_moved rs i c.args.slab r c.deref.result.now c.deref-then-spans.result.now _ _ _ (sym c.spans-else-not-spans.ensures ∙ c.if-spans.true) (sym c.spans.ensures ∙ c.if-not-spans.false) (c.deref.ensures.value ∙ c.in_ok-came.ensures) (c.deref-then-spans.ensures.value ∙ c.in_ok-gone.ensures) p c.count_lower.ensures c.count_lower-then-spans.ensures).0

pub count_lower-requires-else-spans-clause-others :
    goal.count_lower-requires-else-spans-clause-others
count_lower-requires-else-spans-clause-others c =
    none_among c.args.reaches.now c.args.slab (is_across c.args.slab) c.deref-else-spans.result.now c.requires.slanted (λ r h. h) (c.deref-else-spans.ensures.value ∙ c.in_ok-present.ensures)

pub loop-k-preserved : goal.loop-k-preserved
loop-k-preserved c =
    let rs = c.args.reaches.now in
    let i = c.args.places.now.slab in
    let j = c.args.slab in
    let r = c.index-reaches-k.result in
    let added = place_added rs j c.loop-k.k r c.if-not-spans.place c.loop-k.below.items c.push.new.self.items c.loop-k-test.true c.index-reaches-k.is c.loop-k.invariant in
    elim c.if-not-spans.branch [
      | then-not-spans w ↦ added (w.place-is ∙ place_none rs j r (sym c.spans.ensures ∙ w.if-not-spans.true)) c.in_ok-push.ensures.items
      | else-not-spans+then-spans w ↦
          added (w.place-is
          ∙ (place_moved rs i j r w.deref.result.now w.deref-then-spans.result.now _ _ _ (sym w.spans-else-not-spans.ensures ∙ w.if-spans.true) (sym c.spans.ensures ∙ w.if-not-spans.false) (w.deref.ensures.value ∙ c.in_ok-came.ensures) (w.deref-then-spans.ensures.value ∙ c.in_ok-gone.ensures)
          (w.index.ensures ∙ place_at rs i c.loop-k.k _ r c.args.places.now.below.items c.requires.places c.loop-k-test.true c.index-reaches-k.is) w.count_lower.ensures w.count_lower-then-spans.ensures).1) c.in_ok-push.ensures.items
      | else-not-spans+else-spans w ↦
          added (w.place-is ∙ place_new rs j r w.deref-else-spans.result.now _ (sym c.spans.ensures ∙ w.if-not-spans.false) (w.deref-else-spans.ensures.value ∙ c.in_ok-present.ensures) w.count_lower-else-spans.ensures) c.in_ok-push.ensures.items
    ]

pub returns-clause-places : goal.returns-clause-places
returns-clause-places c = places_done c.args.reaches.now c.args.slab c.loop-k.k c.loop-k.below.items c.loop-k-test.false c.loop-k.invariant
