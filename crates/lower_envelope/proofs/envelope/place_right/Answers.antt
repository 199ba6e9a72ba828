use Rattle.std.proofs.Common.{◌<◌, ◌∙◌, ap, ap₂, length, slice_index_or, None, sym, subst}
use Rattle.lower_envelope.specs.Edges.{point_at, slab_right_of}
use Rattle.lower_envelope.proofs.Told.{point_is, place_fits}
use Rattle.lower_envelope.proofs.envelope.place_right.Goals as goal

pub slab_beyond-requires-clause-place : goal.slab_beyond-requires-clause-place
slab_beyond-requires-clause-place c = subst (λ ps. c.args.place < length ps) (sym c.deref-2.ensures.value) (place_fits c.args.slabs.now.points.items c.args.ends.now c.args.place c.requires.points c.requires.place)

pub returns : goal.returns
returns c =
    let ps = c.args.slabs.now.points.items in
    c.stands_at.ensures
    ∙ ap₂ (λ xs n. slice_index_or xs n None) c.deref.ensures.value
    (c.slab_beyond.ensures ∙ ap (λ qs. slab_right_of qs (point_at qs c.args.place)) c.deref-2.ensures.value ∙ ap (slab_right_of ps) (point_is ps c.args.ends.now c.args.place c.requires.points))
