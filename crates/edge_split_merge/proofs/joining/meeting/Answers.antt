use Rattle.std.proofs.Common.{◌≡◌, true, false, sym, ap, subst, ◌∙◌}
use Rattle.plane_graphs.specs.Line.{precedes}
use Rattle.slab_laws.specs.View.{View, HasVertex, HasDart, point_in, twin_in, target_in, next_in}
use Rattle.arr_notes.specs.AfterAround.{after_in}
use Rattle.edge_split_merge.proofs.Meeting.{vertex_has, after_has, found_up, found_down}
use Rattle.edge_split_merge.proofs.joining.meeting.Goals as goal

pub out_of-requires : goal.out_of-requires
out_of-requires c = vertex_has c.args.records.now.graph c.args.v c.requires.sound c.requires.fits.0 c.requires.fits.1 c.requires.fits.2

pub unreachable-requires : goal.unreachable-requires
unreachable-requires c = c.in_default.ensures.none c.requires.fits.1 (c.requires.fits.2.second, c.requires.fits.2.leaves)

pub twin-into_second-requires : goal.twin-into_second-requires
twin-into_second-requires c =
    let v : View = c.args.records.now.graph in
    let q : c.next-second.result ≡ after_in v c.in-Some.first = c.next-second.ensures ∙ ap (next_in v) c.twin-into_first.ensures.twin in
    subst (HasDart v) (sym q) (after_has v c.args.v c.requires.sound c.requires.fits.0 c.requires.fits.1 c.requires.fits.2 c.in-Some.first c.in-Some.ensures.some)

pub point-here-requires : goal.point-here-requires
point-here-requires c = vertex_has c.args.records.now.graph c.args.v c.requires.sound c.requires.fits.0 c.requires.fits.1 c.requires.fits.2

pub point-there-requires : goal.point-there-requires
point-there-requires c =
    let v : View = c.args.records.now.graph in
    subst (HasVertex v) (sym c.target.ensures) (c.requires.sound.linked.source (twin_in v c.in-Some.first) (c.requires.sound.twinned.has c.in-Some.first c.in-Some.ensures.some.0))

pub returns-then-lt : goal.returns-then-lt
returns-then-lt c =
    let v : View = c.args.records.now.graph in
    let q : c.next-second.result ≡ after_in v c.in-Some.first = c.next-second.ensures ∙ ap (next_in v) c.twin-into_first.ensures.twin in
    let b : precedes (point_in v c.args.v) (point_in v (target_in v c.in-Some.first)) ≡ true =
    (λ i. precedes (sym c.point-here.ensures i) ((sym (c.point-there.ensures ∙ ap (point_in v) c.target.ensures)) i)) ∙ sym c.lt.ensures ∙ c.if-lt.true in
    found_up v c.args.v c.requires.sound c.requires.fits.0 c.requires.fits.1 c.requires.fits.2 c.in-Some.first c.next-second.result c.twin-into_second.result c.in-Some.ensures.some b q c.twin-into_second.ensures.twin

pub returns-else-lt : goal.returns-else-lt
returns-else-lt c =
    let v : View = c.args.records.now.graph in
    let q : c.next-second.result ≡ after_in v c.in-Some.first = c.next-second.ensures ∙ ap (next_in v) c.twin-into_first.ensures.twin in
    let b : precedes (point_in v c.args.v) (point_in v (target_in v c.in-Some.first)) ≡ false =
    (λ i. precedes (sym c.point-here.ensures i) ((sym (c.point-there.ensures ∙ ap (point_in v) c.target.ensures)) i)) ∙ sym c.lt.ensures ∙ c.if-lt.false in
    found_down v c.args.v c.requires.sound c.requires.fits.0 c.requires.fits.1 c.requires.fits.2 c.in-Some.first c.next-second.result c.twin-into_first.result c.in-Some.ensures.some b q c.twin-into_first.ensures.twin
