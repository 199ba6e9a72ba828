use Rattle.std.proofs.Common.{◌<◌, ◌+◌, length, sym, subst}
use Rattle.slab_laws.specs.SpansDrawn.{drawn}
use Rattle.dart_orbits.proofs.NextPlaces.{IsFirstOf, first_is, edge_there}
use Rattle.plain_slabs.proofs.NearerDarts.{none_yet, nearer, no_nearer}
use Rattle.plain_slabs.proofs.nexts.first_after.Goals.{then-is_nearer, else-is_nearer}
use Rattle.plain_slabs.proofs.nexts.first_after.Goals as goal

pub is_nearer-requires-clause-from : goal.is_nearer-requires-clause-from
is_nearer-requires-clause-from c = edge_there c.args.points.now c.args.edges.now c.args.darts.now c.requires.plane c.requires.darts c.args.from c.requires.from

pub is_nearer-requires-clause-own : goal.is_nearer-requires-clause-own
is_nearer-requires-clause-own c = edge_there c.args.points.now c.args.edges.now c.args.darts.now c.requires.plane c.requires.darts c.loop-place.place c.loop-place-test.true

pub is_nearer-requires-clause-others : goal.is_nearer-requires-clause-others
is_nearer-requires-clause-others c = edge_there c.args.points.now c.args.edges.now c.args.darts.now c.requires.plane c.requires.darts c.loop-place.first c.loop-place.invariant.below

pub loop-place-init : goal.loop-place-init
loop-place-init c = record {
  below = c.requires.from;
  first = none_yet c.args.points.now c.args.edges.now c.args.darts.now c.requires.plane c.requires.darts c.args.from c.requires.from;
}

pub loop-place-preserved : goal.loop-place-preserved
loop-place-preserved c =
    let points = c.args.points.now in
    let edges = c.args.edges.now in
    let darts = c.args.darts.now in
    let i = c.loop-place.place in
    let h = c.loop-place.invariant in
    elim c.if-is_nearer.branch [
      | then-is_nearer w ↦ record {
        below = subst (λ k. k < length darts) (sym w.first-is) c.loop-place-test.true;
        first =
            subst (λ k. IsFirstOf (drawn points edges) c.args.from k (i + 1)) (sym w.first-is)
            (nearer points edges darts c.requires.plane c.requires.darts c.args.from c.loop-place.first i c.is_nearer.result c.requires.from h.below c.loop-place-test.true c.is_nearer.ensures w.if-is_nearer.true h.first);
      }
      | else-is_nearer w ↦ record {
        below = subst (λ k. k < length darts) (sym w.first-is) h.below;
        first =
            subst (λ k. IsFirstOf (drawn points edges) c.args.from k (i + 1)) (sym w.first-is)
            (no_nearer points edges darts c.requires.plane c.requires.darts c.args.from c.loop-place.first i c.is_nearer.result c.requires.from h.below c.loop-place-test.true c.is_nearer.ensures w.if-is_nearer.false h.first);
      }
    ]

pub returns : goal.returns
returns c = first_is c.args.points.now c.args.edges.now c.args.darts.now c.requires.plane c.requires.darts c.args.from c.loop-place.first c.loop-place.place c.requires.from c.loop-place-test.false c.loop-place.invariant.first
