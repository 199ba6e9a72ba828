use Rattle.std.proofs.Common.{ℕ, ◌<◌, ◌∙◌, sym, ap, subst, List, length, get_or}
use Rattle.dart_orbits.proofs.NextPlaces.{twin_within, next_pushed, nexts_done, within}
use Rattle.dart_orbits.proofs.nexts.nexts_around.Goals as goal

pub number_at-requires : goal.number_at-requires
number_at-requires c =
    let t = twin_within c.args.points.now c.args.edges.now c.args.darts.now c.requires.plane c.requires.darts c.args.twins.now c.loop-twin.twin-index c.requires.twins c.loop-twin-test.true in
    subst (λ (n : ℕ). get_or c.args.twins.now c.loop-twin.twin-index 0 < n) (sym (ap length c.deref.ensures.value ∙ c.in_ok-afters.ensures.counted)) (within c.args.points.now c.args.edges.now c.args.darts.now c.requires.plane c.requires.darts _ t)

pub loop-twin-preserved : goal.loop-twin-preserved
loop-twin-preserved c =
    let t = twin_within c.args.points.now c.args.edges.now c.args.darts.now c.requires.plane c.requires.darts c.args.twins.now c.loop-twin.twin-index c.requires.twins c.loop-twin-test.true in
    next_pushed c.args.points.now c.args.edges.now c.args.darts.now c.requires.plane c.requires.darts c.args.twins.now c.loop-twin.twin-index c.number_at.result c.loop-twin.nexts.items c.push.new.self.items c.requires.twins c.loop-twin-test.true
    (c.number_at.ensures ∙ ap (λ (xs : List ℕ). get_or xs (get_or c.args.twins.now c.loop-twin.twin-index 0) 0) c.deref.ensures.value ∙ c.in_ok-afters.ensures.each (get_or c.args.twins.now c.loop-twin.twin-index 0) (within c.args.points.now c.args.edges.now c.args.darts.now c.requires.plane c.requires.darts _ t)) c.loop-twin.invariant c.in_ok-push.ensures.items

pub returns : goal.returns
returns c = nexts_done c.args.points.now c.args.edges.now c.args.darts.now c.requires.plane c.requires.darts c.args.twins.now c.loop-twin.twin-index c.loop-twin.nexts.items c.requires.twins c.loop-twin-test.false c.loop-twin.invariant
