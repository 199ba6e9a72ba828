use Rattle.std.proofs.Common.{sym, subst}
use Rattle.slab_laws.specs.declared.names.DartId.{DartId}
use Rattle.slab_laws.specs.View.{HasDart}
use Rattle.counted_looks.specs.declared.boundary_part.BoundaryPart.TheVariants.{Dart}
use Rattle.counted_looks.proofs.PartsSeen.{one_look, round_count, round_seen}
use Rattle.counted_looks.proofs.boundary.look_on_cycle.Goals as goal

pub look_at_cycle-requires-clause-ready : goal.look_at_cycle-requires-clause-ready
look_at_cycle-requires-clause-ready g c = c.requires.ready

pub look_round-requires-clause-first : goal.look_round-requires-clause-first
look_round-requires-clause-first g c = subst (HasDart (g.S.NameCalls.graph c.args.sight.now)) (sym c.dart_on.ensures) (c.requires.darts c.args.cycle c.requires.cycle).0

pub look_round-requires-clause-ready : goal.look_round-requires-clause-ready
look_round-requires-clause-ready g c = (c.requires.ready.0, c.look_at_cycle.ensures.ready c.requires.ready.0 c.requires.ready.1)

pub look_round-requires-clause-seen : goal.look_round-requires-clause-seen
look_round-requires-clause-seen g c =
    subst (λ (d : DartId). g.K.Looker.has_seen (g.S.NameCalls.graph c.args.sight.now) c.look_at_cycle.new.self (Dart d)) (sym c.dart_on.ensures) c.look_at_cycle.ensures.first

pub returns-then-look_at_cycle-clause-seen : goal.returns-then-look_at_cycle-clause-seen
returns-then-look_at_cycle-clause-seen g c = c.look_at_cycle.ensures.whole c.if-look_at_cycle.true

pub returns-then-look_at_cycle-clause-count : goal.returns-then-look_at_cycle-clause-count
returns-then-look_at_cycle-clause-count g c =
    one_look (g.S.NameCalls.graph c.args.sight.now) (g.S.NameCalls.faces c.args.sight.now) (g.S.NameCalls.lists c.args.sight.now) c.requires.sound c.requires.darts c.args.cycle c.requires.cycle c.args.steps.now c.look_at_cycle.new.steps c.look_at_cycle.ensures.one

pub returns-clause-ready : goal.returns-clause-ready
returns-clause-ready g c = λ k m. c.look_round.ensures.ready k (c.look_at_cycle.ensures.ready k m)

pub returns-clause-seen : goal.returns-clause-seen
returns-clause-seen g c =
    let v = g.S.NameCalls.graph c.args.sight.now in
    round_seen v (g.S.NameCalls.faces c.args.sight.now) (g.S.NameCalls.lists c.args.sight.now) c.requires.sound c.requires.darts c.args.cycle c.requires.cycle c.dart_on.result c.dart_on.ensures (g.K.Looker.has_seen v c.look_round.new.looker) c.look_round.ensures.seen

pub returns-clause-still : goal.returns-clause-still
returns-clause-still g c = λ t k. c.look_round.ensures.still t (c.look_at_cycle.ensures.still t k)

pub returns-clause-count : goal.returns-clause-count
returns-clause-count g c =
    round_count (g.S.NameCalls.graph c.args.sight.now) (g.S.NameCalls.faces c.args.sight.now) (g.S.NameCalls.lists c.args.sight.now) c.requires.sound c.requires.darts c.args.cycle c.requires.cycle c.dart_on.result c.dart_on.ensures c.args.steps.now c.look_at_cycle.new.steps c.look_round.new.steps c.look_at_cycle.ensures.one c.look_round.ensures.count
