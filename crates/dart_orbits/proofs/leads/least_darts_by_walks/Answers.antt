use Rattle.std.proofs.Common.{rules, refl, arith}
use Rattle.slab_laws.specs.SpansDrawn.{drawn}
use Rattle.dart_orbits.proofs.WalkedCycles.{none_led, one_more, permuted, all_led}
use Rattle.dart_orbits.proofs.leads.least_darts_by_walks.Goals as goal

pub loop-first-init : goal.loop-first-init
loop-first-init c =
    none_led c.args.nexts.now c.resize.new.self.items (permuted (drawn c.args.points.now c.args.edges.now) c.requires.plane c.args.nexts.now c.requires.nexts) (search rules) (λ k l. c.in_ok-resize.ensures.by_index.1 k 0 refl (let e = c.new-leads.ensures.len in omega arith) l)

pub mark_cycle-requires-clause-counted : goal.mark_cycle-requires-clause-counted
mark_cycle-requires-clause-counted c = c.loop-first.invariant.counted

pub mark_cycle-requires-clause-nexts : goal.mark_cycle-requires-clause-nexts
mark_cycle-requires-clause-nexts c = permuted (drawn c.args.points.now c.args.edges.now) c.requires.plane c.args.nexts.now c.requires.nexts

pub mark_cycle-requires-clause-whole : goal.mark_cycle-requires-clause-whole
mark_cycle-requires-clause-whole c = c.loop-first.invariant.whole

pub loop-first-preserved : goal.loop-first-preserved
loop-first-preserved c = one_more c.args.nexts.now c.loop-first.first c.loop-first.leads.items c.loop-first.invariant c.loop-first-test.true c.mark_cycle.new.leads.items c.mark_cycle.ensures

pub returns : goal.returns
returns c = all_led (drawn c.args.points.now c.args.edges.now) c.requires.plane c.args.nexts.now c.requires.nexts c.loop-first.first c.loop-first.leads.items c.loop-first-test.false c.loop-first.invariant
