use Rattle.std.proofs.Common.{◌≡◌, ◌≢◌, ◌<◌, sym, ap, ◌∙◌, subst}
use Rattle.slab_laws.specs.declared.names.DartId.{DartId}
use Rattle.slab_laws.specs.View.{HasDart, next_in}
use Rattle.arr_notes.proofs.Names.{same_name as same_read, other_name as other_read}
use Rattle.dcel_records.specs.RecordsView.{GraphView}
use Rattle.boundary_cycles.proofs.NamedWalks.{ways}
use Rattle.cycle_writers.proofs.RunWritten.{IsWriting, begins, goes_on, ends, shorter}
use Rattle.cycle_writers.proofs.runs.put_run.Goals as goal

pub run-init : goal.run-init
run-init c = begins c.args.records.now c.args.from c.args.to c.args.cycle c.requires.from c.requires.cycle c.requires.together

pub set_cycle-requires-clause-dart : goal.set_cycle-requires-clause-dart
set_cycle-requires-clause-dart c = subst (λ (z : GraphView). HasDart z.graph c.run.dart) (sym c.run.invariant.graph) c.run.invariant.there

pub set_cycle-requires-clause-cycle : goal.set_cycle-requires-clause-cycle
set_cycle-requires-clause-cycle c = c.run.invariant.has

pub next-dart-requires : goal.next-dart-requires
next-dart-requires c = subst (λ (z : GraphView). HasDart z.graph c.run.dart) (sym (c.set_cycle.ensures.graph ∙ c.run.invariant.graph)) c.run.invariant.there

pub returns-then-eq-clause-graph : goal.returns-then-eq-clause-graph
returns-then-eq-clause-graph c = c.set_cycle.ensures.graph ∙ c.run.invariant.graph

pub returns-then-eq-clause-run : goal.returns-then-eq-clause-run
returns-then-eq-clause-run c =
    let old = c.args.records.now in
    let n : c.next-dart.result ≡ next_in old.graph c.run.dart = c.next-dart.ensures ∙ ap (λ (z : GraphView). next_in z.graph c.run.dart) (c.set_cycle.ensures.graph ∙ c.run.invariant.graph) in
    ends old c.args.from c.args.to c.args.cycle c.run.records c.set_cycle.new.self c.run.dart c.run.invariant c.set_cycle.ensures.graph c.set_cycle.ensures.faces
    (sym n ∙ same_read c.next-dart.result c.args.to c.eq.result c.eq.ensures c.if-eq.true)

pub run-smaller : goal.run-smaller
run-smaller c =
    let old = c.args.records.now in
    let n : c.next-dart.result ≡ next_in old.graph c.run.dart = c.next-dart.ensures ∙ ap (λ (z : GraphView). next_in z.graph c.run.dart) (c.set_cycle.ensures.graph ∙ c.run.invariant.graph) in
    let ne : next_in old.graph c.run.dart ≢ c.args.to = λ e. other_read c.next-dart.result c.args.to c.eq.result c.eq.ensures c.if-eq.false (n ∙ e) in
    subst (λ (z : DartId). ways old.graph c.args.to (next_in old.graph z) < ways old.graph c.args.to (next_in old.graph c.run.dart)) (sym n)
    (shorter old c.args.from c.args.to c.args.cycle c.run.records c.run.dart c.run.invariant c.requires.sound c.requires.to ne)

pub run-preserved : goal.run-preserved
run-preserved c =
    let old = c.args.records.now in
    let n : c.next-dart.result ≡ next_in old.graph c.run.dart = c.next-dart.ensures ∙ ap (λ (z : GraphView). next_in z.graph c.run.dart) (c.set_cycle.ensures.graph ∙ c.run.invariant.graph) in
    let ne : next_in old.graph c.run.dart ≢ c.args.to = λ e. other_read c.next-dart.result c.args.to c.eq.result c.eq.ensures c.if-eq.false (n ∙ e) in
    subst (λ (z : DartId). IsWriting old c.set_cycle.new.self c.args.from c.args.to z c.args.cycle) (sym n)
    (goes_on old c.args.from c.args.to c.args.cycle c.run.records c.set_cycle.new.self c.run.dart c.run.invariant c.set_cycle.ensures.graph c.set_cycle.ensures.faces c.requires.sound ne)
