use Rattle.std.proofs.Common.{◌≡◌, ◌∙◌, sym, ap, get_or, false}
use Rattle.slab_laws.specs.Listed.{distinct}
use Rattle.slab_laws.specs.View.{dart_id}
use Rattle.record_orders.proofs.BodiesGrown.{seen_none, cycle_pushed, cycle_passed, seen_more}
use Rattle.record_orders.proofs.cycles.cycles_of.Goals.{then-not-met+in_ok-push, else-not-met}
use Rattle.record_orders.proofs.cycles.cycles_of.Goals as goal

pub loop-dart-init : goal.loop-dart-init
unfolding distinct
loop-dart-init g c = record { seen = seen_none (g.R.Faced.faces c.args.records.now) c.new-seen.result.items c.new-seen.ensures.items; cycles = c.new-cycles.ensures.items }

pub loop-dart-preserved : goal.loop-dart-preserved
loop-dart-preserved g c =
    let f = g.R.Faced.faces c.args.records.now in
    let ds = c.args.darts.now in
    let i = c.loop-dart.dart-index in
    let cycle = c.cycle-cycle.result in
    let seen = c.loop-dart.seen.items in
    let told : get_or seen cycle.0 false ≡ c.read_at-met.result = sym (c.read_at-met.ensures ∙ ap (λ bs. get_or bs cycle.0 false) c.deref.ensures.value) in
    record {
      seen = seen_more f ds i (dart_id 0) c.loop-dart-test.true seen cycle c.cycle-cycle.ensures.cycle c.loop-dart.invariant.seen c.write_at.new.table.items c.in_ok-write_at.ensures;
      cycles = elim c.if-not-met.branch [
        | then-not-met+in_ok-push w ↦
            cycle_pushed f ds i (dart_id 0) c.loop-dart-test.true seen cycle c.cycle-cycle.ensures.cycle c.loop-dart.invariant.seen c.loop-dart.cycles.items w.push.new.self.items c.if-not-met.cycles.items w.kind.result w.face.result w.kind.ensures w.face.ensures.face (told ∙ w.if-not-met.true) c.loop-dart.invariant.cycles w.in_ok-push.ensures.items (ap (λ v. v.items) w.cycles-is)
        | else-not-met w ↦ cycle_passed f ds i (dart_id 0) c.loop-dart-test.true seen cycle c.cycle-cycle.ensures.cycle c.loop-dart.invariant.seen c.loop-dart.cycles.items c.if-not-met.cycles.items (told ∙ w.if-not-met.false) c.loop-dart.invariant.cycles (ap (λ v. v.items) w.cycles-is)
      ];
    }
