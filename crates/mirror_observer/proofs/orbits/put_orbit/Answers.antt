use Rattle.std.proofs.Common.{◌≢◌, ◌<◌, sym, ◌∙◌, subst}
use Rattle.slab_laws.specs.declared.names.DartId.{DartId}
use Rattle.slab_laws.specs.View.{next_in}
use Rattle.arr_notes.proofs.Names.{same_name as same_read, other_name as other_read}
use Rattle.boundary_cycles.proofs.NamedWalks.{ways}
use Rattle.mirror_observer.specs.Tables.{darts_of}
use Rattle.mirror_observer.proofs.OrbitWalk.{IsPutting, starts, goes_on, shorter, finishes}
use Rattle.mirror_observer.proofs.orbits.put_orbit.Goals as goal

pub orbit-init : goal.orbit-init
orbit-init c = starts c.args.darts.now.entries c.args.d c.args.cycle c.requires.sound c.requires.dart c.args.cycle_of.now.entries

pub returns-then-eq : goal.returns-then-eq
returns-then-eq c =
    finishes c.args.darts.now.entries c.args.d c.args.cycle c.orbit.dart c.args.cycle_of.now.entries c.orbit.cycle_of.entries _ c.orbit.invariant c.put_dart.ensures
    (sym c.next_of-dart.ensures ∙ same_read c.next_of-dart.result c.args.d c.eq.result c.eq.ensures c.if-eq.true) c.requires.rows

pub orbit-smaller : goal.orbit-smaller
orbit-smaller c =
    let g = darts_of c.args.darts.now.entries in
    let ne : next_in g c.orbit.dart ≢ c.args.d = λ e. other_read c.next_of-dart.result c.args.d c.eq.result c.eq.ensures c.if-eq.false (c.next_of-dart.ensures ∙ e) in
    subst (λ (z : DartId). ways g c.args.d (next_in g z) < ways g c.args.d (next_in g c.orbit.dart)) (sym c.next_of-dart.ensures)
    (shorter c.args.darts.now.entries c.args.d c.args.cycle c.orbit.dart c.args.cycle_of.now.entries c.orbit.cycle_of.entries _ c.orbit.invariant c.put_dart.ensures ne)

pub orbit-preserved : goal.orbit-preserved
orbit-preserved c =
    let ds = c.args.darts.now.entries in
    let ne : next_in (darts_of ds) c.orbit.dart ≢ c.args.d = λ e. other_read c.next_of-dart.result c.args.d c.eq.result c.eq.ensures c.if-eq.false (c.next_of-dart.ensures ∙ e) in
    subst (λ (z : DartId). IsPutting ds c.args.d z c.args.cycle c.args.cycle_of.now.entries c.put_dart.new.cycle_of.entries) (sym c.next_of-dart.ensures)
    (goes_on ds c.args.d c.args.cycle c.orbit.dart c.args.cycle_of.now.entries c.orbit.cycle_of.entries _ c.orbit.invariant c.put_dart.ensures ne)
