use Rattle.std.proofs.Common.{◌≡◌, ◌≢◌, ◌<◌, List, sym, ◌∙◌, subst}
use Rattle.slab_laws.specs.declared.names.DartId.{DartId}
use Rattle.slab_laws.specs.View.{next_in}
use Rattle.arr_notes.proofs.Names.{same_name, other_name}
use Rattle.boundary_cycles.proofs.NamedWalks.{ways}
use Rattle.lower_envelope.specs.Edges.{AreWithCycle}
use Rattle.lower_envelope.proofs.Boundaries.{IsGoneAlong, along_begins, along_nearer, along_goes_on, along_ends}
use Rattle.lower_envelope.proofs.boundary.push_cycle.Goals as goal

pub cycle-init : goal.cycle-init
cycle-init g c = along_begins (g.R.Darts.graph c.args.records.now) c.requires.sound.graph c.args.first c.requires.first c.args.found.now.items

pub next-dart-requires : goal.next-dart-requires
next-dart-requires g c = c.cycle.invariant.walked.at_there

pub returns-then-eq : goal.returns-then-eq
returns-then-eq g c =
    let v = g.R.Darts.graph c.args.records.now in
    let f = g.R.Faced.faces c.args.records.now in
    let old = c.args.found.now.items in
    let back : next_in v c.cycle.dart ≡ c.args.first = sym c.next-dart.ensures ∙ same_name c.next-dart.result c.args.first c.eq.result c.eq.ensures c.if-eq.true in
    subst (λ (ds : List DartId). AreWithCycle v f c.args.first old ds) (sym c.in_ok-push.ensures.items) (along_ends v c.requires.sound.graph c.args.first c.requires.first old c.cycle.dart c.cycle.found.items c.cycle.invariant f c.requires.sound back)

pub cycle-smaller : goal.cycle-smaller
cycle-smaller g c =
    let v = g.R.Darts.graph c.args.records.now in
    let old = c.args.found.now.items in
    let on : next_in v c.cycle.dart ≢ c.args.first = λ e. other_name c.next-dart.result c.args.first c.eq.result c.eq.ensures c.if-eq.false (c.next-dart.ensures ∙ e) in
    subst (λ (z : DartId). ways v c.args.first (next_in v z) < ways v c.args.first (next_in v c.cycle.dart)) (sym c.next-dart.ensures) (along_nearer v c.requires.sound.graph c.args.first c.requires.first old c.cycle.dart c.cycle.found.items c.cycle.invariant on)

pub cycle-preserved : goal.cycle-preserved
cycle-preserved g c =
    let v = g.R.Darts.graph c.args.records.now in
    let old = c.args.found.now.items in
    let on : next_in v c.cycle.dart ≢ c.args.first = λ e. other_name c.next-dart.result c.args.first c.eq.result c.eq.ensures c.if-eq.false (c.next-dart.ensures ∙ e) in
    subst (λ (z : DartId). IsGoneAlong v c.args.first z old c.push.new.self.items) (sym c.next-dart.ensures)
    (subst (λ (ds : List DartId). IsGoneAlong v c.args.first (next_in v c.cycle.dart) old ds) (sym c.in_ok-push.ensures.items) (along_goes_on v c.requires.sound.graph c.args.first c.requires.first old c.cycle.dart c.cycle.found.items c.cycle.invariant on))
